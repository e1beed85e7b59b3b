-- Lines that are printed one after another, and the empty line after them: where they end, and what is among them.
use Rattle.std.proofs.Common.{◌≡◌, ◌≢◌, ◌<◌, ◌+◌, ℕ, suc, true, false, List, [], ◌∷◌, ◌++◌, length, Option, Some, option_map, refl, sym, ap, ◌∙◌, arith, append_assoc}
use Rattle.std.specs.Prelude.{◌==◌, nat_eq}
use Rattle.std.specs.List.{AllByRecursion}
use Rattle.std.proofs.lemmas.Bool.Decides.{nat_tests}
use Rattle.std.proofs.lemmas.List.{length-append}
use Rattle.http_wire.specs.Heads.{are_paired}
use Rattle.http_fields.specs.Marks.{length_through, empty_line, line_feeds}

-- a byte that is no part of a line's end
abbrev pub IsPlain : ℕ → Type 0
IsPlain b = (b ≢ 13) × (b ≢ 10)

-- a line is such bytes, and one at least
abbrev pub IsLine : List ℕ → Type 0
IsLine line = AllByRecursion IsPlain line × (0 < length line)

abbrev pub AreLines : List (List ℕ) → Type 0
AreLines = AllByRecursion IsLine

-- each line with its end, and the empty line
abbrev pub printed : List (List ℕ) → List ℕ
printed [] = 13 ∷ 10 ∷ []
printed (line ∷ lines) = line ++ 13 ∷ 10 ∷ printed lines

-- ---- where they end

one_more : (o : Option ℕ) (n : ℕ) → o ≡ Some n → option_map (λ k. k + 1) o ≡ Some (n + 1)
one_more o n is = ap (λ (x : Option ℕ). option_map (λ k. k + 1) x) is

not_here : (b : ℕ) (bytes : List ℕ) → b ≢ 13 → length_through empty_line (b ∷ bytes) ≡ option_map (λ n. n + 1) (length_through empty_line bytes)
not_here b bytes other = rw isnt refl
  where
    isnt : nat_eq 13 b ≡ false
    isnt = grind (arith, nat_tests)

-- a line end, and then another line
not_yet : (b : ℕ) (bytes : List ℕ) → b ≢ 13 → length_through empty_line (13 ∷ 10 ∷ b ∷ bytes) ≡ option_map (λ n. n + 1) (length_through empty_line (10 ∷ b ∷ bytes))
not_yet b bytes other = rw isnt refl
  where
    isnt : nat_eq 13 b ≡ false
    isnt = grind (arith, nat_tests)

zero_more : (n : ℕ) → 0 + n ≡ n
zero_more n = omega arith

past_line : (line bytes : List ℕ) (n : ℕ) → AllByRecursion IsPlain line → length_through empty_line bytes ≡ Some n → length_through empty_line (line ++ bytes) ≡ Some (length line + n)
past_line [] bytes n plain is = is ∙ ap Some (sym (zero_more n))
past_line (b ∷ line) bytes n plain is =
    not_here b (line ++ bytes) plain.0.0 ∙ one_more (length_through empty_line (line ++ bytes)) (length line + n) (past_line line bytes n plain.1 is) ∙ ap Some (sum (length line) n)
  where
    sum : (m k : ℕ) → m + k + 1 ≡ suc m + k
    sum m k = omega arith

-- they end with the empty line, whatever comes after it
pub lines_end : (line : List ℕ) (lines : List (List ℕ)) (rest : List ℕ) → IsLine line → AreLines lines
    → length_through empty_line (printed (line ∷ lines) ++ rest) ≡ Some (length (printed (line ∷ lines)))
lines_end line [] rest one others =
    ap (length_through empty_line) (append_assoc line (13 ∷ 10 ∷ 13 ∷ 10 ∷ []) rest)
    ∙ past_line line (13 ∷ 10 ∷ 13 ∷ 10 ∷ rest) 4 one.0 refl
    ∙ ap Some (sym (length-append line (13 ∷ 10 ∷ 13 ∷ 10 ∷ [])))
lines_end line ([] ∷ lines) rest one others = absurd (omega (arith, others.0.1))
lines_end line ((b ∷ next) ∷ lines) rest one others =
    ap (length_through empty_line) (append_assoc line (13 ∷ 10 ∷ printed ((b ∷ next) ∷ lines)) rest)
    ∙ past_line line (13 ∷ 10 ∷ (printed ((b ∷ next) ∷ lines) ++ rest)) (length (printed ((b ∷ next) ∷ lines)) + 2) one.0 (after (lines_end (b ∷ next) lines rest others.0 others.1))
    ∙ ap Some (sum (length line) (length (printed ((b ∷ next) ∷ lines))) ∙ sym (length-append line (13 ∷ 10 ∷ printed ((b ∷ next) ∷ lines))))
  where
    two : (n : ℕ) → n + 1 + 1 ≡ n + 2
    two n = omega arith

    sum : (m n : ℕ) → m + (n + 2) ≡ m + suc (suc n)
    sum m n = omega arith

    after : length_through empty_line (printed ((b ∷ next) ∷ lines) ++ rest) ≡ Some (length (printed ((b ∷ next) ∷ lines)))
        → length_through empty_line (13 ∷ 10 ∷ (printed ((b ∷ next) ∷ lines) ++ rest)) ≡ Some (length (printed ((b ∷ next) ∷ lines)) + 2)
    after further =
        not_yet b ((next ++ 13 ∷ 10 ∷ printed lines) ++ rest) others.0.0.0.0
        ∙ one_more _ (length (printed ((b ∷ next) ∷ lines)) + 1) (not_here 10 (printed ((b ∷ next) ∷ lines) ++ rest) (λ e. absurd cc)
        ∙ one_more _ (length (printed ((b ∷ next) ∷ lines))) further)
        ∙ ap Some (two (length (printed ((b ∷ next) ∷ lines))))

-- ---- what is among them

feeds_of_line : (line bytes : List ℕ) → AllByRecursion IsPlain line → line_feeds (line ++ bytes) ≡ line_feeds bytes
feeds_of_line [] bytes plain = refl
feeds_of_line (b ∷ line) bytes plain = rw isnt (zero_more (line_feeds (line ++ bytes)) ∙ feeds_of_line line bytes plain.1)
  where
    other : b ≢ 10
    other = plain.0.1

    isnt : (b == 10) ≡ false
    isnt = grind (arith, nat_tests)

pub feeds_of_lines : (lines : List (List ℕ)) → AreLines lines → line_feeds (printed lines) ≡ length lines + 1
feeds_of_lines [] are = refl
feeds_of_lines (line ∷ lines) are = feeds_of_line line (13 ∷ 10 ∷ printed lines) are.0.0 ∙ one_feed (line_feeds (printed lines)) (length lines) (feeds_of_lines lines are.1)
  where
    one_feed : (m n : ℕ) → m ≡ n + 1 → 0 + (1 + m) ≡ suc n + 1
    one_feed m n e = omega (arith, e)

-- each line feed is after a carriage return, and after each of these is a line feed
paired_line : (before : ℕ) (line bytes : List ℕ) → before ≢ 13 → AllByRecursion IsPlain line → ((b : ℕ) → b ≢ 13 → are_paired b bytes ≡ true) → are_paired before (line ++ bytes) ≡ true
paired_line before [] bytes other plain rest = rest before other
paired_line before (b ∷ line) bytes other plain rest = rw isnt (rw no_feed (paired_line b line bytes plain.0.0 plain.1 rest))
  where
    isnt : (before == 13) ≡ false
    isnt = grind (arith, nat_tests)

    none : b ≢ 10
    none = plain.0.1

    no_feed : (b == 10) ≡ false
    no_feed = grind (arith, nat_tests)

paired_end : (before : ℕ) (bytes : List ℕ) → before ≢ 13 → are_paired 10 bytes ≡ true → are_paired before (13 ∷ 10 ∷ bytes) ≡ true
paired_end before bytes other rest = rw isnt rest
  where
    isnt : (before == 13) ≡ false
    isnt = grind (arith, nat_tests)

pub lines_paired : (before : ℕ) (lines : List (List ℕ)) → before ≢ 13 → AreLines lines → are_paired before (printed lines) ≡ true
lines_paired before [] other are = paired_end before [] other refl
lines_paired before (line ∷ lines) other are =
    paired_line before line (13 ∷ 10 ∷ printed lines) other are.0.0 (λ b differs. paired_end b (printed lines) differs (lines_paired 10 lines (λ e. absurd cc) are.1))
