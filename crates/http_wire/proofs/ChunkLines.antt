-- Chunk lines as they are spelled, and as they are read.
use Rattle.std.proofs.Common.{◌≡◌, ℕ, suc, ◌+◌, ◌-◌, ◌<◌, ◌≤◌, ◌&&◌, ◌⊎◌, inl, inr, Bool, true, false, true≢false, List, [], ◌∷◌, ◌++◌, length, take, drop, refl, sym, ap, subst, ◌∙◌, arith, cond, length-append, append_assoc}
use Rattle.std.specs.Prelude.{Option, Some, None, option_map, nat_eq, nat_le, nat_lt, ◌==◌}
use Rattle.std.specs.List.{starts_with, list_all, position_or_len, before_first, after_first}
use Rattle.std.specs.Char.{is_ascii_hexdigit}
use Rattle.std.specs.Str.Parse.{digits_value}
use Rattle.std.proofs.lemmas.Bool.{eqb-true, leb-true, ltb-true, le-leb, lt-ltb}
use Rattle.std.proofs.lemmas.List.{take-append-drop, append-nil, take_all, length-take}
use Rattle.std.proofs.lemmas.List.Sums.{AllPass-from_list_all, list_all-from_AllPass}
use Rattle.std.proofs.lemmas.List.Folds.{list_all-append}
use Rattle.std.proofs.Math.Seq.{take-append_seam, drop-append_seam}
use Rattle.httparse.specs.Grammar.{ChunkLine, print_chunk_line, print_extension, IsExtension, is_extension_byte, chunk_size as line_size}
use Rattle.http_fields.specs.Marks.{line_end, length_through}
use Rattle.http_fields.specs.Chunks.{size_of_digits, chunk_size}
use Rattle.http_wire.specs.Chunked.{IsShortLine}
use Rattle.http_fields.proofs.FoundMarks.{is_through, through_stays, through_first_stays}

-- ---- where a line ends

both : (x y : Bool) → (x && y) ≡ true → (x ≡ true) × (y ≡ true)
both true true is = (refl, refl)
both true false is = absurd (true≢false (sym is))
both false y is = absurd (true≢false (sym is))

-- bytes that begin with CR LF
pub begins : (bytes : List ℕ) → starts_with nat_eq bytes line_end ≡ true → bytes ≡ 13 ∷ 10 ∷ drop 2 bytes
begins [] is = absurd (true≢false (sym is))
begins (b ∷ []) is = let two = both (nat_eq 13 b) (starts_with nat_eq [] (10 ∷ [])) is in absurd (true≢false (sym two.1))
begins (b ∷ c ∷ bytes) is =
    let one = both (nat_eq 13 b) (nat_eq 10 c && true) is in
    let other = both (nat_eq 10 c) true one.1 in
    λ i. sym (eqb-true 13 b one.0) i ∷ sym (eqb-true 10 c other.0) i ∷ bytes

-- the bytes in front of the first CR LF
abbrev SplitsAt : List ℕ → ℕ → Type 0
SplitsAt bytes n = bytes ≡ take (n - 2) bytes ++ (13 ∷ 10 ∷ drop n bytes)

splits_later : (b : ℕ) (bytes : List ℕ) (n : ℕ) (r : Option ℕ) → ((j : ℕ) → r ≡ Some j → SplitsAt bytes j × (2 ≤ j)) →
    option_map (λ k. k + 1) r ≡ Some n → SplitsAt (b ∷ bytes) n
splits_later b bytes n None later is = absurd cc
splits_later b bytes n (Some j) later is =
    let next : j + 1 ≡ n = cc in
    let inner = later j refl in
    let place : suc (j - 2) ≡ n - 2 = omega (arith, next, inner.1) in
    let same : suc j ≡ n = omega (arith, next) in
    ap (λ (xs : List ℕ). b ∷ xs) inner.0
    ∙ ap (λ (k : ℕ). take k (b ∷ bytes) ++ (13 ∷ 10 ∷ drop (suc j) (b ∷ bytes))) place
    ∙ ap (λ (k : ℕ). take (n - 2) (b ∷ bytes) ++ (13 ∷ 10 ∷ drop k (b ∷ bytes))) same

splits_here : (b : ℕ) (bytes : List ℕ) (n : ℕ) (t : Bool) → ((j : ℕ) → length_through line_end bytes ≡ Some j → SplitsAt bytes j × (2 ≤ j)) →
    starts_with nat_eq (b ∷ bytes) line_end ≡ t → cond t (Some 2) (option_map (λ k. k + 1) (length_through line_end bytes)) ≡ Some n → SplitsAt (b ∷ bytes) n
splits_here b bytes n true later at is =
    let two : 2 ≡ n = cc in
    begins (b ∷ bytes) at ∙ ap (λ (k : ℕ). take (k - 2) (b ∷ bytes) ++ (13 ∷ 10 ∷ drop k (b ∷ bytes))) two
splits_here b bytes n false later at is = splits_later b bytes n (length_through line_end bytes) later is

through_splits : (bytes : List ℕ) (n : ℕ) → length_through line_end bytes ≡ Some n → SplitsAt bytes n
through_splits [] n is = absurd cc
through_splits (b ∷ bytes) n is =
    splits_here b bytes n (starts_with nat_eq (b ∷ bytes) line_end)
    (λ j found. (through_splits bytes j found, (is_through line_end bytes j found).long)) refl is

-- the same where the first bytes alone are looked at
pub line_splits : (bytes : List ℕ) (n : ℕ) → length_through line_end (take 64 bytes) ≡ Some n → bytes ≡ take (n - 2) bytes ++ (13 ∷ 10 ∷ drop n bytes)
line_splits bytes n is =
    through_splits bytes n
    (subst (λ (xs : List ℕ). length_through line_end xs ≡ Some n) (take-append-drop 64 bytes) (through_stays line_end (take 64 bytes) (drop 64 bytes) n is))

-- bytes without CR end before the CR LF after them
ends_by : (t : Bool) (k : ℕ) (r : Option ℕ) → t ≡ false → r ≡ Some k → cond t (Some 2) (option_map (λ j. j + 1) r) ≡ Some (k + 1)
ends_by true k r is found = absurd (true≢false is)
ends_by false k r is found = ap (option_map (λ j. j + 1)) found

isnt_begun : (b : ℕ) (bytes : List ℕ) → is_extension_byte b ≡ true → starts_with nat_eq (b ∷ bytes) line_end ≡ false
isnt_begun b bytes plain = either (nat_eq 13 b) refl
  where
    either : (t : Bool) → nat_eq 13 b ≡ t → (t && starts_with nat_eq bytes (10 ∷ [])) ≡ false
    either false is = refl
    either true is = absurd (true≢false (sym (subst (λ (x : ℕ). is_extension_byte x ≡ true) (sym (eqb-true 13 b is)) plain)))

pub ends_there : (text rest : List ℕ) → list_all is_extension_byte text ≡ true → length_through line_end (text ++ (13 ∷ 10 ∷ rest)) ≡ Some (length text + 2)
ends_there [] rest plain = refl
ends_there (b ∷ text) rest plain =
    let one = both (is_extension_byte b) (list_all is_extension_byte text) plain in
    ends_by (starts_with nat_eq (b ∷ (text ++ (13 ∷ 10 ∷ rest))) line_end) (length text + 2) (length_through line_end (text ++ (13 ∷ 10 ∷ rest)))
    (isnt_begun b (text ++ (13 ∷ 10 ∷ rest)) one.0) (ends_there text rest one.1)
    ∙ ap Some (more (length text))
  where
    more : (k : ℕ) → k + 2 + 1 ≡ suc k + 2
    more k = omega arith

-- ---- cutting at the semicolon

place_more : (b : ℕ) (text : List ℕ) → (b == 59) ≡ false → position_or_len (λ c. c == 59) (b ∷ text) ≡ suc (position_or_len (λ c. c == 59) text)
place_more b text isnt = rw isnt (omega arith)

before_more : (b : ℕ) (text : List ℕ) → (b == 59) ≡ false → before_first (λ c. c == 59) (b ∷ text) ≡ b ∷ before_first (λ c. c == 59) text
before_more b text isnt = ap (λ (k : ℕ). take k (b ∷ text)) (place_more b text isnt)

after_more : (b : ℕ) (text : List ℕ) → (b == 59) ≡ false → after_first (λ c. c == 59) (b ∷ text) ≡ after_first (λ c. c == 59) text
after_more b text isnt =
    let place : position_or_len (λ c. c == 59) (b ∷ text) + 1 ≡ suc (position_or_len (λ c. c == 59) text + 1) = omega (arith, place_more b text isnt) in
    ap (λ (k : ℕ). drop k (b ∷ text)) place

place_here : (b : ℕ) (text : List ℕ) → (b == 59) ≡ true → position_or_len (λ c. c == 59) (b ∷ text) ≡ 0
place_here b text is = rw is refl

-- a text is what is before the mark, or that with the mark and what is after it
abbrev IsCutAtMark : List ℕ → Type 0
IsCutAtMark text =
    (text ≡ before_first (λ b. b == 59) text)
    ⊎ (text ≡ before_first (λ b. b == 59) text ++ 59 ∷ after_first (λ b. b == 59) text)

cut_by : (b : ℕ) (text : List ℕ) (t : Bool) → (b == 59) ≡ t → IsCutAtMark text → IsCutAtMark (b ∷ text)
cut_by b text true is later =
    let before : before_first (λ c. c == 59) (b ∷ text) ≡ [] = ap (λ (k : ℕ). take k (b ∷ text)) (place_here b text is) in
    let after : after_first (λ c. c == 59) (b ∷ text) ≡ text = ap (λ (k : ℕ). drop (k + 1) (b ∷ text)) (place_here b text is) in
    inr ((λ i. eqb-true b 59 is i ∷ text) ∙ (λ i. sym before i ++ 59 ∷ sym after i))
cut_by b text false is (inl none) = inl (ap (λ (xs : List ℕ). b ∷ xs) none ∙ sym (before_more b text is))
cut_by b text false is (inr some) =
    inr (ap (λ (xs : List ℕ). b ∷ xs) some ∙ (λ i. sym (before_more b text is) i ++ 59 ∷ sym (after_more b text is) i))

pub cut_at_mark : (text : List ℕ) → IsCutAtMark text
cut_at_mark [] = inl refl
cut_at_mark (b ∷ text) = cut_by b text (b == 59) refl (cut_at_mark text)

-- ---- lines that are read are spelled

choice_is : {A : Type 0} (t : Bool) (r : Option A) (x : A) → cond t r None ≡ Some x → (t ≡ true) × (r ≡ Some x)
choice_is true r x is = (refl, is)
choice_is false r x is = absurd cc

some_is : {A : Type 0} (t : Bool) (y x : A) → cond t (Some y) None ≡ Some x → (t ≡ true) × (y ≡ x)
some_is true y x is = (refl, cc)
some_is false y x is = absurd cc

-- a line that was found at the front of bytes
pub record IsLineOf (bytes : List ℕ) (n s : ℕ) : Type 0 where
  pub line : ChunkLine
  pub short : IsShortLine line
  pub is : bytes ≡ print_chunk_line line ++ drop n bytes
  pub long : length (print_chunk_line line) ≡ n
  pub size : line_size line ≡ s

printed : (digits : List ℕ) (extension : Option (List ℕ)) →
    print_chunk_line (record { digits = digits; pad = []; extension = extension }) ≡ (digits ++ print_extension extension) ++ (13 ∷ 10 ∷ [])
unfolding print_chunk_line
printed digits extension = ap (λ (xs : List ℕ). (xs ++ print_extension extension) ++ (13 ∷ 10 ∷ [])) (append-nil digits)

found_line : (bytes : List ℕ) (n s : ℕ) (digits : List ℕ) (extension : Option (List ℕ)) → take (n - 2) bytes ≡ digits ++ print_extension extension →
    bytes ≡ take (n - 2) bytes ++ (13 ∷ 10 ∷ drop n bytes) → 2 ≤ n → n ≤ length bytes → n ≤ 64 →
    0 < length digits → length digits ≤ 8 → list_all is_ascii_hexdigit digits ≡ true → IsExtension extension → digits_value 16 digits ≡ s → IsLineOf bytes n s
found_line bytes n s digits extension text split two within few some eight hex plain value =
    let line : ChunkLine = record { digits = digits; pad = []; extension = extension } in
    let is : print_chunk_line line ≡ take (n - 2) bytes ++ (13 ∷ 10 ∷ []) = printed digits extension ∙ ap (λ (xs : List ℕ). xs ++ (13 ∷ 10 ∷ [])) (sym text) in
    let long : length (print_chunk_line line) ≡ n =
    ap length is ∙ length-append (take (n - 2) bytes) (13 ∷ 10 ∷ []) ∙ omega (arith, length-take (n - 2) bytes, two, within) in
    record {
      line = line;
      short = record {
        line = record {
          digits = (some, omega (arith, eight), AllPass-from_list_all is_ascii_hexdigit digits hex);
          pad = λ k d below. absurd (omega (arith, below));
          extension = plain;
        };
        digits = eight;
        pad = refl;
        short = omega (arith, long, few);
      };
      is = split ∙ sym (append_assoc (take (n - 2) bytes) (13 ∷ 10 ∷ []) (drop n bytes)) ∙ ap (λ (xs : List ℕ). xs ++ drop n bytes) (sym is);
      long = long;
      size = value;
    }

pub line_of : (bytes : List ℕ) (n s : ℕ) → length_through line_end (take 64 bytes) ≡ Some n → chunk_size (take (n - 2) bytes) ≡ Some s → IsLineOf bytes n s
line_of bytes n s found sized =
    let text = take (n - 2) bytes in
    let digits = before_first (λ b. b == 59) text in
    let extension = after_first (λ b. b == 59) text in
    let inside = is_through line_end (take 64 bytes) n found in
    let few : n ≤ 64 = omega (arith, inside.within, length-take 64 bytes) in
    let within : n ≤ length bytes = omega (arith, inside.within, length-take 64 bytes) in
    let plain = choice_is (list_all is_extension_byte extension) (size_of_digits digits) s sized in
    let whole = some_is (nat_lt 0 (length digits) && nat_le (length digits) 8 && list_all is_ascii_hexdigit digits) (digits_value 16 digits) s plain.1 in
    let hex = both (nat_lt 0 (length digits) && nat_le (length digits) 8) (list_all is_ascii_hexdigit digits) whole.0 in
    let lengths = both (nat_lt 0 (length digits)) (nat_le (length digits) 8) hex.0 in
    elim (cut_at_mark text) [
      | inl none ↦ found_line bytes n s digits None (none ∙ sym (append-nil digits)) (line_splits bytes n found) inside.long within few
          (ltb-true _ _ lengths.0) (leb-true _ _ lengths.1) hex.1 tt whole.1
      | inr some ↦ found_line bytes n s digits (Some extension) some (line_splits bytes n found) inside.long within few
          (ltb-true _ _ lengths.0) (leb-true _ _ lengths.1) hex.1 (AllPass-from_list_all is_extension_byte extension plain.0) whole.1
    ]

-- ---- lines that are spelled are read

hex_isnt : (b c : ℕ) → is_ascii_hexdigit b ≡ true → is_ascii_hexdigit c ≡ false → (b == c) ≡ false
hex_isnt b c hex other = either (b == c) refl
  where
    either : (t : Bool) → (b == c) ≡ t → t ≡ false
    either false is = refl
    either true is = absurd (true≢false (sym (subst (λ (x : ℕ). is_ascii_hexdigit x ≡ true) (eqb-true b c is) hex) ∙ other))

hex_plain : (digits : List ℕ) → list_all is_ascii_hexdigit digits ≡ true → list_all is_extension_byte digits ≡ true
hex_plain [] hex = refl
hex_plain (b ∷ digits) hex =
    let one = both (is_ascii_hexdigit b) (list_all is_ascii_hexdigit digits) hex in
    rw (hex_isnt b 13 one.0 refl, hex_isnt b 10 one.0 refl) (hex_plain digits one.1)

extension_plain : (extension : Option (List ℕ)) → IsExtension extension → list_all is_extension_byte (print_extension extension) ≡ true
extension_plain None is = refl
extension_plain (Some text) is = list_all-from_AllPass is_extension_byte text is

-- the digits are before the mark
pub record IsCut (digits : List ℕ) (extension : Option (List ℕ)) : Type 0 where
  pub before : before_first (λ b. b == 59) (digits ++ print_extension extension) ≡ digits
  pub after : list_all is_extension_byte (after_first (λ b. b == 59) (digits ++ print_extension extension)) ≡ true

cut_digits : (digits : List ℕ) (extension : Option (List ℕ)) → list_all is_ascii_hexdigit digits ≡ true → IsExtension extension → IsCut digits extension
cut_digits [] None hex is = record { before = refl; after = refl }
cut_digits [] (Some text) hex is = record { before = refl; after = list_all-from_AllPass is_extension_byte text is }
cut_digits (b ∷ digits) extension hex is =
    let one = both (is_ascii_hexdigit b) (list_all is_ascii_hexdigit digits) hex in
    let later = cut_digits digits extension one.1 is in
    let isnt = hex_isnt b 59 one.0 refl in
    let text = digits ++ print_extension extension in
    record {
      before = before_more b text isnt ∙ ap (λ (xs : List ℕ). b ∷ xs) later.before;
      after = ap (list_all is_extension_byte) (after_more b text isnt) ∙ later.after;
    }

size_of : (digits : List ℕ) → 0 < length digits → length digits ≤ 8 → list_all is_ascii_hexdigit digits ≡ true → size_of_digits digits ≡ Some (digits_value 16 digits)
size_of digits some eight hex = rw (lt-ltb 0 (length digits) some, le-leb (length digits) 8 eight, hex) refl

cut_size : (digits : List ℕ) (extension : Option (List ℕ)) → IsCut digits extension → 0 < length digits → length digits ≤ 8 → list_all is_ascii_hexdigit digits ≡ true →
    chunk_size (digits ++ print_extension extension) ≡ Some (digits_value 16 digits)
cut_size digits extension is some eight hex =
    ap (λ (t : Bool). cond t (size_of_digits (before_first (λ b. b == 59) (digits ++ print_extension extension))) None) is.after
    ∙ ap size_of_digits is.before ∙ size_of digits some eight hex

-- the reading of a line that is spelled
pub record IsReadAt (l : ChunkLine) (rest : List ℕ) : Type 0 where
  pub found : length_through line_end (take 64 (print_chunk_line l ++ rest)) ≡ Some (length (print_chunk_line l))
  pub sized : chunk_size (take (length (print_chunk_line l) - 2) (print_chunk_line l ++ rest)) ≡ Some (line_size l)
  pub long : 2 ≤ length (print_chunk_line l)
  pub ends : drop (length (print_chunk_line l) - 2) (print_chunk_line l ++ rest) ≡ line_end ++ rest

pub read_line : (l : ChunkLine) (rest : List ℕ) → IsShortLine l → IsReadAt l rest
read_line l rest short =
    let digits = l.digits in
    let text = digits ++ print_extension l.extension in
    let hex = list_all-from_AllPass is_ascii_hexdigit digits short.line.digits.2 in
    let same : l ≡ record { digits = digits; pad = []; extension = l.extension } = (λ i. record { digits = digits; pad = short.pad i; extension = l.extension }) in
    let is : print_chunk_line l ≡ text ++ (13 ∷ 10 ∷ []) = ap print_chunk_line same ∙ printed digits l.extension in
    let long : length (print_chunk_line l) ≡ length text + 2 = ap length is ∙ length-append text (13 ∷ 10 ∷ []) in
    let plain : list_all is_extension_byte text ≡ true = list_all-append is_extension_byte digits (print_extension l.extension)
    ∙ rw (hex_plain digits hex, extension_plain l.extension short.line.extension) refl in
    let through : length_through line_end (print_chunk_line l) ≡ Some (length (print_chunk_line l)) =
    ap (length_through line_end) is ∙ ends_there text [] plain ∙ ap Some (sym long) in
    let place : length (print_chunk_line l) - 2 ≡ length text = omega (arith, long) in
    let all : print_chunk_line l ++ rest ≡ text ++ (13 ∷ 10 ∷ rest) = ap (λ (xs : List ℕ). xs ++ rest) is ∙ append_assoc text (13 ∷ 10 ∷ []) rest in
    record {
      found = through_first_stays line_end 64 (print_chunk_line l) rest (length (print_chunk_line l))
          (ap (length_through line_end) (take_all 64 (print_chunk_line l) short.short) ∙ through);
      sized = ap chunk_size (ap (λ (k : ℕ). take k (print_chunk_line l ++ rest)) place ∙ ap (take (length text)) all ∙ take-append_seam text (13 ∷ 10 ∷ rest))
          ∙ cut_size digits l.extension (cut_digits digits l.extension hex short.line.extension) short.line.digits.0 short.digits hex;
      long = omega (arith, long);
      ends = ap (λ (k : ℕ). drop k (print_chunk_line l ++ rest)) place ∙ ap (drop (length text)) all ∙ drop-append_seam text (13 ∷ 10 ∷ rest);
    }
