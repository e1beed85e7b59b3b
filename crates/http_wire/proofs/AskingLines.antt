-- The header lines of a head as its bytes have them: those that ask for a version are those of the head.
use Rattle.std.proofs.Common.{◌≡◌, ℕ, suc, ◌+◌, ◌-◌, ◌⊎◌, Bool, true, false, IsTrue, List, [], ◌∷◌, ◌++◌, length, map, take, drop, reverse, codes, refl, sym, ap, ◌∙◌, arith, cond, append_assoc, append-nil, inl, inr}
use Rattle.std.specs.Prelude.{◌==◌, All}
use Rattle.std.specs.List.{flat_map, prefix_len, suffix_len, position_or_len, before_first, after_first, slice_split}
use Rattle.std.specs.Char.{is_ascii_whitespace}
use Rattle.std.proofs.Math.Seq.{take-append_seam, drop-append-add}
use Rattle.std.proofs.lemmas.Bool.{false≢true, ne_eqb, eq-eqb}
use Rattle.std.proofs.lemmas.Bool.Decides.{nat_tests}
use Rattle.std.proofs.lemmas.List.{reverse-append, reverse-reverse, take-append-drop, length-reverse, length-drop}
use Rattle.std.proofs.lemmas.List.Elements.{All-from_recursion, All-nil, All-cons, All-head, All-tail, All-append, All-weaker}
use Rattle.std.proofs.lemmas.List.Splits.{slice_split_at}
use Rattle.httparse.specs.Grammar.{is_token_byte, is_uri_byte, is_value_byte, is_ows, AllPass, LineEnd, crlf, lf, print_end, print_blank, print_version, Field, print_field, IsField, skip_ows, trim_ows, print_section, RequestHead, print_request, IsRequestHead, ReadsRequest}
use Rattle.httparse.specs.Spans.{name_and_value}
use Rattle.httparse.proofs.GrammarLemmas.{print_request-append}
use Rattle.httparse.proofs.PieceLemmas.{print_field-append, colon_ends_token, space_ends_token}
use Rattle.httparse.proofs.TrimLemmas.{AllPass-reverse}
use Rattle.http_wire.specs.Heads.{lines_of}
use Rattle.http_fields.specs.Fields.{Line, asks_for_version, trimmed}
use Rattle.http_wire.specs.Conditions.{asking_lines}
use Rattle.http_wire.specs.Asked.{behind_start, line_in, lines_in}

-- ---- the place of the first byte of a kind

-- no byte is this one
abbrev Lacks : ℕ → List ℕ → Type 0
Lacks c bytes = All (λ b. (b == c) ≡ false) bytes

first_at : (c : ℕ) (xs ys : List ℕ) → Lacks c xs → position_or_len (λ b. b == c) (xs ++ c ∷ ys) ≡ length xs
first_at c [] ys lacks = rw (eq-eqb c c refl) refl
first_at c (x ∷ xs) ys lacks =
    let isnt = All-head (λ b. (b == c) ≡ false) x xs lacks in
    let later = first_at c xs ys (All-tail (λ b. (b == c) ≡ false) x xs lacks) in
    first_later c x (xs ++ c ∷ ys) isnt ∙ omega (arith, later)
  where
    first_later : (c x : ℕ) (zs : List ℕ) → (x == c) ≡ false → position_or_len (λ b. b == c) (x ∷ zs) ≡ 1 + position_or_len (λ b. b == c) zs
    first_later c x zs isnt = rw isnt refl

before_at : (c : ℕ) (xs ys : List ℕ) → Lacks c xs → before_first (λ b. b == c) (xs ++ c ∷ ys) ≡ xs
before_at c xs ys lacks = ap (λ (n : ℕ). take n (xs ++ c ∷ ys)) (first_at c xs ys lacks) ∙ take-append_seam xs (c ∷ ys)

after_at : (c : ℕ) (xs ys : List ℕ) → Lacks c xs → after_first (λ b. b == c) (xs ++ c ∷ ys) ≡ ys
after_at c xs ys lacks = ap (λ (n : ℕ). drop (n + 1) (xs ++ c ∷ ys)) (first_at c xs ys lacks) ∙ drop-append-add xs (c ∷ ys) 1

split_at : (c : ℕ) (xs ys : List ℕ) → Lacks c xs → slice_split (λ b. b == c) (xs ++ c ∷ ys) ≡ xs ∷ slice_split (λ b. b == c) ys
split_at c xs ys lacks = slice_split_at (λ b. b == c) xs c ys lacks (eq-eqb c c refl)

-- bytes that pass a test which this one doesn't
lacks_by : (test : ℕ → Bool) (c : ℕ) → test c ≡ false → (bytes : List ℕ) → AllPass test bytes → Lacks c bytes
lacks_by test c fails bytes pass =
    All-weaker (λ b. IsTrue (test b)) (λ b. (b == c) ≡ false)
    (λ b is. ne_eqb b c (λ same. false≢true (sym fails ∙ ap test (sym same) ∙ is))) bytes pass

line_feed_ends_token : is_token_byte 10 ≡ false
unfolding is_token_byte
line_feed_ends_token = refl

-- ---- white space

-- the bytes from the first on that is no white space
abbrev skip : List ℕ → List ℕ
skip bytes = drop (prefix_len is_ascii_whitespace bytes) bytes

skip_at : (t : Bool) (b : ℕ) (bytes : List ℕ) → is_ascii_whitespace b ≡ t → skip (b ∷ bytes) ≡ cond t (skip bytes) (b ∷ bytes)
skip_at true b bytes is =
    ap (λ (n : ℕ). drop n (b ∷ bytes)) (ap (λ (t : Bool). cond t (1 + prefix_len is_ascii_whitespace bytes) 0) is)
    ∙ ap (λ (n : ℕ). drop n (b ∷ bytes)) (one_more (prefix_len is_ascii_whitespace bytes))
  where
    one_more : (n : ℕ) → 1 + n ≡ suc n
    one_more n = omega arith
skip_at false b bytes is = ap (λ (n : ℕ). drop n (b ∷ bytes)) (ap (λ (t : Bool). cond t (1 + prefix_len is_ascii_whitespace bytes) 0) is)

-- in a value the white space is spaces and tabs
same_white_space : (b : ℕ) → is_value_byte b ≡ true → is_ascii_whitespace b ≡ is_ows b
same_white_space b is = grind (arith, nat_tests, is)

skip_value : (bytes : List ℕ) → AllPass is_value_byte bytes → skip bytes ≡ skip_ows bytes
skip_value [] pass = refl
skip_value (b ∷ bytes) pass =
    let is = All-head (λ x. IsTrue (is_value_byte x)) b bytes pass in
    let later = skip_value bytes (All-tail (λ x. IsTrue (is_value_byte x)) b bytes pass) in
    skip_at (is_ows b) b bytes (same_white_space b is) ∙ ap (λ (xs : List ℕ). cond (is_ows b) xs (b ∷ bytes)) later

-- a value and the CR after it, without the white space in front
after_front : (t : Bool) (b : ℕ) (bytes : List ℕ) → (skip_ows bytes ≡ []) × (skip (bytes ++ 13 ∷ []) ≡ []) ⊎ (skip (bytes ++ 13 ∷ []) ≡ skip_ows bytes ++ 13 ∷ []) →
    (cond t (skip_ows bytes) (b ∷ bytes) ≡ []) × (cond t (skip (bytes ++ 13 ∷ [])) (b ∷ (bytes ++ 13 ∷ [])) ≡ [])
    ⊎ (cond t (skip (bytes ++ 13 ∷ [])) (b ∷ (bytes ++ 13 ∷ [])) ≡ cond t (skip_ows bytes) (b ∷ bytes) ++ 13 ∷ [])
after_front true b bytes later = later
after_front false b bytes later = inr refl

tail_skipped : (bytes : List ℕ) → AllPass is_value_byte bytes →
    (skip_ows bytes ≡ []) × (skip (bytes ++ 13 ∷ []) ≡ []) ⊎ (skip (bytes ++ 13 ∷ []) ≡ skip_ows bytes ++ 13 ∷ [])
tail_skipped [] pass = inl (refl, refl)
tail_skipped (b ∷ bytes) pass =
    let is = All-head (λ x. IsTrue (is_value_byte x)) b bytes pass in
    let later = tail_skipped bytes (All-tail (λ x. IsTrue (is_value_byte x)) b bytes pass) in
    let step = skip_at (is_ows b) b (bytes ++ 13 ∷ []) (same_white_space b is) in
    elim (after_front (is_ows b) b bytes later) [
      | inl none ↦ inl (none.0, step ∙ none.1)
      | inr some ↦ inr (step ∙ some)
    ]

-- the rest of bytes that end earlier, from their end
take_from_end : (n : ℕ) (xs : List ℕ) → take (length xs - n) xs ≡ reverse (drop n (reverse xs))
take_from_end n xs =
    let front = reverse (drop n (reverse xs)) in
    let back = reverse (take n (reverse xs)) in
    let apart : xs ≡ front ++ back =
    sym (reverse-reverse xs) ∙ ap reverse (sym (take-append-drop n (reverse xs))) ∙ reverse-append (take n (reverse xs)) (drop n (reverse xs)) in
    let size : length xs - n ≡ length front = omega (arith, length-reverse (drop n (reverse xs)), length-drop n (reverse xs), length-reverse xs) in
    ap (λ (k : ℕ). take k xs) size ∙ ap (take (length front)) apart ∙ take-append_seam front back

trimmed_is : (bytes : List ℕ) → trimmed bytes ≡ reverse (skip (reverse (skip bytes)))
trimmed_is bytes = take_from_end (suffix_len is_ascii_whitespace (skip bytes)) (skip bytes)

kept_by_skip : (test : ℕ → Bool) (bytes : List ℕ) → AllPass test bytes → AllPass test (skip_ows bytes)
kept_by_skip test [] pass = pass
kept_by_skip test (b ∷ bytes) pass =
    by_test (is_ows b) (kept_by_skip test bytes (All-tail (λ x. IsTrue (test x)) b bytes pass))
  where
    by_test : (t : Bool) → AllPass test (skip_ows bytes) → AllPass test (cond t (skip_ows bytes) (b ∷ bytes))
    by_test true later = later
    by_test false later = pass

-- a value without the white space around it
value_trimmed : (raw : List ℕ) → AllPass is_value_byte raw → trimmed raw ≡ trim_ows raw
unfolding trim_ows
value_trimmed raw pass =
    let front = skip_ows raw in
    trimmed_is raw
    ∙ ap (λ (xs : List ℕ). reverse (skip (reverse xs))) (skip_value raw pass)
    ∙ ap reverse (skip_value (reverse front) (AllPass-reverse is_value_byte front (kept_by_skip is_value_byte raw pass)))

-- and where a CR is after it
ended_value_trimmed : (raw : List ℕ) → AllPass is_value_byte raw → trimmed (raw ++ 13 ∷ []) ≡ trim_ows raw
unfolding trim_ows
ended_value_trimmed raw pass =
    let front = skip_ows raw in
    elim (tail_skipped raw pass) [
      | inl none ↦ trimmed_is (raw ++ 13 ∷ [])
          ∙ ap (λ (xs : List ℕ). reverse (skip (reverse xs))) none.1
          ∙ ap (λ (xs : List ℕ). reverse (skip_ows (reverse xs))) (sym none.0)
      | inr some ↦ trimmed_is (raw ++ 13 ∷ [])
          ∙ ap (λ (xs : List ℕ). reverse (skip (reverse xs))) some
          ∙ ap (λ (xs : List ℕ). reverse (skip xs)) (reverse-append front (13 ∷ []))
          ∙ ap reverse (skip_at true 13 (reverse front) refl)
          ∙ ap reverse (skip_value (reverse front) (AllPass-reverse is_value_byte front (kept_by_skip is_value_byte raw pass)))
    ]

-- ---- lines

-- the bytes before the line feed of a line end
abbrev tail : LineEnd → List ℕ
tail crlf = 13 ∷ []
tail lf = []

tail_lacks : (end : LineEnd) → Lacks 10 (tail end)
tail_lacks crlf = All-from_recursion (λ b. (b == 10) ≡ false) (13 ∷ []) (refl, tt)
tail_lacks lf = All-nil (λ b. (b == 10) ≡ false)

end_is : (end : LineEnd) (rest : List ℕ) → print_end end ++ rest ≡ tail end ++ 10 ∷ rest
end_is crlf rest = refl
end_is lf rest = refl

regroup : (c : ℕ) (a b t r : List ℕ) → a ++ c ∷ (b ++ (t ++ 10 ∷ r)) ≡ (a ++ c ∷ (b ++ t)) ++ 10 ∷ r
regroup c a b t r =
    ap (λ (xs : List ℕ). a ++ c ∷ xs) (sym (append_assoc b t (10 ∷ r))) ∙ sym (append_assoc a (c ∷ (b ++ t)) (10 ∷ r))

-- two parts and a line end without the line feed
line_lacks : (c : ℕ) (a b : List ℕ) (end : LineEnd) → Lacks 10 a → (c == 10) ≡ false → Lacks 10 b → Lacks 10 (a ++ c ∷ (b ++ tail end))
line_lacks c a b end one between other =
    let none = λ (b : ℕ). (b == 10) ≡ false in
    All-append none a (c ∷ (b ++ tail end)) one (All-cons none c (b ++ tail end) between (All-append none b (tail end) other (tail_lacks end)))

-- the bytes of a header line
abbrev piece : Field → List ℕ
piece f = f.name ++ 58 ∷ (f.raw ++ tail f.end)

first_piece : (f : Field) (rest : List ℕ) → IsField f → slice_split (λ b. b == 10) (print_field f ++ rest) ≡ piece f ∷ slice_split (λ b. b == 10) rest
first_piece f rest is =
    ap (slice_split (λ b. b == 10))
    (print_field-append f rest ∙ ap (λ (xs : List ℕ). f.name ++ 58 ∷ (f.raw ++ xs)) (end_is f.end rest) ∙ regroup 58 f.name f.raw (tail f.end) rest)
    ∙ split_at 10 (piece f) rest
    (line_lacks 58 f.name f.raw f.end (lacks_by is_token_byte 10 line_feed_ends_token f.name is.name.1) refl (lacks_by is_value_byte 10 refl f.raw is.raw))

trimmed_end : (end : LineEnd) (raw : List ℕ) → AllPass is_value_byte raw → trimmed (raw ++ tail end) ≡ trim_ows raw
trimmed_end crlf raw pass = ended_value_trimmed raw pass
trimmed_end lf raw pass = ap trimmed (append-nil raw) ∙ value_trimmed raw pass

piece_is_line : (f : Field) → IsField f → line_in (piece f) ≡ name_and_value f
piece_is_line f is =
    let lacks = lacks_by is_token_byte 58 colon_ends_token f.name is.name.1 in
    λ i. (
      before_at 58 f.name (f.raw ++ tail f.end) lacks i,
      (ap trimmed (after_at 58 f.name (f.raw ++ tail f.end) lacks) ∙ trimmed_end f.end f.raw is.raw) i,
    )

asking_first : (one other : Line) (xs ys : List Line) → one ≡ other → asking_lines xs ≡ asking_lines ys → asking_lines (one ∷ xs) ≡ asking_lines (other ∷ ys)
asking_first one other xs ys same later = λ i. cond (asks_for_version (same i)) (same i ∷ later i) (later i)

-- the header lines and the empty line after them
asking_section : (fields : List Field) (last : LineEnd) → All IsField fields →
    asking_lines (lines_in (print_section fields last)) ≡ asking_lines (map name_and_value fields)
asking_section [] crlf all = refl
asking_section [] lf all = refl
asking_section (f ∷ fields) last all =
    let is = All-head IsField f fields all in
    ap (λ (xs : List ℕ). asking_lines (lines_in xs)) (append_assoc (print_field f) (flat_map print_field fields) (print_end last))
    ∙ ap (λ (xs : List (List ℕ)). asking_lines (map line_in xs)) (first_piece f (print_section fields last) is)
    ∙ asking_first (line_in (piece f)) (name_and_value f) (lines_in (print_section fields last)) (map name_and_value fields)
    (piece_is_line f is) (asking_section fields last (All-tail IsField f fields all))

-- ---- heads

blank_lacks : (ends : List LineEnd) → Lacks 32 (print_blank ends)
blank_lacks [] = All-nil (λ b. (b == 32) ≡ false)
blank_lacks (crlf ∷ ends) =
    let none = λ (b : ℕ). (b == 32) ≡ false in
    All-cons none 13 (10 ∷ print_blank ends) refl (All-cons none 10 (print_blank ends) refl (blank_lacks ends))
blank_lacks (lf ∷ ends) = All-cons (λ b. (b == 32) ≡ false) 10 (print_blank ends) refl (blank_lacks ends)

version_lacks : (minor : ℕ) → Lacks 10 (print_version minor)
version_lacks minor =
    let none = λ (b : ℕ). (b == 10) ≡ false in
    All-append none (codes "HTTP/1.") ((48 + minor) ∷ []) (All-from_recursion none (codes "HTTP/1.") (refl, (refl, (refl, (refl, (refl, (refl, (refl, tt))))))))
    (All-cons none (48 + minor) [] (ne_eqb (48 + minor) 10 (λ is. absurd (omega (arith, is)))) (All-nil none))

-- behind the start line are the header lines and the empty line after them
behind_head : (h : RequestHead) → IsRequestHead h → behind_start (print_request h ++ []) ≡ print_section h.fields h.last ++ []
behind_head h is =
    let section = print_section h.fields h.last ++ [] in
    let version = print_version h.minor in
    let from_target = h.target ++ 32 ∷ (version ++ (print_end h.line_end ++ section)) in
    let start = print_blank h.blank ++ h.method in
    let front : print_request h ++ [] ≡ start ++ 32 ∷ from_target =
    print_request-append h [] ∙ sym (append_assoc (print_blank h.blank) h.method (32 ∷ from_target)) in
    let method_lacks = lacks_by is_token_byte 32 space_ends_token h.method is.method.1 in
    let target_lacks = lacks_by is_uri_byte 10 refl h.target is.target.1 in
    let target_line : from_target ≡ (h.target ++ 32 ∷ (version ++ tail h.line_end)) ++ 10 ∷ section =
    ap (λ (xs : List ℕ). h.target ++ 32 ∷ (version ++ xs)) (end_is h.line_end section) ∙ regroup 32 h.target version (tail h.line_end) section in
    ap behind_start front
    ∙ ap (after_first (λ b. b == 10)) (after_at 32 start from_target (All-append (λ b. (b == 32) ≡ false) (print_blank h.blank) h.method (blank_lacks h.blank) method_lacks))
    ∙ ap (after_first (λ b. b == 10)) target_line
    ∙ after_at 10 (h.target ++ 32 ∷ (version ++ tail h.line_end)) section (line_lacks 32 h.target version h.line_end target_lacks refl (version_lacks h.minor))

-- the lines that ask, of a head that is all bytes
pub asking_of_head : (bytes : List ℕ) (h : RequestHead) → ReadsRequest bytes h [] → asking_lines (lines_in (behind_start bytes)) ≡ asking_lines (lines_of h)
asking_of_head bytes h reads =
    ap (λ (xs : List ℕ). asking_lines (lines_in (behind_start xs))) reads.1
    ∙ ap (λ (xs : List ℕ). asking_lines (lines_in xs)) (behind_head h reads.0 ∙ append-nil (print_section h.fields h.last))
    ∙ asking_section h.fields h.last reads.0.fields
