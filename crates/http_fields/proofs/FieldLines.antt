-- Header lines that are read one after another say what all of them say.
use Rattle.std.proofs.Common.{◌≡◌, ℕ, ◌||◌, Bool, true, false, List, [], ◌∷◌, ◌++◌, map, codes, refl, sym, ap, ◌∙◌, cond, append_assoc}
use Rattle.std.specs.Prelude.{Some}
use Rattle.std.specs.List.{filter, list_any}
use Rattle.std.proofs.Math.Bool.{or-false}
use Rattle.std.proofs.lemmas.List.{append-nil, map-append}
use Rattle.std.proofs.lemmas.List.Elements.{filter-append}
use Rattle.std.proofs.lemmas.List.Folds.{list_any-append}
use Rattle.http_fields.specs.Fields.{Line, has_name, values_of, asks_for_version, standing, types_taken, has_item, is_close, is_continue, takes_json, takes_td, Said, said_by}
use Rattle.http_fields.specs.Found.{once_more, more_if, types_in, both_taken, taken_if, or_if, with_line, with_lines}

-- the value of a line, where it has the name
abbrev value_if : Bool → List ℕ → List (List ℕ)
value_if named value = cond named (value ∷ []) []

one_value : (t : Bool) (line : Line) → map (λ (l : Line). l.1) (cond t (line ∷ []) []) ≡ value_if t line.1
one_value true line = refl
one_value false line = refl

-- the values with one line more
values_more : (name : List ℕ) (done : List Line) (line : Line) → values_of name (done ++ line ∷ []) ≡ values_of name done ++ value_if (has_name name line) line.1
values_more name done line =
    ap (map (λ (l : Line). l.1)) (filter-append (has_name name) done (line ∷ []))
    ∙ map-append (λ (l : Line). l.1) (filter (has_name name) done) (filter (has_name name) (line ∷ []))
    ∙ ap (λ (vs : List (List ℕ)). values_of name done ++ vs) (one_value (has_name name line) line)

standing_more : (values : List (List ℕ)) (value : List ℕ) → standing (values ++ value ∷ []) ≡ once_more value (standing values)
standing_more [] value = refl
standing_more (a ∷ []) value = refl
standing_more (a ∷ b ∷ values) value = refl

stands : (t : Bool) (values : List (List ℕ)) (value : List ℕ) → standing (values ++ value_if t value) ≡ more_if t value (standing values)
stands true values value = standing_more values value
stands false values value = ap standing (append-nil values)

-- a test that some value passes
one_test : (p : List ℕ → Bool) (value : List ℕ) → list_any p (value ∷ []) ≡ p value
one_test p value = or-false (p value)

passes : (t : Bool) (p : List ℕ → Bool) (values : List (List ℕ)) (value : List ℕ) → list_any p (values ++ value_if t value) ≡ or_if t p value (list_any p values)
passes true p values value =
    list_any-append p values (value ∷ []) ∙ ap (λ (b : Bool). list_any p values || b) (one_test p value)
passes false p values value = ap (list_any p) (append-nil values) ∙ sym (or-false (list_any p values))

taken_more : (values : List (List ℕ)) (value : List ℕ) → types_taken (values ++ value ∷ []) ≡ Some (both_taken (types_taken values) (types_in value))
taken_more [] value = λ i. Some (record { json = one_test (has_item takes_json) value i; td = one_test (has_item takes_td) value i })
taken_more (v ∷ values) value = λ i. Some (record {
  json = passes true (has_item takes_json) (v ∷ values) value i;
  td = passes true (has_item takes_td) (v ∷ values) value i;
})

takes : (t : Bool) (values : List (List ℕ)) (value : List ℕ) → types_taken (values ++ value_if t value) ≡ taken_if t value (types_taken values)
takes true values value = taken_more values value
takes false values value = ap types_taken (append-nil values)

-- one line more
one_line_more : (done : List Line) (line : Line) → said_by (done ++ line ∷ []) ≡ with_line line (said_by done)
one_line_more done line = λ i. record {
  host = standing_with (codes "host") i;
  content_length = standing_with (codes "content-length") i;
  transfer_encoding = standing_with (codes "transfer-encoding") i;
  content_type = standing_with (codes "content-type") i;
  continues = test_with (codes "expect") is_continue i;
  closes = test_with (codes "connection") (has_item is_close) i;
  accept = (ap types_taken (values_more (codes "accept") done line) ∙ takes (has_name (codes "accept") line) (values_of (codes "accept") done) line.1) i;
  conditional = (list_any-append asks_for_version done (line ∷ []) ∙ ap (λ (b : Bool). list_any asks_for_version done || b) (or-false (asks_for_version line))) i;
}
  where
    standing_with : (name : List ℕ) → standing (values_of name (done ++ line ∷ [])) ≡ more_if (has_name name line) line.1 (standing (values_of name done))
    standing_with name = ap standing (values_more name done line) ∙ stands (has_name name line) (values_of name done) line.1

    test_with : (name : List ℕ) (p : List ℕ → Bool) → list_any p (values_of name (done ++ line ∷ [])) ≡ or_if (has_name name line) p line.1 (list_any p (values_of name done))
    test_with name p = ap (list_any p) (values_more name done line) ∙ passes (has_name name line) p (values_of name done) line.1

-- lines that are read after others
lines_more : (done rest : List Line) → with_lines (said_by done) rest ≡ said_by (done ++ rest)
lines_more done [] = ap said_by (sym (append-nil done))
lines_more done (line ∷ rest) =
    ap (λ (s : Said). with_lines s rest) (sym (one_line_more done line))
    ∙ lines_more (done ++ line ∷ []) rest
    ∙ ap said_by (append_assoc done (line ∷ []) rest)

-- all lines, one after another
pub all_lines : (lines : List Line) → with_lines (said_by []) lines ≡ said_by lines
all_lines lines = lines_more [] lines
