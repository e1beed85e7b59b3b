-- Notes of lines, one after another, and of the items of a value.
use Rattle.std.proofs.Common.{◌≡◌, ℕ, ◌||◌, Bool, true, false, List, [], ◌∷◌, ◌++◌, map, codes, refl, sym, ap, ◌∙◌, cond, append_assoc, append-nil}
use Rattle.std.specs.Prelude.{◌==◌, ◌&&◌, not, Some, None, Result, Ok, Err, OnOk, filter_map}
use Rattle.std.specs.List.{filter, flat_map, list_any, slice_split}
use Rattle.std.specs.Str.{bytes_eq, str_eq_ignore_ascii_case, str_to_ascii_lowercase}
use Rattle.std.proofs.Math.Bool.{or-false}
use Rattle.std.proofs.lemmas.Bool.{false≢true, or_left, or_right}
use Rattle.std.proofs.lemmas.List.{map-append, map-id}
use Rattle.std.proofs.lemmas.List.Elements.{filter_map-append}
use Rattle.std.proofs.lemmas.List.Concat.{flat_map-append}
use Rattle.std.proofs.lemmas.List.Folds.{list_any-append}
use Rattle.std.proofs.lemmas.Slice.Eq.{bytes_eq-Decides}
use Rattle.thing_ops.specs.declared.conditions.Tags.{Tags}
use Rattle.thing_ops.specs.declared.conditions.Conditions.{Conditions}
use Rattle.thing_ops.specs.declared.verb.Verb.{Verb}
use Rattle.thing_ops.specs.Conditions.{no_tags}
use Rattle.http_wire.specs.declared.conditions.NotedFields.{NotedFields}
use Rattle.http_fields.specs.Fields.{Line, has_name, values_of, asks_for_version, trimmed}
use Rattle.http_wire.specs.Conditions.{version_of, items_of, is_star, tags_of, without_weak, match_of, none_match_of, reads, conditions_of, asking_lines, NoOtherLineAsks}
use Rattle.http_wire.specs.Asked.{line_in, both_tags, noted_of, noted_then, opened, named_in, asked_by}

-- ---- tests

or_assoc : (a b c : Bool) → ((a || b) || c) ≡ (a || (b || c))
or_assoc true b c = refl
or_assoc false b c = refl

or_more : (a b : Bool) → (a || b) ≡ ((a || false) || b)
or_more true b = refl
or_more false b = refl

-- ---- what items name

tags_more : (xs ys : List (List ℕ)) → tags_of (xs ++ ys) ≡ both_tags (tags_of xs) (tags_of ys)
tags_more xs ys = λ i. record { any = list_any-append is_star xs ys i; list = filter_map-append version_of xs ys i }

both_assoc : (a b c : Tags) → both_tags (both_tags a b) c ≡ both_tags a (both_tags b c)
both_assoc a b c = λ i. record { any = or_assoc a.any b.any c.any i; list = append_assoc a.list b.list c.list i }

both_none : (a : Tags) → both_tags a no_tags ≡ a
both_none a = λ i. record { any = or-false a.any i; list = append-nil a.list i }

-- one item more
pub item_kept : (weak : Bool) (before now after : Tags) (all left rest : List (List ℕ)) (item : List ℕ) →
    both_tags before (named_in weak all) ≡ both_tags now (named_in weak left) → left ≡ item ∷ rest →
    after ≡ both_tags now (tags_of (opened weak (trimmed item) ∷ [])) →
    both_tags before (named_in weak all) ≡ both_tags after (named_in weak rest)
item_kept weak before now after all left rest item so_far is noted =
    so_far
    ∙ ap (λ (xs : List (List ℕ)). both_tags now (named_in weak xs)) is
    ∙ ap (both_tags now) (tags_more (opened weak (trimmed item) ∷ []) (map (opened weak) (map trimmed rest)))
    ∙ sym (both_assoc now (tags_of (opened weak (trimmed item) ∷ [])) (named_in weak rest))
    ∙ ap (λ (t : Tags). both_tags t (named_in weak rest)) (sym noted)

-- no item more
pub items_kept : (weak : Bool) (before now : Tags) (all left : List (List ℕ)) →
    both_tags before (named_in weak all) ≡ both_tags now (named_in weak left) → left ≡ [] → now ≡ both_tags before (named_in weak all)
items_kept weak before now all left so_far is =
    sym (both_none now) ∙ ap (λ (xs : List (List ℕ)). both_tags now (named_in weak xs)) (sym is) ∙ sym so_far

-- one item alone
pub one_item : (before : Tags) (item : List ℕ) (any : Bool) (list : List ℕ) → any ≡ (before.any || is_star item) →
    list ≡ before.list ++ filter_map version_of (item ∷ []) → ◌≡◌ {A = Tags} (record { any = any; list = list }) (both_tags before (tags_of (item ∷ [])))
one_item before item any list is named =
    λ i. record { any = (is ∙ ap (λ (b : Bool). before.any || b) (sym (or-false (is_star item)))) i; list = named i }

-- ---- what lines say

values_at : (t : Bool) (line : Line) (lines : List Line) →
    map (λ (l : Line). l.1) (cond t (line ∷ lines) lines) ≡ map (λ (l : Line). l.1) (cond t (line ∷ []) []) ++ map (λ (l : Line). l.1) lines
values_at true line lines = refl
values_at false line lines = refl

values_first : (name : List ℕ) (line : Line) (lines : List Line) → values_of name (line ∷ lines) ≡ values_of name (line ∷ []) ++ values_of name lines
values_first name line lines = values_at (has_name name line) line (filter (has_name name) lines)

items_more : (vs ws : List (List ℕ)) → items_of (vs ++ ws) ≡ items_of vs ++ items_of ws
items_more vs ws =
    ap (map trimmed) (flat_map-append (slice_split (λ b. b == 44)) vs ws)
    ∙ map-append trimmed (flat_map (slice_split (λ b. b == 44)) vs) (flat_map (slice_split (λ b. b == 44)) ws)

matched_more : (vs ws : List (List ℕ)) → tags_of (items_of (vs ++ ws)) ≡ both_tags (tags_of (items_of vs)) (tags_of (items_of ws))
matched_more vs ws = ap tags_of (items_more vs ws) ∙ tags_more (items_of vs) (items_of ws)

named_more : (vs ws : List (List ℕ)) → none_match_of (vs ++ ws) ≡ both_tags (none_match_of vs) (none_match_of ws)
named_more vs ws =
    ap (λ (xs : List (List ℕ)). tags_of (map without_weak xs)) (items_more vs ws)
    ∙ ap tags_of (map-append without_weak (items_of vs) (items_of ws))
    ∙ tags_more (map without_weak (items_of vs)) (map without_weak (items_of ws))

noted_first : (line : Line) (lines : List Line) → noted_of (line ∷ lines) ≡ noted_then (noted_of (line ∷ [])) (noted_of lines)
noted_first line lines = λ i. record {
  stands = or_more (has_name (codes "if-match") line) (list_any (has_name (codes "if-match")) lines) i;
  matched =
      (ap (λ (vs : List (List ℕ)). tags_of (items_of vs)) (values_first (codes "if-match") line lines)
      ∙ matched_more (values_of (codes "if-match") (line ∷ [])) (values_of (codes "if-match") lines)) i;
  named =
      (ap none_match_of (values_first (codes "if-none-match") line lines)
      ∙ named_more (values_of (codes "if-none-match") (line ∷ [])) (values_of (codes "if-none-match") lines)) i;
}

noted_assoc : (a b c : NotedFields) → noted_then (noted_then a b) c ≡ noted_then a (noted_then b c)
noted_assoc a b c = λ i. record {
  stands = or_assoc a.stands b.stands c.stands i;
  matched = both_assoc a.matched b.matched c.matched i;
  named = both_assoc a.named b.named c.named i;
}

noted_none : (a : NotedFields) → noted_then a (noted_of []) ≡ a
noted_none a = λ i. record { stands = or-false a.stands i; matched = both_none a.matched i; named = both_none a.named i }

-- one line more
pub line_kept : (before now after : NotedFields) (all left rest : List (List ℕ)) (line : List ℕ) →
    noted_then before (noted_of (map line_in all)) ≡ noted_then now (noted_of (map line_in left)) → left ≡ line ∷ rest →
    after ≡ noted_then now (noted_of (line_in line ∷ [])) →
    noted_then before (noted_of (map line_in all)) ≡ noted_then after (noted_of (map line_in rest))
line_kept before now after all left rest line so_far is noted =
    so_far
    ∙ ap (λ (xs : List (List ℕ)). noted_then now (noted_of (map line_in xs))) is
    ∙ ap (noted_then now) (noted_first (line_in line) (map line_in rest))
    ∙ sym (noted_assoc now (noted_of (line_in line ∷ [])) (noted_of (map line_in rest)))
    ∙ ap (λ (n : NotedFields). noted_then n (noted_of (map line_in rest))) (sym noted)

-- no line more
pub lines_kept : (before now : NotedFields) (all left : List (List ℕ)) →
    noted_then before (noted_of (map line_in all)) ≡ noted_then now (noted_of (map line_in left)) → left ≡ [] →
    now ≡ noted_then before (noted_of (map line_in all))
lines_kept before now all left so_far is =
    sym (noted_none now) ∙ ap (λ (xs : List (List ℕ)). noted_then now (noted_of (map line_in xs))) (sym is) ∙ sym so_far

-- ---- one line alone

-- no name is both
not_both : (name : List ℕ) → str_eq_ignore_ascii_case name (codes "if-match") ≡ true → str_eq_ignore_ascii_case name (codes "if-none-match") ≡ false
not_both name is =
    ap (λ (xs : List ℕ). bytes_eq xs (str_to_ascii_lowercase (codes "if-none-match")))
    ((bytes_eq-Decides (str_to_ascii_lowercase name) (str_to_ascii_lowercase (codes "if-match"))).0 is)

-- the value of a line, where it has the name
abbrev value_if : Bool → List ℕ → List (List ℕ)
value_if t value = cond t (value ∷ []) []

value_at : (t : Bool) (line : Line) → map (λ (l : Line). l.1) (cond t (line ∷ []) []) ≡ value_if t line.1
value_at true line = refl
value_at false line = refl

values_by : (name : List ℕ) (line : Line) (t : Bool) → has_name name line ≡ t → values_of name (line ∷ []) ≡ value_if t line.1
values_by name line t is = value_at (has_name name line) line ∙ ap (λ (b : Bool). value_if b line.1) is

-- the items of one value
one_value : (value : List ℕ) → items_of (value ∷ []) ≡ map trimmed (slice_split (λ b. b == 44) value)
one_value value = ap (map trimmed) (append-nil (slice_split (λ b. b == 44) value))

pub matched_line : (noted : NotedFields) (line : Line) (tags : Tags) → str_eq_ignore_ascii_case line.0 (codes "if-match") ≡ true →
    tags ≡ both_tags noted.matched (named_in false (slice_split (λ b. b == 44) line.1)) →
    ◌≡◌ {A = NotedFields} (record { stands = true; matched = tags; named = noted.named }) (noted_then noted (noted_of (line ∷ [])))
matched_line noted line tags is said =
    let one = values_by (codes "if-match") line true is in
    let other = values_by (codes "if-none-match") line false (not_both line.0 is) in
    let items = map trimmed (slice_split (λ b. b == 44) line.1) in
    λ i. record {
      stands = (stands_too noted.stands ∙ ap (λ (b : Bool). noted.stands || (b || false)) (sym is)) i;
      matched =
          (said
          ∙ ap (λ (xs : List (List ℕ)). both_tags noted.matched (tags_of xs)) (map-id items ∙ sym (one_value line.1))
          ∙ ap (λ (vs : List (List ℕ)). both_tags noted.matched (tags_of (items_of vs))) (sym one)) i;
      named = (sym (both_none noted.named) ∙ ap (λ (vs : List (List ℕ)). both_tags noted.named (none_match_of vs)) (sym other)) i;
    }
  where
    stands_too : (b : Bool) → true ≡ (b || (true || false))
    stands_too true = refl
    stands_too false = refl

-- ---- what is asked

-- the notes where nothing was noted before
pub nothing_before : (matched named : Tags) (after : NotedFields) (lines : List Line) → matched ≡ no_tags → named ≡ no_tags →
    after ≡ noted_then (record { stands = false; matched = matched; named = named }) (noted_of lines) → after ≡ noted_of lines
nothing_before matched named after lines none none_too is =
    is ∙ (λ i. noted_then (record { stands = false; matched = none i; named = none_too i }) (noted_of lines))

-- a consequence of a success
pub on_ok : {A E P Q : Type 0} (r : Result A E) → OnOk r P → (P → Q) → OnOk r Q
on_ok (Ok a) holds follows = follows holds
on_ok (Err e) holds follows = holds

-- If-Match stands where a line has its name
match_at : (t : Bool) (line : Line) (named : List Line) (stands : Bool) →
    cond stands (Some (tags_of (items_of (map (λ (l : Line). l.1) named)))) None ≡ match_of (map (λ (l : Line). l.1) named) →
    cond (t || stands) (Some (tags_of (items_of (map (λ (l : Line). l.1) (cond t (line ∷ named) named))))) None
    ≡ match_of (map (λ (l : Line). l.1) (cond t (line ∷ named) named))
match_at true line named stands later = refl
match_at false line named stands later = later

match_by : (lines : List Line) →
    cond (list_any (has_name (codes "if-match")) lines) (Some (tags_of (items_of (values_of (codes "if-match") lines)))) None
    ≡ match_of (values_of (codes "if-match") lines)
match_by [] = refl
match_by (line ∷ lines) =
    match_at (has_name (codes "if-match") line) line (filter (has_name (codes "if-match")) lines) (list_any (has_name (codes "if-match")) lines) (match_by lines)

-- the notes of lines make the same demands as the lines
pub asked_of : (verb : Verb) (lines : List Line) → asked_by verb (noted_of lines) ≡ conditions_of verb lines
asked_of verb lines = λ i. record {
  if_match = match_by lines i;
  known = record { any = (noted_of lines).named.any && reads verb; list = (noted_of lines).named.list };
  absent = (noted_of lines).named.any && not (reads verb);
}

-- ---- other lines ask nothing

-- a line that has a name is kept by a test that it passes
kept_at : (name : List ℕ) (line : Line) (kept named : List Line) (t u : Bool) → has_name name line ≡ u → (u ≡ true → t ≡ true) →
    values_of name kept ≡ map (λ (l : Line). l.1) named →
    values_of name (cond t (line ∷ kept) kept) ≡ map (λ (l : Line). l.1) (cond u (line ∷ named) named)
kept_at name line kept named true true is keeps later =
    values_first name line kept
    ∙ ap (λ (vs : List (List ℕ)). vs ++ values_of name kept) (values_by name line true is)
    ∙ ap (λ (vs : List (List ℕ)). line.1 ∷ vs) later
kept_at name line kept named true false is keeps later =
    values_first name line kept
    ∙ ap (λ (vs : List (List ℕ)). vs ++ values_of name kept) (values_by name line false is)
    ∙ later
kept_at name line kept named false true is keeps later = absurd (false≢true (keeps refl))
kept_at name line kept named false false is keeps later = later

kept_with_name : (name : List ℕ) → ((l : Line) → has_name name l ≡ true → asks_for_version l ≡ true) → (lines : List Line) →
    values_of name (asking_lines lines) ≡ values_of name lines
kept_with_name name keeps [] = refl
kept_with_name name keeps (line ∷ lines) =
    kept_at name line (asking_lines lines) (filter (has_name name) lines) (asks_for_version line) (has_name name line) refl (keeps line)
    (kept_with_name name keeps lines)

pub no_other_line_asks : NoOtherLineAsks
no_other_line_asks verb lines = λ i. conditions_by (kept_match i) (kept_named i)
  where
    kept_match : values_of (codes "if-match") (asking_lines lines) ≡ values_of (codes "if-match") lines
    kept_match = kept_with_name (codes "if-match") (λ l is. or_left (has_name (codes "if-match") l) (has_name (codes "if-none-match") l) is) lines

    kept_named : values_of (codes "if-none-match") (asking_lines lines) ≡ values_of (codes "if-none-match") lines
    kept_named = kept_with_name (codes "if-none-match") (λ l is. or_right (has_name (codes "if-match") l) (has_name (codes "if-none-match") l) is) lines

    conditions_by : (matched named : List (List ℕ)) → Conditions
    conditions_by matched named = record {
      if_match = match_of matched;
      known = record { any = (none_match_of named).any && reads verb; list = (none_match_of named).list };
      absent = (none_match_of named).any && not (reads verb);
    }
