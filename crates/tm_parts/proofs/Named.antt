-- Bound values by their names, as a list that is in order keeps them.
use Rattle.std.proofs.Common.{◌≡◌, ℕ, List, [], ◌∷◌, ◌++◌, refl, sym, ap, ◌∙◌, Bor}
use Rattle.std.proofs.lemmas.List.{append-nil}
use Rattle.std.specs.Map.{keys_of}
use Rattle.std.specs.Cmp.Lexicographic.{slice_cmp}
use Rattle.std.specs.List.{AllByRecursion}
use Rattle.std.specs.List.Sorted.{IsStrictlySortedBy}
use Rattle.std.specs.Ordering.{nat_cmp}
use Rattle.std.specs.String.{string_cmp}
use Rattle.std.specs.declared.cmp.Ordering.TheVariants.{Less}
use Rattle.std.specs.Prelude.{Option, Some, String, string_bytes, cond}
use Rattle.std.specs.Str.{bytes_eq}
use Rattle.std.specs.declared.alloc.Global.{Global}
use Rattle.wot_json.specs.Tree.{Json}
use Rattle.wot_json.specs.Meaning.{json_of}
use Rattle.wot_json.specs.declared.tree.Tree.{Tree}
use Rattle.tm_parts.specs.Kept.{kept_names}
use Rattle.tm_parts.specs.Substitution.{bound_value}
use Rattle.tm_parts.proofs.Halving.{first_under}

abbrev Bound : Type 0
Bound = String Global × Bor Tree

abbrev pub name_of : Bound → List ℕ
name_of bound = string_bytes bound.0

abbrev pub value_of : Bound → Json
value_of bound = json_of bound.1.now

-- the value found under a name is the one bound to it
pub bound_is_found : (name : List ℕ) (list : List (List ℕ × Json)) → first_under name list ≡ bound_value name list
bound_is_found name [] = refl
bound_is_found name (b ∷ bs) = ap (λ (r : Option Json). cond (bytes_eq name b.0) (Some b.1) r) (bound_is_found name bs)

-- the names that come after one, by their texts
later_names : (bound : String Global) (es : List Bound) → AllByRecursion (λ k. string_cmp bound k ≡ Less) (keys_of es) → AllByRecursion (λ n. slice_cmp nat_cmp (string_bytes bound) n ≡ Less) (kept_names es)
later_names bound [] after = tt
later_names bound (e ∷ es) after = (after.0, later_names bound es after.1)

-- the keys of a map ascend, and so do the names
pub names_ascend : (es : List Bound) → IsStrictlySortedBy string_cmp (keys_of es) → IsStrictlySortedBy (slice_cmp nat_cmp) (kept_names es)
unfolding IsStrictlySortedBy
names_ascend [] sorted = tt
names_ascend (e ∷ es) sorted = (later_names e.0 es sorted.0, names_ascend es sorted.1)

-- the list that a map was moved into
pub moved : (list es : List Bound) (rest : List Bound) → list ++ rest ≡ es → rest ≡ [] → list ≡ es
moved list es rest all none = sym (append-nil list) ∙ ap (λ (r : List Bound). list ++ r) (sym none) ∙ all
