-- The members of an object but for one.
use Rattle.std.proofs.Common.{◌≡◌, ℕ, List, [], ◌∷◌, refl, sym, ap, ◌∙◌}
use Rattle.std.specs.List.{filter}
use Rattle.std.specs.Prelude.{not}
use Rattle.std.specs.Str.{bytes_eq}
use Rattle.wot_json.specs.Tree.{Json, null, no_members, member, AreOrdered}
use Rattle.wot_json.specs.Meaning.{json_member, json_members}
use Rattle.wot_json.specs.Merge.{without_member}
use Rattle.wot_json.specs.declared.tree.Tree.{Tree}
use Rattle.wot_json.proofs.MemberOrder.{less, equal, greater, compares, before_other, behind_other}
use Rattle.wot_json.proofs.MergeLaws.{merged_ordered}

-- the test of a member by its name, from either side
same_turned : (m n : List ℕ) → bytes_eq m n ≡ bytes_eq n m
same_turned m n = elim (compares m n) [
  | less is test ↦ test ∙ sym (behind_other m n is)
  | equal is same test ↦ (λ k. bytes_eq (same k) (sym same k))
  | greater is behind test ↦ test ∙ sym (before_other n m behind)
]

-- the members that don't have the name are the members but for that of it
pub filtered_without : (name : List ℕ) (ms : List (List ℕ × Tree)) → json_members (filter (λ m. not (bytes_eq m.0 name)) ms) ≡ without_member name (json_members ms)
filtered_without name [] = refl
filtered_without name (m ∷ ms) = elim (compares name m.0) [
  | less is test ↦ rw (same_turned m.0 name, test) (ap (λ (xs : List (List ℕ × Json)). json_member m ∷ xs) (filtered_without name ms))
  | equal is same test ↦ rw (same_turned m.0 name, test) (filtered_without name ms)
  | greater is behind test ↦ rw (same_turned m.0 name, test) (ap (λ (xs : List (List ℕ × Json)). json_member m ∷ xs) (filtered_without name ms))
]

-- they are in order
pub without_in_order : (name : List ℕ) (ms : List (List ℕ × Json)) → AreOrdered ms → AreOrdered (without_member name ms)
without_in_order name ms ordered = merged_ordered ms (member name null no_members) ordered
