-- Merging by moving: how far a loop that moves members has come, and what its end means.
use Rattle.std.proofs.Common.{◌≡◌, ℕ, List, [], ◌∷◌, ◌++◌, Option, Some, None, refl, sym, ap, subst, ◌∙◌, append_assoc, length, arith}
use Rattle.std.specs.List.{filter}
use Rattle.std.specs.Prelude.{not, MatchOption, option_map}
use Rattle.std.specs.Str.{bytes_eq}
use Rattle.std.proofs.lemmas.List.{map-append}
use Rattle.wot_json.specs.Tree.{Json, null, no_members, member, members_of, AreOrdered}
use Rattle.wot_json.specs.Meaning.{json_of, json_member, json_members}
use Rattle.wot_json.specs.Merge.{merge, merged_members, without_member}
use Rattle.wot_json.specs.Cutting.{IsCutAt, IsBefore, IsBeforeAll, IsAfterAll, with_first}
use Rattle.wot_json.specs.declared.tree.Tree.{Tree}
use Rattle.wot_json.specs.declared.tree.Tree.TheVariants as tree
use Rattle.wot_json.proofs.MemberOrder.{less, equal, greater, compares, before_others, before_all, before_other, behind_other, rest_ordered}
use Rattle.wot_json.proofs.MergeLaws.{merged_ordered}
use Rattle.tm_resolve.specs.Merging.{BeginsBefore, BeginsAt, TakesAt}

abbrev Field : Type 0
Field = List ℕ × Json

abbrev Named : Type 0
Named = List ℕ × Tree

-- members before the name have moved to the end of the others, and the rest is left
pub record HasMoved (name : List ℕ) (members others left grown : List Field) : Type 0 where
  pub before : List Field
  pub parts : members ≡ before ++ left
  pub smaller : IsAfterAll name before
  pub moved : grown ≡ others ++ before

pub none_moved : (name : List ℕ) (members others : List Field) → HasMoved name members others members others
none_moved name members others = record { before = []; parts = refl; smaller = tt; moved = sym (append_none others) }
  where
    append_none : (xs : List Field) → xs ++ [] ≡ xs
    append_none [] = refl
    append_none (x ∷ xs) = ap (λ (ys : List Field). x ∷ ys) (append_none xs)

after_more : (name : List ℕ) (before : List Field) (m : Field) → IsAfterAll name before → IsBefore m.0 name → IsAfterAll name (before ++ m ∷ [])
after_more name [] m smaller first = (first, tt)
after_more name (x ∷ before) m smaller first = (smaller.0, after_more name before m smaller.1 first)

-- one member more
pub more_moved : (name : List ℕ) (members others left grown next : List Field) (m : Field) (grown' : List Field) → HasMoved name members others left grown → left ≡ m ∷ next → IsBefore m.0 name → grown' ≡ grown ++ m ∷ []
    → HasMoved name members others next grown'
more_moved name members others left grown next m grown' so_far split first push = record {
  before = so_far.before ++ m ∷ [];
  parts = so_far.parts ∙ ap (λ (xs : List Field). so_far.before ++ xs) split ∙ sym (append_assoc so_far.before (m ∷ []) next);
  smaller = after_more name so_far.before m so_far.smaller first;
  moved = push ∙ ap (λ (xs : List Field). xs ++ m ∷ []) so_far.moved ∙ append_assoc others so_far.before (m ∷ []);
}

-- the members after a part of some that are in order
ordered_behind : (before left : List Field) → AreOrdered (before ++ left) → AreOrdered left
ordered_behind [] left ordered = ordered
ordered_behind (m ∷ before) left ordered = ordered_behind before left (rest_ordered m (before ++ left) ordered)

-- where the first is neither before the name nor of it, all are after it
all_after : (name : List ℕ) (ms : List Field) → AreOrdered ms → (BeginsBefore name ms → ⊥) → (BeginsAt name ms → ⊥) → IsBeforeAll name ms
all_after name [] ordered not_before not_at = tt
all_after name (m ∷ ms) ordered not_before not_at = elim (compares name m.0) [
  | less is test ↦ (is, before_all name m.0 ms is (before_others m ms ordered))
  | equal is same test ↦ absurd (not_at (sym same))
  | greater is behind test ↦ absurd (not_before behind)
]

left_after : (name : List ℕ) (value : Option Json) (left taken : List Field) → AreOrdered left → (BeginsBefore name left → ⊥) → left ≡ with_first name value taken → (value ≡ None → BeginsAt name left → ⊥) → IsBeforeAll name taken
left_after name None left taken ordered not_before split none =
    subst (λ (ms : List Field). IsBeforeAll name ms) split (all_after name left ordered not_before (none refl))
left_after name (Some v) left taken ordered not_before split none = before_others (name, v) taken (subst AreOrdered split ordered)

-- the first that is left is taken where it has the name
pub moved_takes : (name : List ℕ) (members others left grown : List Field) (value : Option Json) (taken : List Field) → AreOrdered members → HasMoved name members others left grown → (BeginsBefore name left → ⊥)
    → left ≡ with_first name value taken → (value ≡ None → BeginsAt name left → ⊥) → TakesAt name members others value taken grown
moved_takes name members others left grown value taken ordered so_far not_before split none = record {
  before = so_far.before;
  cut = record {
    parts = so_far.parts ∙ ap (λ (xs : List Field). so_far.before ++ xs) split;
    smaller = so_far.smaller;
    greater = left_after name value left taken (ordered_behind so_far.before left (subst AreOrdered so_far.parts ordered)) not_before split none;
  };
  moved = so_far.moved;
}

-- the members after a cut are in order
pub cut_ordered : (name : List ℕ) (members before : List Field) (value : Option Json) (after : List Field) → IsCutAt name members before value after → AreOrdered members → AreOrdered after
cut_ordered name members before None after cut ordered = ordered_behind before after (subst AreOrdered cut.parts ordered)
cut_ordered name members before (Some v) after cut ordered =
    rest_ordered (name, v) after (ordered_behind before ((name, v) ∷ after) (subst AreOrdered cut.parts ordered))

-- the statement on an option that has no value
pub none_named : (P : Type 0) (o : Option Tree) → MatchOption o P (λ v. Unit {0}) → option_map json_of o ≡ None → P
none_named P None is none = is
none_named P (Some v) is none = absurd cc

-- an empty list
none_left : (ms : List Named) → length ms ≡ 0 → ms ≡ []
none_left [] none = refl
none_left (m ∷ ms) none = absurd (omega (arith, none))

-- members that were pushed
pub pushed : (old new more : List Named) → new ≡ old ++ more → json_members new ≡ json_members old ++ json_members more
pushed old new more is = ap json_members is ∙ map-append json_member old more

-- no changes are left, and what is left of the members is put after what is done: that is the whole
pub all_merged : (rest done left all changes : List Named) (whole : List Field) → json_members done ++ merged_members (json_members rest) (members_of (json_members changes)) ≡ whole → length changes ≡ 0 → left ≡ rest → all ≡ done ++ left → json_members all ≡ whole
all_merged rest done left all changes whole so_far none same is =
    pushed done all left is
    ∙ ap (λ (ms : List Named). json_members done ++ json_members ms) same
    ∙ ap (λ (ms : List Named). json_members done ++ merged_members (json_members rest) (members_of (json_members ms))) (sym (none_left changes none))
    ∙ so_far

-- a patch that is no object is the result itself
pub patch_itself : (target : Json) (patch : Tree) → ((ms : List Field) → patch ≡ tree.Obj ms → ⊥) → json_of patch ≡ merge target (json_of patch)
patch_itself target tree.Null other = refl
patch_itself target (tree.Bool b) other = refl
patch_itself target (tree.Int z) other = refl
patch_itself target (tree.Text s) other = refl
patch_itself target (tree.List vs) other = refl
patch_itself target (tree.Obj ms) other = absurd (other ms refl)

-- ---- members but for that of a name

-- the test of a member by its name, from either side
same_turned : (m n : List ℕ) → bytes_eq m n ≡ bytes_eq n m
same_turned m n = elim (compares m n) [
  | less is test ↦ test ∙ sym (behind_other m n is)
  | equal is same test ↦ (λ k. bytes_eq (same k) (sym same k))
  | greater is behind test ↦ test ∙ sym (before_other n m behind)
]

-- the members that don't have the name are the members but for that of it
pub filtered_without : (name : List ℕ) (ms : List Named) → json_members (filter (λ m. not (bytes_eq m.0 name)) ms) ≡ without_member name (json_members ms)
filtered_without name [] = refl
filtered_without name (m ∷ ms) = elim (compares name m.0) [
  | less is test ↦ rw (same_turned m.0 name, test) (ap (λ (xs : List Field). json_member m ∷ xs) (filtered_without name ms))
  | equal is same test ↦ rw (same_turned m.0 name, test) (filtered_without name ms)
  | greater is behind test ↦ rw (same_turned m.0 name, test) (ap (λ (xs : List Field). json_member m ∷ xs) (filtered_without name ms))
]

-- they are in order
pub without_in_order : (name : List ℕ) (ms : List Field) → AreOrdered ms → AreOrdered (without_member name ms)
without_in_order name ms ordered = merged_ordered ms (member name null no_members) ordered
