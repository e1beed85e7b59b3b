-- The members after a merge. The result of a merge is well formed.
use Rattle.std.proofs.Common.{◌≡◌, ℕ, List, [], ◌∷◌, Option, Some, None, unwrap_or, false, refl, sym, ap, ◌∙◌}
use Rattle.std.specs.Prelude.{IsUtf8, ⊤}
use Rattle.std.specs.Str.{bytes_eq}
use Rattle.wot_json.specs.Tree.{Json, null, boolean, integer, string, array, object, Members, no_members, member, members_of, AreOrdered}
use Rattle.wot_json.specs.Lookup.{member_named, member_list, value_under}
use Rattle.wot_json.specs.Merge.{with_member, without_member, changed_members, merge, merged_members, members_under, patched_member}
use Rattle.wot_json.specs.WellFormed.{IsWellFormed, MembersAreWellFormed}
use Rattle.wot_json.proofs.EqualTrees.{listed_members_lem}
use Rattle.wot_json.proofs.MemberOrder.{less, equal, greater, compares, before_others, rest_ordered}
use Rattle.wot_json.proofs.MergeLaws.{itself, named_behind, merged_ordered}
use Rattle.wot_json.proofs.WellFormed.{IsWellFormed-object}

abbrev Field : Type 0
Field = List ℕ × Json

-- ---- the member of a name after one change

named_without : (name : List ℕ) (ms : List Field) → member_named name (without_member name ms) ≡ None
named_without name [] = refl
named_without name (m ∷ ms) = elim (compares name m.0) [
  | less is test ↦ rw test (rw test (named_without name ms))
  | equal is same test ↦ rw test (named_without name ms)
  | greater is behind test ↦ rw test (rw test (named_without name ms))
]

named_with : (name : List ℕ) (w : Json) (ms : List Field) → member_named name (with_member name w ms) ≡ Some w
named_with name w [] = rw (itself name).1
named_with name w (m ∷ ms) = elim (compares name m.0) [
  | less is test ↦ rw is (rw (itself name).1)
  | equal is same test ↦ rw is (rw (itself name).1)
  | greater is behind test ↦ rw is (rw test (named_with name w ms))
]

-- the member of this name after a change of its own
named_change : (name : List ℕ) (v : Json) (target : Option Json) (ms : List Field) → member_named name (changed_members name v (merge (unwrap_or target null) v) ms) ≡ patched_member target (Some v)
named_change name null target ms = named_without name ms
named_change name (boolean b) target ms = named_with name (boolean b) ms
named_change name (integer z) target ms = named_with name (integer z) ms
named_change name (string s) target ms = named_with name (string s) ms
named_change name (array es) target ms = named_with name (array es) ms
named_change name (object os) target ms = named_with name (merge (unwrap_or target null) (object os)) ms

-- ---- the member of a name after a change of another

-- the test of a name against one that is the same as another
same_test : (name other third : List ℕ) → bytes_eq name other ≡ false → other ≡ third → bytes_eq name third ≡ false
same_test name other third differ same = ap (bytes_eq name) (sym same) ∙ differ

named_without_other : (name other : List ℕ) (ms : List Field) → bytes_eq name other ≡ false → member_named name (without_member other ms) ≡ member_named name ms
named_without_other name other [] differ = refl
named_without_other name other (m ∷ ms) differ =
    let rest = named_without_other name other ms differ in
    elim (compares other m.0) [
      | less is test ↦ rw test (rw rest)
      | equal is same test ↦ rw (test, same_test name other m.0 differ same) rest
      | greater is behind test ↦ rw test (rw rest)
    ]

named_with_other : (name other : List ℕ) (w : Json) (ms : List Field) → bytes_eq name other ≡ false → member_named name (with_member other w ms) ≡ member_named name ms
named_with_other name other w [] differ = rw differ
named_with_other name other w (m ∷ ms) differ = elim (compares other m.0) [
  | less is test ↦ rw is (rw differ)
  | equal is same test ↦ rw is (rw (differ, same_test name other m.0 differ same))
  | greater is behind test ↦ rw is (rw (named_with_other name other w ms differ))
]

named_other_change : (name other : List ℕ) (v w : Json) (ms : List Field) → bytes_eq name other ≡ false → member_named name (changed_members other v w ms) ≡ member_named name ms
named_other_change name other null w ms differ = named_without_other name other ms differ
named_other_change name other (boolean b) w ms differ = named_with_other name other w ms differ
named_other_change name other (integer z) w ms differ = named_with_other name other w ms differ
named_other_change name other (string s) w ms differ = named_with_other name other w ms differ
named_other_change name other (array es) w ms differ = named_with_other name other w ms differ
named_other_change name other (object os) w ms differ = named_with_other name other w ms differ

-- ---- the member of a name after all changes

after_one : (name n : List ℕ) (v : Json) (ms : List Field) (cs : Members) → AreOrdered ((n, v) ∷ member_list cs)
    → member_named name (merged_members (changed_members n v (merge (unwrap_or (member_named n ms) null) v) ms) cs) ≡ patched_member (member_named name (changed_members n v (merge (unwrap_or (member_named n ms) null) v) ms)) (value_under name cs)
    → member_named name (merged_members ms (member n v cs)) ≡ patched_member (member_named name ms) (value_under name (member n v cs))
after_one name n v ms cs ordered later =
    let w : Json = merge (unwrap_or (member_named n ms) null) v in
    let other : bytes_eq name n ≡ false → member_named name (merged_members ms (member n v cs)) ≡ patched_member (member_named name ms) (value_under name (member n v cs)) =
    λ differ. rw differ (later ∙ ap (λ (o : Option Json). patched_member o (value_under name cs)) (named_other_change name n v w ms differ)) in
    elim (compares name n) [
      | less is test ↦ other test
      | equal is same test ↦
          let last : value_under name cs ≡ None = ap (λ (x : List ℕ). member_named x (member_list cs)) same ∙ named_behind n (member_list cs) (before_others (n, v) (member_list cs) ordered) in
          rw test (later ∙ ap (patched_member (member_named name (changed_members n v w ms))) last
          ∙ ap (λ (x : List ℕ). member_named x (changed_members n v w ms)) same
          ∙ named_change n v (member_named n ms) ms
          ∙ ap (λ (x : List ℕ). patched_member (member_named x ms) (Some v)) (sym same))
      | greater is behind test ↦ other test
    ]

pub named_merged : (name : List ℕ) (ms : List Field) (changes : Members) → AreOrdered (member_list changes) → member_named name (merged_members ms changes) ≡ patched_member (member_named name ms) (value_under name changes)
named_merged name ms no_members ordered = refl
named_merged name ms (member n v cs) ordered =
    after_one name n v ms cs ordered (named_merged name (changed_members n v (merge (unwrap_or (member_named n ms) null) v) ms) cs (rest_ordered (n, v) (member_list cs) ordered))

-- each member of the merge of an object
pub merge_by_members : (target : Json) (changes : Members) (name : List ℕ) → IsWellFormed (object changes)
    → member_named name (members_under (merge target (object changes))) ≡ patched_member (member_named name (members_under target)) (value_under name changes)
merge_by_members target changes name formed =
    ap (member_named name) (listed_members_lem (merged_members (members_under target) changes)) ∙ named_merged name (members_under target) changes formed.0

-- ---- the result is well formed

abbrev AreFormed : List Field → Type 0
AreFormed [] = ⊤
AreFormed (m ∷ ms) = IsUtf8 m.0 × IsWellFormed m.1 × AreFormed ms

listed_formed : (ms : Members) → MembersAreWellFormed ms → AreFormed (member_list ms)
listed_formed no_members formed = tt
listed_formed (member n v ms) formed = (formed.0, formed.1, listed_formed ms formed.2)

formed_again : (ms : List Field) → AreFormed ms → MembersAreWellFormed (members_of ms)
formed_again [] formed = tt
formed_again (m ∷ ms) formed = (formed.0, formed.1, formed_again ms formed.2)

-- the members of a well-formed value
under_formed : (v : Json) → IsWellFormed v → AreOrdered (members_under v) × AreFormed (members_under v)
under_formed null formed = (tt, tt)
under_formed (boolean b) formed = (tt, tt)
under_formed (integer z) formed = (tt, tt)
under_formed (string s) formed = (tt, tt)
under_formed (array es) formed = (tt, tt)
under_formed (object ms) formed = (formed.0, listed_formed ms formed.1)

without_formed : (name : List ℕ) (ms : List Field) → AreFormed ms → AreFormed (without_member name ms)
without_formed name [] formed = tt
without_formed name (m ∷ ms) formed =
    let rest = without_formed name ms formed.2 in
    elim (compares name m.0) [
      | less is test ↦ rw test (formed.0, formed.1, rest)
      | equal is same test ↦ rw test rest
      | greater is behind test ↦ rw test (formed.0, formed.1, rest)
    ]

with_formed : (name : List ℕ) (w : Json) (ms : List Field) → IsUtf8 name → IsWellFormed w → AreFormed ms → AreFormed (with_member name w ms)
with_formed name w [] utf8 one formed = (utf8, one, tt)
with_formed name w (m ∷ ms) utf8 one formed = elim (compares name m.0) [
  | less is test ↦ rw is (utf8, one, formed)
  | equal is same test ↦ rw is (utf8, one, formed.2)
  | greater is behind test ↦ rw is (formed.0, formed.1, with_formed name w ms utf8 one formed.2)
]

named_formed : (name : List ℕ) (ms : List Field) → AreFormed ms → IsWellFormed (unwrap_or (member_named name ms) null)
named_formed name [] formed = tt
named_formed name (m ∷ ms) formed = elim (compares name m.0) [
  | less is test ↦ rw test (named_formed name ms formed.2)
  | equal is same test ↦ rw test formed.1
  | greater is behind test ↦ rw test (named_formed name ms formed.2)
]

changed_formed : (name : List ℕ) (v w : Json) (ms : List Field) → IsUtf8 name → IsWellFormed w → AreFormed ms → AreFormed (changed_members name v w ms)
changed_formed name null w ms utf8 one formed = without_formed name ms formed
changed_formed name (boolean b) w ms utf8 one formed = with_formed name w ms utf8 one formed
changed_formed name (integer z) w ms utf8 one formed = with_formed name w ms utf8 one formed
changed_formed name (string s) w ms utf8 one formed = with_formed name w ms utf8 one formed
changed_formed name (array es) w ms utf8 one formed = with_formed name w ms utf8 one formed
changed_formed name (object os) w ms utf8 one formed = with_formed name w ms utf8 one formed

mutual
  -- a well-formed patch on a well-formed target gives a well-formed value
  pub merge_formed : (patch target : Json) → IsWellFormed target → IsWellFormed patch → IsWellFormed (merge target patch)
  merge_formed null target formed changes_formed = tt
  merge_formed (boolean b) target formed changes_formed = tt
  merge_formed (integer z) target formed changes_formed = changes_formed
  merge_formed (string s) target formed changes_formed = changes_formed
  merge_formed (array es) target formed changes_formed = changes_formed
  merge_formed (object changes) target formed changes_formed =
      let under = under_formed target formed in
      IsWellFormed-object (merged_members (members_under target) changes) (merged_ordered (members_under target) changes under.0)
      (formed_again (merged_members (members_under target) changes) (merged_formed changes (members_under target) under.1 changes_formed.1))

  merged_formed : (changes : Members) (ms : List Field) → AreFormed ms → MembersAreWellFormed changes → AreFormed (merged_members ms changes)
  merged_formed no_members ms formed changes_formed = formed
  merged_formed (member n v cs) ms formed changes_formed =
      let one : IsWellFormed (merge (unwrap_or (member_named n ms) null) v) = merge_formed v (unwrap_or (member_named n ms) null) (named_formed n ms formed) changes_formed.1 in
      merged_formed cs (changed_members n v (merge (unwrap_or (member_named n ms) null) v) ms) (changed_formed n v (merge (unwrap_or (member_named n ms) null) v) ms changes_formed.0 one formed) changes_formed.2
