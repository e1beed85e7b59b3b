-- Merging a patch twice is merging it once.
use Rattle.std.proofs.Common.{◌≡◌, ℕ, List, [], ◌∷◌, ◌++◌, Option, Some, unwrap_or, true, false, refl, sym, ap, subst, ◌∙◌}
use mathlib.Core.Bool.{false≢true}
use Rattle.std.specs.Cmp.Lexicographic.{nat_list_cmp_total}
use Rattle.std.specs.Str.{bytes_eq}
use Rattle.wot_json.specs.Tree.{Json, null, boolean, integer, string, array, object, Members, no_members, member, members_of, AreOrdered}
use Rattle.wot_json.specs.Lookup.{member_named, member_list}
use Rattle.wot_json.specs.Cutting.{IsBefore, IsBeforeAll, IsAfterAll}
use Rattle.wot_json.specs.Merge.{with_member, without_member, changed_members, merge, merged_members, members_under}
use Rattle.wot_json.specs.WellFormed.{IsWellFormed, MembersAreWellFormed}
use Rattle.wot_json.proofs.EqualTrees.{listed_members_lem}
use Rattle.wot_json.proofs.MemberOrder.{less, equal, greater, compares, before_other, before_others, rest_ordered}
use Rattle.wot_json.proofs.MergeLaws.{itself, named_fronts, changed_fronts}

abbrev Field : Type 0
Field = List ℕ × Json

-- no member has the name
abbrev IsAbsent : List ℕ → List Field → Type 0
IsAbsent name [] = Unit {0}
IsAbsent name (m ∷ ms) = (bytes_eq name m.0 ≡ false) × IsAbsent name ms

-- a member of this name and value is after those of smaller names
abbrev Holds : List ℕ → Json → List Field → Type 0
Holds name w ms = (front : List Field) × (back : List Field) × (ms ≡ front ++ (name, w) ∷ back) × IsAfterAll name front

-- ---- absent names

absent_fixed : (name : List ℕ) (ms : List Field) → IsAbsent name ms → without_member name ms ≡ ms
absent_fixed name [] absent = refl
absent_fixed name (m ∷ ms) absent = rw absent.0 (ap (λ (xs : List Field). m ∷ xs) (absent_fixed name ms absent.1))

absent_without : (name : List ℕ) (ms : List Field) → IsAbsent name (without_member name ms)
absent_without name [] = tt
absent_without name (m ∷ ms) = elim (compares name m.0) [
  | less is test ↦ rw test (test, absent_without name ms)
  | equal is same test ↦ rw test (absent_without name ms)
  | greater is behind test ↦ rw test (test, absent_without name ms)
]

absent_without_other : (name other : List ℕ) (ms : List Field) → IsAbsent name ms → IsAbsent name (without_member other ms)
absent_without_other name other [] absent = tt
absent_without_other name other (m ∷ ms) absent = elim (compares other m.0) [
  | less is test ↦ rw test (absent.0, absent_without_other name other ms absent.1)
  | equal is same test ↦ rw test (absent_without_other name other ms absent.1)
  | greater is behind test ↦ rw test (absent.0, absent_without_other name other ms absent.1)
]

absent_with : (name other : List ℕ) (x : Json) (ms : List Field) → bytes_eq name other ≡ false → IsAbsent name ms → IsAbsent name (with_member other x ms)
absent_with name other x [] differ absent = (differ, tt)
absent_with name other x (m ∷ ms) differ absent = elim (compares other m.0) [
  | less is test ↦ rw is (differ, absent)
  | equal is same test ↦ rw is (differ, absent.1)
  | greater is behind test ↦ rw is (absent.0, absent_with name other x ms differ absent.1)
]

-- ---- a member that holds

holds_with : (name : List ℕ) (w : Json) (ms : List Field) → Holds name w (with_member name w ms)
holds_with name w [] = ([], [], refl, tt)
holds_with name w (m ∷ ms) = elim (compares name m.0) [
  | less is test ↦ rw is ([], m ∷ ms, refl, tt)
  | equal is same test ↦ rw is ([], ms, refl, tt)
  | greater is behind test ↦
      let rest = holds_with name w ms in
      rw is (m ∷ rest.0, rest.1, ap (λ (xs : List Field). m ∷ xs) rest.2, (behind, rest.3))
]

-- two names are not the same
abbrev Differ : List ℕ → List ℕ → Type 0
Differ other name = (other ≡ name → ⊥) × (bytes_eq name other ≡ false)

holds_with_at : (name other : List ℕ) (w x : Json) (front back : List Field) → IsAfterAll name front → Differ other name → Holds name w (with_member other x (front ++ (name, w) ∷ back))
holds_with_at name other w x [] back behind differ = elim (compares other name) [
  | less is test ↦ rw is ((other, x) ∷ [], back, refl, (is, tt))
  | equal is same test ↦ absurd (differ.0 same)
  | greater is before test ↦ rw is ([], with_member other x back, refl, tt)
]
holds_with_at name other w x (m ∷ front) back behind differ = elim (compares other m.0) [
  | less is test ↦ rw is ((other, x) ∷ m ∷ front, back, refl, (nat_list_cmp_total.trans other m.0 name is behind.0, behind))
  | equal is same test ↦ rw is ((other, x) ∷ front, back, refl, (subst (λ (n : List ℕ). IsBefore n name) (sym same) behind.0, behind.1))
  | greater is before test ↦
      let rest = holds_with_at name other w x front back behind.1 differ in
      rw is (m ∷ rest.0, rest.1, ap (λ (xs : List Field). m ∷ xs) rest.2, (behind.0, rest.3))
]

holds_without_at : (name other : List ℕ) (w : Json) (front back : List Field) → IsAfterAll name front → Differ other name → Holds name w (without_member other (front ++ (name, w) ∷ back))
holds_without_at name other w [] back behind differ = elim (compares other name) [
  | less is test ↦ rw test ([], without_member other back, refl, tt)
  | equal is same test ↦ absurd (differ.0 same)
  | greater is before test ↦ rw test ([], without_member other back, refl, tt)
]
holds_without_at name other w (m ∷ front) back behind differ =
    let rest = holds_without_at name other w front back behind.1 differ in
    let kept : Holds name w (m ∷ without_member other (front ++ (name, w) ∷ back)) = (m ∷ rest.0, rest.1, ap (λ (xs : List Field). m ∷ xs) rest.2, (behind.0, rest.3)) in
    elim (compares other m.0) [
      | less is test ↦ rw test kept
      | equal is same test ↦ rw test rest
      | greater is before test ↦ rw test kept
    ]

holds_with_other : (name other : List ℕ) (w x : Json) (ms : List Field) → Holds name w ms → Differ other name → Holds name w (with_member other x ms)
holds_with_other name other w x ms (front, back, is, behind) differ =
    subst (λ (xs : List Field). Holds name w (with_member other x xs)) (sym is) (holds_with_at name other w x front back behind differ)

holds_without_other : (name other : List ℕ) (w : Json) (ms : List Field) → Holds name w ms → Differ other name → Holds name w (without_member other ms)
holds_without_other name other w ms (front, back, is, behind) differ =
    subst (λ (xs : List Field). Holds name w (without_member other xs)) (sym is) (holds_without_at name other w front back behind differ)

-- ---- a change that was made

-- the members are as this change leaves them
abbrev IsMade : List ℕ → Json → List Field → Type 0
IsMade name null ms = IsAbsent name ms
IsMade name (boolean b) ms = Holds name (boolean b) ms
IsMade name (integer z) ms = Holds name (integer z) ms
IsMade name (string s) ms = Holds name (string s) ms
IsMade name (array es) ms = Holds name (array es) ms
IsMade name (object os) ms = (x : Json) × Holds name (merge x (object os)) ms

is_made : (name : List ℕ) (v x : Json) (ms : List Field) → IsMade name v (changed_members name v (merge x v) ms)
is_made name null x ms = absent_without name ms
is_made name (boolean b) x ms = holds_with name (boolean b) ms
is_made name (integer z) x ms = holds_with name (integer z) ms
is_made name (string s) x ms = holds_with name (string s) ms
is_made name (array es) x ms = holds_with name (array es) ms
is_made name (object os) x ms = (x, holds_with name (merge x (object os)) ms)

-- a change of another name leaves what holds, and what is absent
holds_changed : (name other : List ℕ) (w u z : Json) (ms : List Field) → Holds name w ms → Differ other name → Holds name w (changed_members other u z ms)
holds_changed name other w null z ms holds differ = holds_without_other name other w ms holds differ
holds_changed name other w (boolean b) z ms holds differ = holds_with_other name other w z ms holds differ
holds_changed name other w (integer i) z ms holds differ = holds_with_other name other w z ms holds differ
holds_changed name other w (string s) z ms holds differ = holds_with_other name other w z ms holds differ
holds_changed name other w (array es) z ms holds differ = holds_with_other name other w z ms holds differ
holds_changed name other w (object os) z ms holds differ = holds_with_other name other w z ms holds differ

absent_changed : (name other : List ℕ) (u z : Json) (ms : List Field) → IsAbsent name ms → Differ other name → IsAbsent name (changed_members other u z ms)
absent_changed name other null z ms absent differ = absent_without_other name other ms absent
absent_changed name other (boolean b) z ms absent differ = absent_with name other z ms differ.1 absent
absent_changed name other (integer i) z ms absent differ = absent_with name other z ms differ.1 absent
absent_changed name other (string s) z ms absent differ = absent_with name other z ms differ.1 absent
absent_changed name other (array es) z ms absent differ = absent_with name other z ms differ.1 absent
absent_changed name other (object os) z ms absent differ = absent_with name other z ms differ.1 absent

made_changed : (name other : List ℕ) (v u z : Json) (ms : List Field) → IsMade name v ms → Differ other name → IsMade name v (changed_members other u z ms)
made_changed name other null u z ms made differ = absent_changed name other u z ms made differ
made_changed name other (boolean b) u z ms made differ = holds_changed name other (boolean b) u z ms made differ
made_changed name other (integer i) u z ms made differ = holds_changed name other (integer i) u z ms made differ
made_changed name other (string s) u z ms made differ = holds_changed name other (string s) u z ms made differ
made_changed name other (array es) u z ms made differ = holds_changed name other (array es) u z ms made differ
made_changed name other (object os) u z ms made differ = (made.0, holds_changed name other (merge made.0 (object os)) u z ms made.1 differ)

-- the name is before those of the changes
abbrev IsBeforeChanges : List ℕ → Members → Type 0
IsBeforeChanges name no_members = Unit {0}
IsBeforeChanges name (member n v changes) = IsBefore name n × IsBeforeChanges name changes

is_before_changes : (name : List ℕ) (changes : Members) → IsBeforeAll name (member_list changes) → IsBeforeChanges name changes
is_before_changes name no_members before = tt
is_before_changes name (member n v changes) before = (before.0, is_before_changes name changes before.1)

differ_before : (name other : List ℕ) → IsBefore name other → Differ other name
differ_before name other before = (λ same. false≢true (sym (before_other name other before) ∙ ap (bytes_eq name) same ∙ (itself name).1), before_other name other before)

made_merged : (name : List ℕ) (v : Json) (ms : List Field) (changes : Members) → IsMade name v ms → IsBeforeChanges name changes → IsMade name v (merged_members ms changes)
made_merged name v ms no_members made before = made
made_merged name v ms (member n u changes) made before =
    made_merged name v (changed_members n u (merge (unwrap_or (member_named n ms) null) u) ms) changes
    (made_changed name n v u (merge (unwrap_or (member_named n ms) null) u) ms made (differ_before name n before.0)) before.1

-- all changes were made
abbrev AreMade : Members → List Field → Type 0
AreMade no_members ms = Unit {0}
AreMade (member n v changes) ms = IsMade n v ms × AreMade changes ms

are_made : (ms : List Field) (changes : Members) → AreOrdered (member_list changes) → AreMade changes (merged_members ms changes)
are_made ms no_members ordered = tt
are_made ms (member n v changes) ordered =
    let x : Json = unwrap_or (member_named n ms) null in
    let next : List Field = changed_members n v (merge x v) ms in (
      made_merged n v next changes (is_made n v x ms) (is_before_changes n changes (before_others (n, v) (member_list changes) ordered)),
      are_made next changes (rest_ordered (n, v) (member_list changes) ordered),
    )

-- ---- making it again

named_held : (name : List ℕ) (w : Json) (ms : List Field) → Holds name w ms → member_named name ms ≡ Some w
named_held name w ms (front, back, is, behind) =
    ap (member_named name) is ∙ named_fronts name front ((name, w) ∷ back) behind ∙ rw (itself name).1

with_held : (name : List ℕ) (w : Json) (ms : List Field) → Holds name w ms → with_member name w ms ≡ ms
with_held name w ms (front, back, is, behind) =
    ap (with_member name w) is ∙ changed_fronts name (boolean true) w front ((name, w) ∷ back) behind ∙ ap (λ (xs : List Field). front ++ xs) (rw (itself name).0) ∙ sym is

abbrev MergesTwice : Json → Type 0
MergesTwice v = (t : Json) → merge (merge t v) v ≡ merge t v

made_again : (name : List ℕ) (v : Json) (ms : List Field) → MergesTwice v → IsMade name v ms → changed_members name v (merge (unwrap_or (member_named name ms) null) v) ms ≡ ms
made_again name null ms same made = absent_fixed name ms made
made_again name (boolean b) ms same made = with_held name (boolean b) ms made
made_again name (integer z) ms same made = with_held name (integer z) ms made
made_again name (string s) ms same made = with_held name (string s) ms made
made_again name (array es) ms same made = with_held name (array es) ms made
made_again name (object os) ms same (x, holds) =
    ap (λ (o : Option Json). with_member name (merge (unwrap_or o null) (object os)) ms) (named_held name (merge x (object os)) ms holds)
    ∙ ap (λ (w : Json). with_member name w ms) (same x) ∙ with_held name (merge x (object os)) ms holds

mutual
  pub merges_twice : (p : Json) → IsWellFormed p → (t : Json) → merge (merge t p) p ≡ merge t p
  merges_twice null formed t = refl
  merges_twice (boolean b) formed t = refl
  merges_twice (integer z) formed t = refl
  merges_twice (string s) formed t = refl
  merges_twice (array es) formed t = refl
  merges_twice (object changes) formed t =
      let once : List Field = merged_members (members_under t) changes in
      ap (λ (xs : List Field). object (members_of (merged_members xs changes))) (listed_members_lem once)
      ∙ ap (λ (xs : List Field). object (members_of xs)) (changes_again changes formed.1 once (are_made (members_under t) changes formed.0))

  changes_again : (changes : Members) → MembersAreWellFormed changes → (ms : List Field) → AreMade changes ms → merged_members ms changes ≡ ms
  changes_again no_members formed ms made = refl
  changes_again (member n v changes) formed ms made =
      ap (λ (xs : List Field). merged_members xs changes) (made_again n v ms (merges_twice v formed.1) made.0) ∙ changes_again changes formed.2 ms made.1
