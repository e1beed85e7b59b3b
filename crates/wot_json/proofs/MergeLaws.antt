-- Laws of merge patch.
use Rattle.std.proofs.Common.{◌≡◌, ℕ, List, [], ◌∷◌, ◌++◌, Option, Some, None, unwrap_or, true, refl, sym, ap, subst, ◌∙◌, append_assoc}
use Rattle.std.specs.Ordering.{nat_cmp}
use Rattle.std.specs.declared.cmp.Ordering.TheVariants.{Equal}
use Rattle.std.specs.Cmp.Lexicographic.{slice_cmp, nat_list_cmp_total}
use Rattle.std.specs.Str.{bytes_eq}
use Rattle.wot_json.specs.Tree.{Json, null, boolean, integer, string, array, object, Members, no_members, member, members_of, AreOrdered}
use Rattle.wot_json.specs.Lookup.{member_named}
use Rattle.wot_json.specs.Cutting.{IsCutAt, IsBefore, IsBeforeAll, IsAfterAll, with_first}
use Rattle.wot_json.specs.Merge.{with_member, without_member, changed_members, added_members, merge, merged_members}
use Rattle.wot_json.proofs.MemberOrder.{less, equal, greater, compares, behind_Greater, behind_other, before_other, rest_ordered, before_others, ordered_with}

abbrev Field : Type 0
Field = List ℕ × Json

-- the name is before that of each change
abbrev pub PrecedesChanges : List ℕ → Members → Type 0
PrecedesChanges name no_members = Unit {0}
PrecedesChanges name (member n v changes) = IsBefore name n × PrecedesChanges name changes

pub before_changes : (name : List ℕ) (ms : List Field) → IsBeforeAll name ms → PrecedesChanges name (members_of ms)
before_changes name [] before = tt
before_changes name (m ∷ ms) before = (before.0, before_changes name ms before.1)

-- ---- a change of a name leaves the members before the name

changed_front : (name : List ℕ) (v w : Json) (m : Field) (ms : List Field) → IsBefore m.0 name → changed_members name v w (m ∷ ms) ≡ m ∷ changed_members name v w ms
changed_front name null w m ms before = rw (behind_other m.0 name before)
changed_front name (boolean b) w m ms before = rw (behind_Greater m.0 name before)
changed_front name (integer z) w m ms before = rw (behind_Greater m.0 name before)
changed_front name (string s) w m ms before = rw (behind_Greater m.0 name before)
changed_front name (array es) w m ms before = rw (behind_Greater m.0 name before)
changed_front name (object os) w m ms before = rw (behind_Greater m.0 name before)

named_front : (name : List ℕ) (m : Field) (ms : List Field) → IsBefore m.0 name → member_named name (m ∷ ms) ≡ member_named name ms
named_front name m ms before = rw (behind_other m.0 name before)

-- a member before all changes stays
pub merged_front : (m : Field) (ms : List Field) (changes : Members) → PrecedesChanges m.0 changes → merged_members (m ∷ ms) changes ≡ m ∷ merged_members ms changes
merged_front m ms no_members before = refl
merged_front m ms (member n v changes) before =
    let value : member_named n (m ∷ ms) ≡ member_named n ms = named_front n m ms before.0 in
    let w : Json = merge (unwrap_or (member_named n ms) null) v in
    ap (λ (o : Option Json). merged_members (changed_members n v (merge (unwrap_or o null) v) (m ∷ ms)) changes) value
    ∙ ap (λ (xs : List Field). merged_members xs changes) (changed_front n v w m ms before.0)
    ∙ merged_front m (changed_members n v w ms) changes before.1

-- members before all changes stay
pub merged_fronts : (before ms : List Field) (name : List ℕ) (changes : Members) → IsAfterAll name before → PrecedesChanges name changes → merged_members (before ++ ms) changes ≡ before ++ merged_members ms changes
merged_fronts [] ms name changes behind changes_behind = refl
merged_fronts (m ∷ before) ms name changes behind changes_behind =
    merged_front m (before ++ ms) changes (through m.0 name changes behind.0 changes_behind) ∙ ap (λ (xs : List Field). m ∷ xs) (merged_fronts before ms name changes behind.1 changes_behind)
  where
    through : (first second : List ℕ) (cs : Members) → IsBefore first second → PrecedesChanges second cs → PrecedesChanges first cs
    through first second no_members before' behind' = tt
    through first second (member n v cs) before' behind' = (nat_list_cmp_total.trans first second n before' behind'.0, through first second cs before' behind'.1)

-- ---- a change at a cut

pub named_behind : (name : List ℕ) (ms : List Field) → IsBeforeAll name ms → member_named name ms ≡ None
named_behind name [] before = refl
named_behind name (m ∷ ms) before = rw (before_other name m.0 before.0) (named_behind name ms before.1)

without_behind : (name : List ℕ) (ms : List Field) → IsBeforeAll name ms → without_member name ms ≡ ms
without_behind name [] before = refl
without_behind name (m ∷ ms) before = rw (before_other name m.0 before.0) (ap (λ (xs : List Field). m ∷ xs) (without_behind name ms before.1))

with_behind : (name : List ℕ) (w : Json) (ms : List Field) → IsBeforeAll name ms → with_member name w ms ≡ (name, w) ∷ ms
with_behind name w [] before = refl
with_behind name w (m ∷ ms) before = rw before.0

-- a name compares and tests as equal to itself
pub itself : (name : List ℕ) → (slice_cmp nat_cmp name name ≡ Equal) × (bytes_eq name name ≡ true)
itself name = elim (compares name name) [
  | less is test ↦ absurd (no_less name is)
  | equal is same test ↦ (is, test)
  | greater is before test ↦ absurd (no_less name before)
]
  where
    no_less : (n : List ℕ) → IsBefore n n → ⊥
    no_less n before = cc (before, behind_Greater n n before)

named_first : (name : List ℕ) (value : Option Json) (behind : List Field) → IsBeforeAll name behind → member_named name (with_first name value behind) ≡ value
named_first name None behind before = named_behind name behind before
named_first name (Some v) behind before = rw (itself name).1

changed_first : (name : List ℕ) (v w : Json) (value : Option Json) (behind : List Field) → IsBeforeAll name behind → changed_members name v w (with_first name value behind) ≡ added_members name v w ++ behind
changed_first name null w None behind before = without_behind name behind before
changed_first name null w (Some x) behind before = rw (itself name).1 (without_behind name behind before)
changed_first name (boolean b) w None behind before = with_behind name w behind before
changed_first name (boolean b) w (Some x) behind before = rw (itself name).0
changed_first name (integer z) w None behind before = with_behind name w behind before
changed_first name (integer z) w (Some x) behind before = rw (itself name).0
changed_first name (string s) w None behind before = with_behind name w behind before
changed_first name (string s) w (Some x) behind before = rw (itself name).0
changed_first name (array es) w None behind before = with_behind name w behind before
changed_first name (array es) w (Some x) behind before = rw (itself name).0
changed_first name (object os) w None behind before = with_behind name w behind before
changed_first name (object os) w (Some x) behind before = rw (itself name).0

pub named_fronts : (name : List ℕ) (before ms : List Field) → IsAfterAll name before → member_named name (before ++ ms) ≡ member_named name ms
named_fronts name [] ms behind = refl
named_fronts name (m ∷ before) ms behind = named_front name m (before ++ ms) behind.0 ∙ named_fronts name before ms behind.1

pub changed_fronts : (name : List ℕ) (v w : Json) (before ms : List Field) → IsAfterAll name before → changed_members name v w (before ++ ms) ≡ before ++ changed_members name v w ms
changed_fronts name v w [] ms behind = refl
changed_fronts name v w (m ∷ before) ms behind =
    changed_front name v w m (before ++ ms) behind.0 ∙ ap (λ (xs : List Field). m ∷ xs) (changed_fronts name v w before ms behind.1)

-- a member that is added for a change stays before all later changes
merged_added : (name : List ℕ) (v w : Json) (ms : List Field) (changes : Members) → PrecedesChanges name changes → merged_members (added_members name v w ++ ms) changes ≡ added_members name v w ++ merged_members ms changes
merged_added name null w ms changes before = refl
merged_added name (boolean b) w ms changes before = merged_front (name, w) ms changes before
merged_added name (integer z) w ms changes before = merged_front (name, w) ms changes before
merged_added name (string s) w ms changes before = merged_front (name, w) ms changes before
merged_added name (array es) w ms changes before = merged_front (name, w) ms changes before
merged_added name (object os) w ms changes before = merged_front (name, w) ms changes before

-- a member of the patch, and the members that are cut at its name
pub merged_at_cut : (name : List ℕ) (ms before : List Field) (value : Option Json) (behind : List Field) (v : Json) (changes : Members) → IsCutAt name ms before value behind → PrecedesChanges name changes
    → merged_members ms (member name v changes) ≡ (before ++ added_members name v (merge (unwrap_or value null) v)) ++ merged_members behind changes
merged_at_cut name ms before value behind v changes cut later =
    let found : member_named name ms ≡ value = ap (member_named name) cut.parts ∙ named_fronts name before (with_first name value behind) cut.smaller ∙ named_first name value behind cut.greater in
    let w : Json = merge (unwrap_or value null) v in
    ap (λ (o : Option Json). merged_members (changed_members name v (merge (unwrap_or o null) v) ms) changes) found
    ∙ ap (λ (xs : List Field). merged_members (changed_members name v w xs) changes) cut.parts
    ∙ ap (λ (xs : List Field). merged_members xs changes) (changed_fronts name v w before (with_first name value behind) cut.smaller ∙ ap (λ (xs : List Field). before ++ xs) (changed_first name v w value behind cut.greater))
    ∙ merged_fronts before (added_members name v w ++ behind) name changes cut.smaller later
    ∙ ap (λ (xs : List Field). before ++ xs) (merged_added name v w behind changes later)
    ∙ sym (append_assoc before (added_members name v w) (merged_members behind changes))

-- one member of the patch is done, and the others go on with what is after its name
pub merge_step : (out copied next rest before behind cs whole : List Field) (value : Option Json) (name : List ℕ) (v : Json) → IsCutAt name rest before value behind → IsBeforeAll name cs
    → copied ≡ out ++ before → next ≡ copied ++ added_members name v (merge (unwrap_or value null) v) → out ++ merged_members rest (member name v (members_of cs)) ≡ whole → next ++ merged_members behind (members_of cs) ≡ whole
merge_step out copied next rest before behind cs whole value name v cut later copied_is next_is is =
    let add : List Field = added_members name v (merge (unwrap_or value null) v) in
    let after : List Field = merged_members behind (members_of cs) in
    ap (λ (xs : List Field). xs ++ after) (next_is ∙ ap (λ (xs : List Field). xs ++ add) copied_is ∙ append_assoc out before add)
    ∙ append_assoc out (before ++ add) after
    ∙ ap (λ (xs : List Field). out ++ xs) (sym (merged_at_cut name rest before value behind v (members_of cs) cut (before_changes name cs later)))
    ∙ is

-- ---- merging keeps the order of names

before_without : (name other : List ℕ) (ms : List Field) → IsBeforeAll name ms → IsBeforeAll name (without_member other ms)
before_without name other [] before = tt
before_without name other (m ∷ ms) before = elim (compares other m.0) [
  | less is test ↦ rw test (before.0, before_without name other ms before.1)
  | equal is same test ↦ rw test (before_without name other ms before.1)
  | greater is behind test ↦ rw test (before.0, before_without name other ms before.1)
]

without_ordered : (name : List ℕ) (ms : List Field) → AreOrdered ms → AreOrdered (without_member name ms)
without_ordered name [] ordered = tt
without_ordered name (m ∷ ms) ordered =
    let rest = without_ordered name ms (rest_ordered m ms ordered) in
    let kept = ordered_with m (without_member name ms) (before_without m.0 name ms (before_others m ms ordered)) rest in
    elim (compares name m.0) [
      | less is test ↦ rw test kept
      | equal is same test ↦ rw test rest
      | greater is behind test ↦ rw test kept
    ]

before_with : (first name : List ℕ) (w : Json) (ms : List Field) → IsBefore first name → IsBeforeAll first ms → IsBeforeAll first (with_member name w ms)
before_with first name w [] before others = (before, tt)
before_with first name w (m ∷ ms) before others = elim (compares name m.0) [
  | less is test ↦ rw is (before, others)
  | equal is same test ↦ rw is (before, others.1)
  | greater is behind test ↦ rw is (others.0, before_with first name w ms before others.1)
]

with_ordered : (name : List ℕ) (w : Json) (ms : List Field) → AreOrdered ms → AreOrdered (with_member name w ms)
with_ordered name w [] ordered = tt
with_ordered name w (m ∷ ms) ordered =
    let others = before_others m ms ordered in
    let rest = rest_ordered m ms ordered in
    elim (compares name m.0) [
      | less is test ↦ rw is (is, ordered)
      | equal is same test ↦ rw is (ordered_with (name, w) ms (subst (λ (n : List ℕ). IsBeforeAll n ms) (sym same) others) rest)
      | greater is behind test ↦ rw is (ordered_with m (with_member name w ms) (before_with m.0 name w ms behind others) (with_ordered name w ms rest))
    ]

changed_ordered : (name : List ℕ) (v w : Json) (ms : List Field) → AreOrdered ms → AreOrdered (changed_members name v w ms)
changed_ordered name null w ms ordered = without_ordered name ms ordered
changed_ordered name (boolean b) w ms ordered = with_ordered name w ms ordered
changed_ordered name (integer z) w ms ordered = with_ordered name w ms ordered
changed_ordered name (string s) w ms ordered = with_ordered name w ms ordered
changed_ordered name (array es) w ms ordered = with_ordered name w ms ordered
changed_ordered name (object os) w ms ordered = with_ordered name w ms ordered

pub merged_ordered : (ms : List Field) (changes : Members) → AreOrdered ms → AreOrdered (merged_members ms changes)
merged_ordered ms no_members ordered = ordered
merged_ordered ms (member n v changes) ordered =
    merged_ordered (changed_members n v (merge (unwrap_or (member_named n ms) null) v) ms) changes (changed_ordered n v (merge (unwrap_or (member_named n ms) null) v) ms ordered)
