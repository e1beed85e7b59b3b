-- The effect of the patch of generated forms on a description.
use Rattle.std.proofs.Common.{◌≡◌, ℕ, List, [], ◌∷◌, ◌++◌, Option, Some, None, Bool, false, if◌then◌else◌, codes, unwrap_or, refl, sym, ap, subst, ◌∙◌, append-nil, append_assoc}
use Rattle.std.specs.Str.{bytes_eq}
use Rattle.wot_json.specs.Tree.{Json, null, object, array, Members, member, members_of, elements_of, AreOrdered}
use Rattle.wot_json.specs.Lookup.{member_list, member_named, value_under}
use Rattle.wot_json.specs.Cutting.{IsBefore, IsBeforeAll}
use Rattle.wot_json.specs.Merge.{with_member, merge, merged_members, patched_member}
use Rattle.wot_json.proofs.EqualTrees.{listed_members_lem}
use Rattle.wot_json.proofs.MemberOrder.{rest_ordered, before_others, ordered_with}
use Rattle.wot_json.proofs.MergeLaws.{PrecedesChanges, before_changes, merged_front, itself}
use Rattle.wot_json.proofs.MergeMembers.{named_merged}
use Rattle.wot_terms.specs.declared.kind.Kind.{Kind}
use Rattle.wot_terms.specs.declared.kind.Kind.TheVariants as kind
use Rattle.wot_terms.specs.Faults.{holder}
use Rattle.wot_forms.specs.declared.bases.Bases.{Bases}
use Rattle.wot_forms.specs.Generated.{generated_forms, generated_root_forms, with_forms, each_with_forms, with_affordances, with_root_forms, generated}
use Rattle.wot_forms.specs.FormsPatch.{forms_alone, affordance_patch, affordances_patch, holder_patch, root_patch, forms_patch, IsOrderedWithin}

abbrev Field : Type 0
Field = List ℕ × Json

-- ---- one affordance

-- an object that is patched with forms alone
merged_object : (name : List ℕ) (os : Members) (forms : List Json) (ms rest : List Field) → PrecedesChanges name (members_of rest)
    → merged_members ((name, object os) ∷ ms) (member name (forms_alone forms) (members_of rest)) ≡ (name, with_forms forms (object os)) ∷ merged_members ms (members_of rest)
merged_object name os forms ms rest before =
    let all : List Field = (name, object os) ∷ ms in
    let changed : Json = with_forms forms (object os) in
    let found : member_named name all ≡ Some (object os) = rw (itself name).1 in
    let placed : with_member name changed all ≡ (name, changed) ∷ ms = rw (itself name).0 in
    ap (λ (o : Option Json). merged_members (with_member name (merge (unwrap_or o null) (forms_alone forms)) all) (members_of rest)) found
    ∙ ap (λ (xs : List Field). merged_members xs (members_of rest)) placed
    ∙ merged_front (name, changed) ms (members_of rest) before

module _ (bases : Bases) (segment : List ℕ) (k : Kind) where
  merged_affordance : (name : List ℕ) (v : Json) (ms rest : List Field) → PrecedesChanges name (members_of rest)
      → merged_members ((name, v) ∷ ms) (members_of (affordance_patch bases segment k name v ++ rest)) ≡ (name, with_forms (generated_forms bases segment k name v) v) ∷ merged_members ms (members_of rest)
  merged_affordance name (object os) ms rest before = merged_object name os (generated_forms bases segment k name (object os)) ms rest before
  merged_affordance name v ms rest before = merged_front (name, v) ms (members_of rest) before

  before_one : (first name : List ℕ) (v : Json) (rest : List Field) → IsBefore first name → IsBeforeAll first rest → IsBeforeAll first (affordance_patch bases segment k name v ++ rest)
  before_one first name (object os) rest before others = (before, others)
  before_one first name v rest before others = others

  ordered_one : (name : List ℕ) (v : Json) (rest : List Field) → IsBeforeAll name rest → AreOrdered rest → AreOrdered (affordance_patch bases segment k name v ++ rest)
  ordered_one name (object os) rest before ordered = ordered_with (name, forms_alone (generated_forms bases segment k name (object os))) rest before ordered
  ordered_one name v rest before ordered = ordered

  -- ---- the affordances of a kind

  before_affordances : (first : List ℕ) (ms : List Field) → IsBeforeAll first ms → IsBeforeAll first (affordances_patch bases segment k ms)
  before_affordances first [] before = tt
  before_affordances first (m ∷ ms) before = before_one first m.0 m.1 (affordances_patch bases segment k ms) before.0 (before_affordances first ms before.1)

  pub ordered_affordances : (ms : List Field) → AreOrdered ms → AreOrdered (affordances_patch bases segment k ms)
  ordered_affordances [] ordered = tt
  ordered_affordances (m ∷ ms) ordered =
      ordered_one m.0 m.1 (affordances_patch bases segment k ms) (before_affordances m.0 ms (before_others m ms ordered)) (ordered_affordances ms (rest_ordered m ms ordered))

  merged_affordances : (ms : List Field) → AreOrdered ms → merged_members ms (members_of (affordances_patch bases segment k ms)) ≡ each_with_forms bases segment k ms
  merged_affordances [] ordered = refl
  merged_affordances (m ∷ ms) ordered =
      let rest : List Field = affordances_patch bases segment k ms in
      merged_affordance m.0 m.1 ms rest (before_changes m.0 rest (before_affordances m.0 ms (before_others m ms ordered)))
      ∙ ap (λ (xs : List Field). (m.0, with_forms (generated_forms bases segment k m.0 m.1) m.1) ∷ xs) (merged_affordances ms (rest_ordered m ms ordered))

  -- ---- one kind

  merged_holder : (held : Option Json) (ms rest : List Field) → member_named (holder k) ms ≡ held → IsOrderedWithin held
      → merged_members ms (members_of (holder_patch bases segment k held ++ rest)) ≡ merged_members (with_affordances bases segment k held ms) (members_of rest)
  merged_holder (Some (object os)) ms rest here ordered =
      let patch : Json = object (members_of (affordances_patch bases segment k (member_list os))) in
      ap (λ (w : Json). merged_members (with_member (holder k) w ms) (members_of rest))
      (ap (λ (o : Option Json). merge (unwrap_or o null) patch) here ∙ ap (λ (xs : List Field). object (members_of xs)) (merged_affordances (member_list os) ordered))
  merged_holder (Some v) ms rest here ordered = refl
  merged_holder None ms rest here ordered = refl

  -- the member of another name
  named_beside : (name : List ℕ) (held : Option Json) (ms : List Field) → bytes_eq name (holder k) ≡ false → member_named (holder k) ms ≡ held → IsOrderedWithin held
      → member_named name (with_affordances bases segment k held ms) ≡ member_named name ms
  named_beside name (Some (object os)) ms differ here ordered =
      let patch : Members = members_of (holder_patch bases segment k (Some (object os)) ++ []) in
      ap (member_named name) (sym (merged_holder (Some (object os)) ms [] here ordered))
      ∙ named_merged name ms patch tt
      ∙ ap (λ (t : Bool). patched_member (member_named name ms) (if t then Some (object (members_of (affordances_patch bases segment k (member_list os)))) else None)) differ
  named_beside name (Some v) ms differ here ordered = refl
  named_beside name None ms differ here ordered = refl

  before_holder : (first : List ℕ) (held : Option Json) (rest : List Field) → IsBefore first (holder k) → IsBeforeAll first rest → IsBeforeAll first (holder_patch bases segment k held ++ rest)
  before_holder first (Some (object os)) rest before others = (before, others)
  before_holder first (Some v) rest before others = others
  before_holder first None rest before others = others

  ordered_holder : (held : Option Json) (rest : List Field) → IsBeforeAll (holder k) rest → AreOrdered rest → AreOrdered (holder_patch bases segment k held ++ rest)
  ordered_holder (Some (object os)) rest before ordered = ordered_with (holder k, object (members_of (affordances_patch bases segment k (member_list os)))) rest before ordered
  ordered_holder (Some v) rest before ordered = ordered
  ordered_holder None rest before ordered = ordered

-- ---- the whole

merged_root : (bases : Bases) (segment : List ℕ) (held : Option Json) (ms rest : List Field)
    → merged_members ms (members_of ((codes "forms", root_patch bases segment held) ∷ rest)) ≡ merged_members (with_root_forms bases segment held ms) (members_of rest)
merged_root bases segment (Some (object os)) ms rest = refl
merged_root bases segment (Some v) ms rest = refl
merged_root bases segment None ms rest = refl

properties_beside : (bases : Bases) (segment : List ℕ) (held : Option Json) (ms : List Field)
    → member_named (holder kind.Property) (with_root_forms bases segment held ms) ≡ member_named (holder kind.Property) ms
properties_beside bases segment held ms =
    ap (member_named (holder kind.Property)) (sym (merged_root bases segment held ms []))
    ∙ named_merged (holder kind.Property) ms (members_of ((codes "forms", root_patch bases segment held) ∷ [])) tt

module _ (bases : Bases) (segment : List ℕ) (ms : Members) where
  abbrev held : Kind → Option Json
  held k = value_under (holder k) ms

  abbrev part_patch : Kind → List Field
  part_patch k = holder_patch bases segment k (held k)

  abbrev root : Field
  root = (codes "forms", root_patch bases segment (held kind.Property))

  -- the members of the patch are in order
  pub patch_ordered : AreOrdered (forms_patch bases segment ms)
  patch_ordered =
      let last = before_holder bases segment kind.Property (codes "forms") (held kind.Property) [] refl tt in
      let properties = ordered_holder bases segment kind.Property (held kind.Property) [] tt tt in
      let whole : AreOrdered (part_patch kind.Action ++ (part_patch kind.Event ++ (root ∷ (part_patch kind.Property ++ [])))) =
      let all_last = before_holder bases segment kind.Property (holder kind.Event) (held kind.Property) [] refl tt in
      let first_last = before_holder bases segment kind.Property (holder kind.Action) (held kind.Property) [] refl tt in
      let from_root = ordered_with root (part_patch kind.Property ++ []) last properties in
      let from_events = ordered_holder bases segment kind.Event (held kind.Event) (root ∷ (part_patch kind.Property ++ [])) (refl, all_last) from_root in
      ordered_holder bases segment kind.Action (held kind.Action) (part_patch kind.Event ++ (root ∷ (part_patch kind.Property ++ [])))
      (before_holder bases segment kind.Event (holder kind.Action) (held kind.Event) (root ∷ (part_patch kind.Property ++ [])) refl (refl, first_last)) from_events in
      subst (λ (xs : List Field). AreOrdered (part_patch kind.Action ++ (part_patch kind.Event ++ (root ∷ xs)))) (append-nil (part_patch kind.Property)) whole

  -- a description that is patched has its forms generated
  pub patched : IsOrderedWithin (held kind.Action) → IsOrderedWithin (held kind.Event) → IsOrderedWithin (held kind.Property)
      → merge (object ms) (object (members_of (forms_patch bases segment ms))) ≡ generated (object ms) bases segment
  patched actions events properties =
      let from : List Field = member_list ms in
      let after_actions : List Field = with_affordances bases segment kind.Action (held kind.Action) from in
      let after_events : List Field = with_affordances bases segment kind.Event (held kind.Event) after_actions in
      let after_root : List Field = with_root_forms bases segment (held kind.Property) after_events in
      let events_there = named_beside bases segment kind.Action (holder kind.Event) (held kind.Action) from refl refl actions in
      let properties_there = properties_beside bases segment (held kind.Property) after_events
      ∙ named_beside bases segment kind.Event (holder kind.Property) (held kind.Event) after_actions refl events_there events
      ∙ named_beside bases segment kind.Action (holder kind.Property) (held kind.Action) from refl refl actions in
      let last : merged_members after_root (members_of (part_patch kind.Property)) ≡ with_affordances bases segment kind.Property (held kind.Property) after_root =
      ap (λ (xs : List Field). merged_members after_root (members_of xs)) (sym (append-nil (part_patch kind.Property)))
      ∙ merged_holder bases segment kind.Property (held kind.Property) after_root [] properties_there properties in
      ap (λ (xs : List Field). object (members_of xs))
      (merged_holder bases segment kind.Action (held kind.Action) from (part_patch kind.Event ++ (root ∷ part_patch kind.Property)) refl actions
      ∙ merged_holder bases segment kind.Event (held kind.Event) after_actions (root ∷ part_patch kind.Property) events_there events
      ∙ merged_root bases segment (held kind.Property) after_events (part_patch kind.Property)
      ∙ last)

  -- the patch as it is put together, part by part
  pub gathered : (none first second third whole : List Field) (actions events properties : Option Json) (forms : Json) → none ≡ []
      → first ≡ none ++ holder_patch bases segment kind.Action actions → second ≡ first ++ holder_patch bases segment kind.Event events
      → third ≡ second ++ (codes "forms", forms) ∷ [] → whole ≡ third ++ holder_patch bases segment kind.Property properties
      → actions ≡ held kind.Action → events ≡ held kind.Event → properties ≡ held kind.Property → forms ≡ root_patch bases segment properties
      → whole ≡ forms_patch bases segment ms
  gathered none first second third whole actions events properties forms none_is first_is second_is third_is whole_is actions_are events_are properties_are forms_are =
      let a : List Field = holder_patch bases segment kind.Action actions in
      let e : List Field = holder_patch bases segment kind.Event events in
      let f : List Field = (codes "forms", forms) ∷ [] in
      let p : List Field = holder_patch bases segment kind.Property properties in
      whole_is
      ∙ ap (λ (xs : List Field). xs ++ p) (third_is ∙ ap (λ (xs : List Field). xs ++ f) (second_is ∙ ap (λ (xs : List Field). xs ++ e) (first_is ∙ ap (λ (xs : List Field). xs ++ a) none_is)))
      ∙ append_assoc (a ++ e) f p
      ∙ append_assoc a e (f ++ p)
      ∙ (λ i. holder_patch bases segment kind.Action (actions_are i) ++ (holder_patch bases segment kind.Event (events_are i) ++ ((codes "forms", forms_are i) ∷ p)))
      ∙ ap (λ (o : Option Json). part_patch kind.Action ++ (part_patch kind.Event ++ ((codes "forms", root_patch bases segment o) ∷ holder_patch bases segment kind.Property o))) properties_are

-- ---- what an object has

pub holder_patch_of : (bases : Bases) (segment : List ℕ) (k : Kind) (ms : List Field)
    → holder_patch bases segment k (Some (object (members_of ms))) ≡ (holder k, object (members_of (affordances_patch bases segment k ms))) ∷ []
holder_patch_of bases segment k ms =
    ap (λ (xs : List Field). (holder k, object (members_of (affordances_patch bases segment k xs))) ∷ []) (listed_members_lem ms)

pub root_patch_of : (bases : Bases) (segment : List ℕ) (ms : List Field)
    → root_patch bases segment (Some (object (members_of ms))) ≡ array (elements_of (generated_root_forms bases segment ms))
root_patch_of bases segment ms = ap (λ (xs : List Field). array (elements_of (generated_root_forms bases segment xs))) (listed_members_lem ms)

pub ordered_within : (ms : List Field) → AreOrdered ms → IsOrderedWithin (Some (object (members_of ms)))
ordered_within ms ordered = subst AreOrdered (sym (listed_members_lem ms)) ordered
