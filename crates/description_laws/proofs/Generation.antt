-- The members of a description once its forms are generated.
use Rattle.std.proofs.Common.{◌≡◌, ℕ, List, false, Option, Some, None, refl, ap, ◌∙◌}
use Rattle.std.specs.Prelude.{codes}
use Rattle.std.specs.Str.{bytes_eq}
use Rattle.wot_json.specs.Tree.{Json, null, boolean, integer, string, array, object, Members, elements_of, members_of}
use Rattle.wot_json.specs.Lookup.{member_named, member_list, value_under}
use Rattle.wot_json.proofs.EqualTrees.{listed_members_lem}
use Rattle.wot_terms.specs.declared.kind.Kind.{Kind}
use Rattle.wot_terms.specs.declared.kind.Kind.TheVariants as kind
use Rattle.wot_terms.specs.Faults.{holder}
use Rattle.wot_terms.specs.Affordances.{part}
use Rattle.wot_forms.specs.declared.bases.Bases.{Bases}
use Rattle.wot_forms.specs.Generated.{generated_root_forms, each_with_forms, with_affordances, with_root_forms, generated}
use Rattle.description_laws.proofs.Members.{Field, named_with, named_with_other, named_without, named_without_other}

-- what a description has of a kind once each affordance has its forms
abbrev pub held_with_forms : Bases → List ℕ → Kind → Option Json → Option Json → Option Json
held_with_forms bases segment k (Some (object os)) other = Some (object (members_of (each_with_forms bases segment k (member_list os))))
held_with_forms bases segment k (Some null) other = other
held_with_forms bases segment k (Some (boolean b)) other = other
held_with_forms bases segment k (Some (integer z)) other = other
held_with_forms bases segment k (Some (string s)) other = other
held_with_forms bases segment k (Some (array es)) other = other
held_with_forms bases segment k None other = other

own_affordances : (bases : Bases) (segment : List ℕ) (k : Kind) (o : Option Json) (ms : List Field)
    → member_named (holder k) (with_affordances bases segment k o ms) ≡ held_with_forms bases segment k o (member_named (holder k) ms)
own_affordances bases segment k (Some (object os)) ms = named_with (holder k) (object (members_of (each_with_forms bases segment k (member_list os)))) ms
own_affordances bases segment k (Some null) ms = refl
own_affordances bases segment k (Some (boolean b)) ms = refl
own_affordances bases segment k (Some (integer z)) ms = refl
own_affordances bases segment k (Some (string s)) ms = refl
own_affordances bases segment k (Some (array es)) ms = refl
own_affordances bases segment k None ms = refl

other_affordances : (bases : Bases) (segment : List ℕ) (k : Kind) (name : List ℕ) (o : Option Json) (ms : List Field) → bytes_eq name (holder k) ≡ false
    → member_named name (with_affordances bases segment k o ms) ≡ member_named name ms
other_affordances bases segment k name (Some (object os)) ms differ = named_with_other name (holder k) (object (members_of (each_with_forms bases segment k (member_list os)))) ms differ
other_affordances bases segment k name (Some null) ms differ = refl
other_affordances bases segment k name (Some (boolean b)) ms differ = refl
other_affordances bases segment k name (Some (integer z)) ms differ = refl
other_affordances bases segment k name (Some (string s)) ms differ = refl
other_affordances bases segment k name (Some (array es)) ms differ = refl
other_affordances bases segment k name None ms differ = refl

-- the forms of the whole, where the properties are an object
abbrev pub root_forms_held : Bases → List ℕ → Option Json → Option Json
root_forms_held bases segment (Some (object os)) = Some (array (elements_of (generated_root_forms bases segment (member_list os))))
root_forms_held bases segment (Some null) = None
root_forms_held bases segment (Some (boolean b)) = None
root_forms_held bases segment (Some (integer z)) = None
root_forms_held bases segment (Some (string s)) = None
root_forms_held bases segment (Some (array es)) = None
root_forms_held bases segment None = None

own_root_forms : (bases : Bases) (segment : List ℕ) (o : Option Json) (ms : List Field)
    → member_named (codes "forms") (with_root_forms bases segment o ms) ≡ root_forms_held bases segment o
own_root_forms bases segment (Some (object os)) ms = named_with (codes "forms") (array (elements_of (generated_root_forms bases segment (member_list os)))) ms
own_root_forms bases segment (Some null) ms = named_without (codes "forms") ms
own_root_forms bases segment (Some (boolean b)) ms = named_without (codes "forms") ms
own_root_forms bases segment (Some (integer z)) ms = named_without (codes "forms") ms
own_root_forms bases segment (Some (string s)) ms = named_without (codes "forms") ms
own_root_forms bases segment (Some (array es)) ms = named_without (codes "forms") ms
own_root_forms bases segment None ms = named_without (codes "forms") ms

other_root_forms : (bases : Bases) (segment name : List ℕ) (o : Option Json) (ms : List Field) → bytes_eq name (codes "forms") ≡ false
    → member_named name (with_root_forms bases segment o ms) ≡ member_named name ms
other_root_forms bases segment name (Some (object os)) ms differ = named_with_other name (codes "forms") (array (elements_of (generated_root_forms bases segment (member_list os)))) ms differ
other_root_forms bases segment name (Some null) ms differ = named_without_other name (codes "forms") ms differ
other_root_forms bases segment name (Some (boolean b)) ms differ = named_without_other name (codes "forms") ms differ
other_root_forms bases segment name (Some (integer z)) ms differ = named_without_other name (codes "forms") ms differ
other_root_forms bases segment name (Some (string s)) ms differ = named_without_other name (codes "forms") ms differ
other_root_forms bases segment name (Some (array es)) ms differ = named_without_other name (codes "forms") ms differ
other_root_forms bases segment name None ms differ = named_without_other name (codes "forms") ms differ

-- ---- the whole description

-- A value of a description as it was, with its own forms where it has affordances.
abbrev pub held_after : Bases → List ℕ → Kind → Option Json → Option Json
held_after bases segment k o = held_with_forms bases segment k o o

module _ (bases : Bases) (segment : List ℕ) (ms : Members) where
  abbrev with_actions : List Field
  with_actions = with_affordances bases segment kind.Action (value_under (holder kind.Action) ms) (member_list ms)

  abbrev with_events : List Field
  with_events = with_affordances bases segment kind.Event (value_under (holder kind.Event) ms) with_actions

  abbrev with_roots : List Field
  with_roots = with_root_forms bases segment (value_under (holder kind.Property) ms) with_events

  abbrev with_all : List Field
  with_all = with_affordances bases segment kind.Property (value_under (holder kind.Property) ms) with_roots

  in_list : (name : List ℕ) → part name (generated (object ms) bases segment) ≡ member_named name with_all
  in_list name = ap (member_named name) (listed_members_lem with_all)

  pub held_is : (k : Kind) → part (holder k) (generated (object ms) bases segment) ≡ held_after bases segment k (value_under (holder k) ms)
  held_is kind.Property =
      in_list (holder kind.Property) ∙ own_affordances bases segment kind.Property (value_under (holder kind.Property) ms) with_roots
      ∙ ap (held_with_forms bases segment kind.Property (value_under (holder kind.Property) ms))
      (other_root_forms bases segment (holder kind.Property) (value_under (holder kind.Property) ms) with_events refl
      ∙ other_affordances bases segment kind.Event (holder kind.Property) (value_under (holder kind.Event) ms) with_actions refl
      ∙ other_affordances bases segment kind.Action (holder kind.Property) (value_under (holder kind.Action) ms) (member_list ms) refl)
  held_is kind.Event =
      in_list (holder kind.Event) ∙ other_affordances bases segment kind.Property (holder kind.Event) (value_under (holder kind.Property) ms) with_roots refl
      ∙ other_root_forms bases segment (holder kind.Event) (value_under (holder kind.Property) ms) with_events refl
      ∙ own_affordances bases segment kind.Event (value_under (holder kind.Event) ms) with_actions
      ∙ ap (held_with_forms bases segment kind.Event (value_under (holder kind.Event) ms))
      (other_affordances bases segment kind.Action (holder kind.Event) (value_under (holder kind.Action) ms) (member_list ms) refl)
  held_is kind.Action =
      in_list (holder kind.Action) ∙ other_affordances bases segment kind.Property (holder kind.Action) (value_under (holder kind.Property) ms) with_roots refl
      ∙ other_root_forms bases segment (holder kind.Action) (value_under (holder kind.Property) ms) with_events refl
      ∙ other_affordances bases segment kind.Event (holder kind.Action) (value_under (holder kind.Event) ms) with_actions refl
      ∙ own_affordances bases segment kind.Action (value_under (holder kind.Action) ms) (member_list ms)

  pub root_forms_are : part (codes "forms") (generated (object ms) bases segment) ≡ root_forms_held bases segment (value_under (holder kind.Property) ms)
  root_forms_are =
      in_list (codes "forms") ∙ other_affordances bases segment kind.Property (codes "forms") (value_under (holder kind.Property) ms) with_roots refl
      ∙ own_root_forms bases segment (value_under (holder kind.Property) ms) with_events
