-- A description accepts each value that its Thing lets out.
use Rattle.std.proofs.Common.{◌≡◌, ℕ, true, List, Option, Some, None, Ok, refl, sym, subst}
use Rattle.std.specs.Prelude.{codes, IfSome, option_and_then}
use Rattle.std.specs.List.{AllByRecursion}
use Rattle.wot_json.specs.Lookup.{member_list, value_under}
use Rattle.wot_json.specs.Tree.{Json, null, boolean, integer, string, array, object, Members, no_members, member}
use Rattle.wot_json.proofs.ReadsBack.{tree_of-text_of}
use Rattle.wot_schema.specs.Acceptance.{Accepts}
use Rattle.wot_terms.specs.declared.kind.Kind.{Kind}
use Rattle.wot_terms.specs.declared.kind.Kind.TheVariants as kind
use Rattle.wot_terms.specs.declared.op.Op.{Op}
use Rattle.wot_terms.specs.declared.op.Op.TheVariants as op
use Rattle.wot_terms.specs.Affordances.{part, output_of}
use Rattle.wot_terms.specs.Faults.{holder}
use Rattle.wot_forms.specs.declared.bases.Bases.{Bases}
use Rattle.wot_forms.specs.Generated.{generated}
use Rattle.wot_forms.specs.Segments.{is_plain_segment}
use Rattle.tm_derive.proofs.NoFaults.{AreGood, derived_good}
use Rattle.thing_site.specs.Site.{Placed, ExposedThing, Site, Slots, exposed, site_of}
use Rattle.thing_state.specs.Calls.{IsTaken}
use Rattle.wot_consumer.specs.Judgement.{affordance_named as described, AreProperties, AcceptsOutput}
use Rattle.wot_consumer.specs.Operations.{is_consumed, kind_of}
use Rattle.description_laws.proofs.Leading.{over_things}
use Rattle.description_laws.proofs.Members.{each_of, both_of}
use Rattle.description_laws.proofs.OneThing.{members_for, found as affordance_found}
use Rattle.description_laws.proofs.Things.{IsGenerated, things_made}
use Rattle.consumer_laws.specs.Outputs.{IsTakenOf, IsLetOutBy, TakesOutputs, OutputsAreTaken}

-- ---- by the schema that the description has

abbrev Schema : (k : Kind) (name : List ℕ) (t value : Json) → Type 0
Schema k name t value = IfSome (described k name t) (λ v. IfSome (output_of k v) (λ s. Accepts s value))

through : (f : Json → Option Json) (P : Json → Type 0) (o : Option Json) → IfSome o (λ v. IfSome (f v) P) → IfSome (option_and_then f o) P
through f P None all = tt
through f P (Some v) all = all

module _ (thing : ExposedThing) (t : Json) (accepted : (k : Kind) (name : List ℕ) (value : Json) → IsTakenOf thing k name value → Schema k name t value) where
  are_properties : (ms : Members) → AllByRecursion (λ (m : List ℕ × Json). IsTakenOf thing kind.Property m.0 m.1) (member_list ms) → AreProperties t ms
  are_properties no_members all = tt
  are_properties (member name value ms) all = (accepted kind.Property name value all.0, are_properties ms all.1)

  takes : (o : Op) (name : List ℕ) (value : Json) → is_consumed o ≡ true → IsLetOutBy thing (kind_of o) name value → AcceptsOutput t o name (Some value)
  takes op.ReadProperty name value consumed out = accepted kind.Property name value out
  takes op.ObserveProperty name value consumed out = accepted kind.Property name value out
  takes op.WriteProperty name value consumed out = tt
  takes op.InvokeAction name value consumed out = through (part (codes "output")) (λ s. Accepts s value) (described kind.Action name t) (accepted kind.Action name value out)
  takes op.ReadAllProperties name value consumed (ms, is, all) = subst (λ (v : Json). AcceptsOutput t op.ReadAllProperties name (Some v)) (sym is) (are_properties ms all)
  takes op.UnobserveProperty name value consumed out = absurd cc
  takes op.QueryAction name value consumed out = absurd cc
  takes op.CancelAction name value consumed out = absurd cc
  takes op.SubscribeEvent name value consumed out = absurd cc
  takes op.UnsubscribeEvent name value consumed out = absurd cc
  takes op.WriteAllProperties name value consumed out = absurd cc
  takes op.ReadMultipleProperties name value consumed out = absurd cc
  takes op.WriteMultipleProperties name value consumed out = absurd cc
  takes op.ObserveAllProperties name value consumed out = absurd cc
  takes op.UnobserveAllProperties name value consumed out = absurd cc
  takes op.SubscribeAllEvents name value consumed out = absurd cc
  takes op.UnsubscribeAllEvents name value consumed out = absurd cc
  takes op.QueryAllActions name value consumed out = absurd cc

-- ---- a Thing

found_under : (name : List ℕ) (v : Json) (o : Option Json) → option_and_then (part name) o ≡ Some v → value_under name (members_for o) ≡ Some v
found_under name v None is = absurd cc
found_under name v (Some (object ms)) is = is
found_under name v (Some null) is = absurd cc
found_under name v (Some (boolean b)) is = absurd cc
found_under name v (Some (integer z)) is = absurd cc
found_under name v (Some (string s)) is = absurd cc
found_under name v (Some (array es)) is = absurd cc

module _ (bases : Bases) (site : Site) (segment : List ℕ) (plain : is_plain_segment segment ≡ true) (slots : Slots) where
  accepted : (ms : Members) (k : Kind) (name : List ℕ) (value : Json) → IsTakenOf (exposed slots (segment, generated (object ms) bases segment)) k name value
      → Schema k name (generated (object ms) bases segment) value
  accepted ms k name value taken = by (described k name (generated (object ms) bases segment)) refl
    where
      by : (o : Option Json) → described k name (generated (object ms) bases segment) ≡ o → IfSome o (λ v. IfSome (output_of k v) (λ s. Accepts s value))
      by None is = tt
      by (Some v) is =
          (subst (λ (p : Option Placed). IfSome p (λ q. IsTaken q.affordance.output value))
          (affordance_found bases site segment plain slots ms k name v (found_under name v (part (holder k) (generated (object ms) bases segment)) is)) taken).0

  outputs : (value : Json) → TakesOutputs (exposed slots (segment, generated value bases segment))
  outputs t o name value consumed out well shallow = (by t out, tree_of-text_of value well shallow)
    where
      by : (v : Json) → IsLetOutBy (exposed slots (segment, generated v bases segment)) (kind_of o) name value → AcceptsOutput (generated v bases segment) o name (Some value)
      by (object ms) is = takes (exposed slots (segment, generated (object ms) bases segment)) (generated (object ms) bases segment) (accepted ms) o name value consumed is
      by null is = takes (exposed slots (segment, null)) null (λ k n w taken. tt) o name value consumed is
      by (boolean b) is = takes (exposed slots (segment, boolean b)) (boolean b) (λ k n w taken. tt) o name value consumed is
      by (integer z) is = takes (exposed slots (segment, integer z)) (integer z) (λ k n w taken. tt) o name value consumed is
      by (string s) is = takes (exposed slots (segment, string s)) (string s) (λ k n w taken. tt) o name value consumed is
      by (array es) is = takes (exposed slots (segment, array es)) (array es) (λ k n w taken. tt) o name value consumed is

abbrev Thing : Type 0
Thing = List ℕ × Json

one : (bases : Bases) (root : List ℕ) (site : Site) (slots : Slots) (t : Thing) → IsGenerated bases root t × (is_plain_segment t.0 ≡ true) → TakesOutputs (exposed slots t)
one bases root site slots t known =
    subst (λ (x : Json). TakesOutputs (exposed slots (t.0, x))) (sym known.0.is) (outputs bases site t.0 known.1 slots known.0.value)

pub taken : OutputsAreTaken
taken models values choices frame root things slots left_out is plain =
    let good : AreGood frame.segment things = derived_good models values choices frame root (Ok things) is in
    over_things slots TakesOutputs things
    (each_of (λ (t : Thing). IsGenerated frame.bases frame.segment t × (is_plain_segment t.0 ≡ true)) (λ (t : Thing). TakesOutputs (exposed slots t))
    (one frame.bases frame.segment (site_of left_out slots things) slots) things
    (both_of (IsGenerated frame.bases frame.segment) (λ (t : Thing). is_plain_segment t.0 ≡ true) things (things_made models values choices frame root things is) (good.plain plain)))
