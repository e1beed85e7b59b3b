-- A fact of all affordances of an act holds of those that it hands something in to.
use Rattle.std.proofs.Common.{◌≡◌, ℕ, List, [], ◌∷◌, ◌++◌, Bool, true, false, cond, refl, subst}
use Rattle.std.specs.Prelude.{Option, Some, None, option_map, option_and_then, ◌&&◌}
use Rattle.std.specs.List.{AllByRecursion}
use Rattle.std.specs.Str.{bytes_eq}
use Rattle.std.proofs.lemmas.Option.{same_Some}
use Rattle.wot_json.specs.Tree.{Json, object, Members, no_members, member}
use Rattle.wot_json.specs.Reading.{tree_of}
use Rattle.wot_terms.specs.declared.kind.Kind.{Kind}
use Rattle.wot_terms.specs.declared.kind.Kind.TheVariants as kind
use Rattle.thing_site.specs.Site.{Placed, ExposedThing, is_kind, affordance_named}
use Rattle.thing_site.specs.declared.place.ThingAct.{ThingAct}
use Rattle.thing_site.specs.declared.place.ThingAct.TheVariants.{Describes as describes, ReadsAll as reads_all, WritesMany as writes_many, Reads as reads, Writes as writes, Invokes as invokes, Queries as queries, Cancels as cancels, ReadsEvent as reads_event, Waits as waits}
use Rattle.thing_site.specs.Refusals.{Input, inputs_of, no_inputs, invoke_inputs, object_inputs, member_inputs, only_input, written_property, unless_read_only}
use Rattle.thing_core.specs.Performing.{affordances_of_act}

-- the result of a step after another came of something
pub came_of : {A B : Type 0} (f : A → Option B) (o : Option A) (b : B) → option_and_then f o ≡ Some b → (a : A) × (o ≡ Some a) × (f a ≡ Some b)
came_of f None b e = absurd cc
came_of f (Some a) b e = (a, refl, e)

pub made_of : {A B : Type 0} (f : A → B) (o : Option A) (b : B) → option_map f o ≡ Some b → (a : A) × (o ≡ Some a) × (f a ≡ b)
made_of f None b e = absurd cc
made_of f (Some a) b e = (a, refl, same_Some (f a) b e)

-- an affordance that is found is one of those that were looked through
pub named_has : (P : Placed → Type 0) (k : Kind) (name : List ℕ) (ps : List Placed) (p : Placed) → AllByRecursion P ps → affordance_named k name ps ≡ Some p → P p
named_has P k name [] p all e = absurd cc
named_has P k name (q ∷ ps) p all e = by_test (named_has P k name ps p all.1) (is_kind k q.affordance.kind && bytes_eq name q.affordance.name) e
  where
    by_test : (affordance_named k name ps ≡ Some p → P p) → (b : Bool) → cond b (Some q) (affordance_named k name ps) ≡ Some p → P p
    by_test further true is = subst (λ (x : Placed). P x) (same_Some q p is) all.0
    by_test further false is = further is

-- ---- inputs

abbrev pub InputsHave : (Placed → Type 0) → List Input → Type 0
InputsHave P inputs = AllByRecursion (λ i. P i.affordance) inputs

none_handed : (P : Placed → Type 0) (body : List ℕ) (inputs : List Input) → no_inputs body ≡ Some inputs → InputsHave P inputs
none_handed P [] inputs e = subst (λ (is : List Input). InputsHave P is) (same_Some [] inputs e) tt
none_handed P (b ∷ body) inputs e = absurd cc

one_handed : (P : Placed → Type 0) (p : Placed) (value : Option Json) (inputs : List Input) → P p → option_map (only_input p) value ≡ Some inputs → InputsHave P inputs
one_handed P p value inputs has e =
    let of = made_of (only_input p) value inputs e in subst (λ (is : List Input). InputsHave P is) of.2 (has, tt)

written_has : (P : Placed → Type 0) (thing : ExposedThing) (name : List ℕ) (p : Placed) → AllByRecursion P thing.affordances → written_property thing name ≡ Some p → P p
written_has P thing name p all e =
    let of = came_of unless_read_only (affordance_named kind.Property name thing.affordances) p e in
    by_test of.0 (named_has P kind.Property name thing.affordances of.0 all of.1) of.0.affordance.read_only of.2
  where
    by_test : (q : Placed) → P q → (b : Bool) → cond b None (Some q) ≡ Some p → P p
    by_test q has true is = absurd cc
    by_test q has false is = subst (λ (x : Placed). P x) (same_Some q p is) has

members_handed : (P : Placed → Type 0) (thing : ExposedThing) (ms : Members) (inputs : List Input) → AllByRecursion P thing.affordances → member_inputs thing ms ≡ Some inputs → InputsHave P inputs
members_handed P thing no_members inputs all e = subst (λ (is : List Input). InputsHave P is) (same_Some [] inputs e) tt
members_handed P thing (member name value ms) inputs all e =
    let of = came_of (λ (p : Placed). option_map (λ (is : List Input). only_input p value ++ is) (member_inputs thing ms)) (written_property thing name) inputs e in
    let rest = made_of (λ (is : List Input). only_input of.0 value ++ is) (member_inputs thing ms) inputs of.2 in
    subst (λ (is : List Input). InputsHave P is) rest.2 (written_has P thing name of.0 all of.1, members_handed P thing ms rest.0 all rest.1)

object_handed : (P : Placed → Type 0) (thing : ExposedThing) (value : Json) (inputs : List Input) → AllByRecursion P thing.affordances → object_inputs thing value ≡ Some inputs → InputsHave P inputs
object_handed P thing (object ms) inputs all e = members_handed P thing ms inputs all e
object_handed P thing value inputs all e = absurd cc

invoke_handed : (P : Placed → Type 0) (p : Placed) (schema : Option Json) (body : List ℕ) (inputs : List Input) → P p → invoke_inputs p schema body ≡ Some inputs → InputsHave P inputs
invoke_handed P p None body inputs has e = none_handed P body inputs e
invoke_handed P p (Some schema) body inputs has e = one_handed P p (tree_of body) inputs has e

pub handed_have : (P : Placed → Type 0) (act : ThingAct) (body : List ℕ) (inputs : List Input) → AllByRecursion P (affordances_of_act act) → inputs_of act body ≡ Some inputs → InputsHave P inputs
handed_have P (describes thing) body inputs all e = none_handed P body inputs e
handed_have P (reads_all thing) body inputs all e = none_handed P body inputs e
handed_have P (writes_many thing) body inputs all e =
    let of = came_of (object_inputs thing) (tree_of body) inputs e in object_handed P thing of.0 inputs all of.2
handed_have P (reads p) body inputs all e = none_handed P body inputs e
handed_have P (writes p) body inputs all e = one_handed P p (tree_of body) inputs all.0 e
handed_have P (invokes p) body inputs all e = invoke_handed P p p.affordance.input body inputs all.0 e
handed_have P (queries p id) body inputs all e = none_handed P body inputs e
handed_have P (cancels p id) body inputs all e = none_handed P body inputs e
handed_have P (reads_event p) body inputs all e = none_handed P body inputs e
handed_have P (waits p) body inputs all e = none_handed P body inputs e
