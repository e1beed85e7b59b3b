-- A value that a servient lets out is taken by a consumer, by the same description (TD 1.1, sections 5.3.1.3 and 5.3.1.4).
use Rattle.std.specs.Prelude.{◌≡◌, ◌≤◌, ℕ, List, true, Option, Some, None, IfSome, Ok}
use Rattle.std.specs.List.{AllByRecursion}
use Rattle.wot_json.specs.declared.reading.TheConstants.{MAX_DEPTH}
use Rattle.wot_json.specs.Json.{text_of}
use Rattle.wot_json.specs.Lookup.{member_list}
use Rattle.wot_json.specs.Reading.{tree_of}
use Rattle.wot_json.specs.Tree.{Json, object, Members, nesting}
use Rattle.wot_json.specs.WellFormed.{IsWellFormed}
use Rattle.wot_terms.specs.declared.kind.Kind.{Kind}
use Rattle.wot_terms.specs.declared.kind.Kind.TheVariants as kind
use Rattle.wot_terms.specs.declared.op.Op.{Op}
use Rattle.wot_forms.specs.declared.frame.Frame.{Frame}
use Rattle.wot_forms.specs.Segments.{is_plain_segment}
use Rattle.tm_parts.specs.Library.{Models}
use Rattle.tm_parts.specs.Substitution.{Values}
use Rattle.tm_derive.specs.Given.{Choice}
use Rattle.tm_derive.specs.Derivation.{Things, derived}
use Rattle.thing_site.specs.Site.{ExposedThing, Slots, site_of, affordance_named}
use Rattle.thing_state.specs.Calls.{IsTaken}
use Rattle.wot_consumer.specs.Judgement.{AcceptsOutput}
use Rattle.wot_consumer.specs.Operations.{is_consumed, kind_of}

-- a value that a device gave for the affordance of this kind and name is taken from it
abbrev pub IsTakenOf : ExposedThing → Kind → List ℕ → Json → Type 0
IsTakenOf thing k name value = IfSome (affordance_named k name thing.affordances) (λ p. IsTaken p.affordance.output value)

-- the value of an operation of an affordance, or an object of values of properties
abbrev pub IsLetOutBy : ExposedThing → Option Kind → List ℕ → Json → Type 0
IsLetOutBy thing (Some k) name value = IsTakenOf thing k name value
IsLetOutBy thing None name value = (ms : Members) × (value ≡ object ms) × AllByRecursion (λ (m : List ℕ × Json). IsTakenOf thing kind.Property m.0 m.1) (member_list ms)

-- Each value that a Thing lets out is accepted by its description, and its text is read as the value: it nests at most 64
-- deep.
abbrev pub TakesOutputs : ExposedThing → Type 0
TakesOutputs thing =
    (o : Op) (name : List ℕ) (value : Json) → is_consumed o ≡ true → IsLetOutBy thing (kind_of o) name value → IsWellFormed value → nesting value ≤ MAX_DEPTH
    → AcceptsOutput thing.description o name (Some value) × (tree_of (text_of value) ≡ Some value)

-- The Things of every derivation, with whatever slots: the segment of the root is of the bytes that a plan's name may have.
abbrev pub OutputsAreTaken : Type 0
OutputsAreTaken =
    (models : Models) (values : Values) (choices : List Choice) (frame : Frame) (root : List ℕ) (things : Things) (slots : Slots) (left_out : ℕ)
    → derived models values choices frame root ≡ Ok things → is_plain_segment frame.segment ≡ true → AllByRecursion TakesOutputs (site_of left_out slots things).things
