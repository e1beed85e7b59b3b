-- A servient takes at the paths of its Things only acts that are in their descriptions, but for those that are listed here.
use Rattle.std.specs.Prelude.{◌≡◌, ◌≢◌, ◌⊎◌, ⊤, ℕ, List, [], ◌∷◌, slice_get, true, false, Option, Some, IfSome, codes, Ok}
use Rattle.std.specs.List.{AllByRecursion}
use Rattle.std.specs.Option.{option_map_or}
use Rattle.wot_json.specs.Merge.{members_under}
use Rattle.wot_json.specs.Tree.{Json}
use Rattle.wot_json.specs.WellFormed.{IsWellFormed}
use Rattle.wot_terms.specs.declared.kind.Kind.TheVariants as kind
use Rattle.wot_terms.specs.declared.op.Op.{Op}
use Rattle.wot_terms.specs.Affordances.{part}
use Rattle.wot_terms.specs.Faults.{holder}
use Rattle.wot_forms.specs.declared.bases.Bases.{Bases}
use Rattle.wot_forms.specs.declared.form.Form.{Form}
use Rattle.wot_forms.specs.declared.frame.Frame.{Frame}
use Rattle.wot_forms.specs.Forms.{forms_under}
use Rattle.wot_forms.specs.Generated.{is_coap_segment, some_without}
use Rattle.wot_forms.specs.Segments.{is_plain_segment}
use Rattle.tm_parts.specs.Library.{Models}
use Rattle.tm_parts.specs.Substitution.{Values}
use Rattle.tm_derive.specs.Given.{Choice}
use Rattle.tm_derive.specs.Derivation.{Things, derived}
use Rattle.thing_ops.specs.declared.verb.Verb.{Verb}
use Rattle.thing_ops.specs.declared.verb.Verb.TheVariants as verb
use Rattle.thing_ops.specs.Routes.{route_of}
use Rattle.thing_site.specs.declared.place.Resource.{Resource}
use Rattle.thing_site.specs.declared.place.ThingAct.{ThingAct}
use Rattle.thing_site.specs.declared.place.ThingAct.TheVariants as act
use Rattle.thing_site.specs.Places.{thing_in, place_at, act_at}
use Rattle.thing_site.specs.Site.{Placed, ExposedThing, Site, Slots, site_of}
use Rattle.description_laws.specs.Encoding.{AreBytes}
use Rattle.description_laws.specs.Leading.{Binding, Http, Coap, HasPath, base_by, asked_by, asked_of_thing, forms_for}

-- ---- a form that says it

-- one of a list has the property
abbrev pub Among : {A : Type 0} → (A → Type 0) → List A → Type 0
Among P [] = ⊥
Among P (x ∷ xs) = P x ⊎ Among P xs

-- the form leads to this path over the binding, and one of its operations is asked for by this verb and is this act
abbrev pub Says : Bases → Binding → (Op → Option (Verb × ThingAct)) → List (List ℕ) → Verb → ThingAct → Form → Type 0
Says bases b asked path v a f = HasPath (base_by b bases) b f.href path × Among (λ o. asked o ≡ Some (v, a)) f.ops

-- the description has such a form for an affordance, and for the Thing as a whole
abbrev pub IsSaidOf : Bases → Binding → ExposedThing → Placed → List (List ℕ) → Verb → ThingAct → Type 0
IsSaidOf bases b thing p path v a = Among (Says bases b (λ o. asked_by b o p) path v a) (forms_for thing p)

abbrev pub IsSaidOfAll : Bases → Binding → ExposedThing → List (List ℕ) → Verb → ThingAct → Type 0
IsSaidOfAll bases b thing path v a = Among (Says bases b (asked_of_thing thing) path v a) (forms_under [] thing.description)

-- ---- what has no form

-- HEAD, which is GET without the payload (RFC 9110, section 9.3.2)
abbrev pub IsHead : Verb → Type 0
IsHead v = v ≡ verb.Head

-- by CoAP an affordance whose name is longer than 255 bytes, `.` or `..`: no URL says it
abbrev pub IsUnsaid : Binding → Placed → Type 0
IsUnsaid b p = (b ≡ Coap) × (is_coap_segment p.affordance.name ≡ false)

-- the properties of a description, each with its name
abbrev pub properties_of : Json → List (List ℕ × Json)
properties_of v = option_map_or members_under (part (holder kind.Property) v) []

-- no property of the Thing can be read, or none be written
abbrev pub NoneIsRead : ExposedThing → Type 0
NoneIsRead thing = some_without (codes "writeOnly") (properties_of thing.description) ≡ false

abbrev pub NoneIsWritten : ExposedThing → Type 0
NoneIsWritten thing = some_without (codes "readOnly") (properties_of thing.description) ≡ false

-- An act that is taken at a path of a Thing has its form, or is one of these: HEAD; the last emission of an event by
-- HTTP; waiting by CoAP, which is answered as a path that is missing; names that no URL says by CoAP; asking for an
-- invocation and cancelling it, whose path is the reply's Location; reading all properties where none can be read, and
-- writing several where none can be written. The description itself is at its URL, which is no form.
abbrev pub IsTold : Bases → Binding → ExposedThing → List (List ℕ) → Verb → ThingAct → Type 0
IsTold bases b thing path v (act.Describes other) = ⊤
IsTold bases b thing path v (act.ReadsAll other) = IsHead v ⊎ (NoneIsRead thing ⊎ IsSaidOfAll bases b thing path v (act.ReadsAll other))
IsTold bases b thing path v (act.WritesMany other) = NoneIsWritten thing ⊎ IsSaidOfAll bases b thing path v (act.WritesMany other)
IsTold bases b thing path v (act.Reads p) = IsHead v ⊎ (IsUnsaid b p ⊎ IsSaidOf bases b thing p path v (act.Reads p))
IsTold bases b thing path v (act.Writes p) = IsUnsaid b p ⊎ IsSaidOf bases b thing p path v (act.Writes p)
IsTold bases b thing path v (act.Waits p) = (b ≡ Coap) ⊎ IsSaidOf bases b thing p path v (act.Waits p)
IsTold bases b thing path v (act.Invokes p) = IsUnsaid b p ⊎ IsSaidOf bases b thing p path v (act.Invokes p)
IsTold bases b thing path v (act.Queries p id) = ⊤
IsTold bases b thing path v (act.Cancels p id) = ⊤
IsTold bases b thing path v (act.ReadsEvent p) = IsHead v ⊎ ((b ≡ Http) ⊎ (IsUnsaid b p ⊎ IsSaidOf bases b thing p path v (act.ReadsEvent p)))

-- ---- the law

-- everything that is taken at paths of a Thing, whose third segments are of bytes, is told
abbrev pub TellsAll : Bases → Site → ExposedThing → Type 0
TellsAll bases site thing =
    (b : Binding) (path : List (List ℕ)) (place : Resource) (v : Verb) (a : ThingAct)
    → thing_in path site ≡ Some thing → IfSome (slice_get path 2) AreBytes
    → place_at (route_of path) path site ≡ Some place → act_at (route_of path) place v ≡ Some a → IsTold bases b thing path v a

abbrev pub ActsHaveTheirForm : Type 0
ActsHaveTheirForm =
    (models : Models) (values : Values) (choices : List Choice) (frame : Frame) (root : List ℕ) (things : Things) (slots : Slots) (left_out : ℕ)
    → derived models values choices frame root ≡ Ok things
    → is_plain_segment frame.segment ≡ true → frame.segment ≢ [] → frame.segment ≢ codes "things" → AllByRecursion (λ (t : List ℕ × Json). IsWellFormed t.1) things
    → AllByRecursion (TellsAll frame.bases (site_of left_out slots things)) (site_of left_out slots things).things
