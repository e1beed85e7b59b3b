-- Where the forms of a derived description lead: each to its own affordance, and each of its operations to its act
-- (TD 1.1, sections 5.3.4.2 and 8.3).
use Rattle.std.specs.Prelude.{◌≡◌, ◌≢◌, ◌⊎◌, ℕ, List, [], ◌++◌, drop, codes, true, Option, Some, None, IfSome, unwrap_or, Ok, if◌then◌else◌}
use Rattle.std.specs.List.{AllByRecursion}
use Rattle.wot_json.specs.Tree.{Json}
use Rattle.wot_json.specs.WellFormed.{IsWellFormed}
use Rattle.wot_terms.specs.declared.op.Op.{Op}
use Rattle.wot_terms.specs.declared.op.Op.TheVariants as op
use Rattle.wot_forms.specs.declared.bases.Bases.{Bases}
use Rattle.wot_forms.specs.declared.form.Form.{Form}
use Rattle.wot_forms.specs.declared.frame.Frame.{Frame}
use Rattle.wot_forms.specs.Forms.{forms_in, forms_under}
use Rattle.wot_forms.specs.Segments.{is_plain_segment}
use Rattle.tm_parts.specs.Library.{Models}
use Rattle.tm_parts.specs.Substitution.{Values}
use Rattle.tm_derive.specs.Given.{Choice}
use Rattle.tm_derive.specs.Finishing.{description_url}
use Rattle.tm_derive.specs.Derivation.{Things, derived}
use Rattle.thing_ops.specs.declared.verb.Verb.{Verb}
use Rattle.thing_ops.specs.declared.verb.Verb.TheVariants as verb
use Rattle.thing_ops.specs.Routes.{route_of}
use Rattle.thing_site.specs.declared.place.Resource.{Resource}
use Rattle.thing_site.specs.declared.place.ThingAct.{ThingAct}
use Rattle.thing_site.specs.declared.place.ThingAct.TheVariants as act
use Rattle.thing_site.specs.Places.{place_at, act_at, target_at}
use Rattle.thing_site.specs.Site.{Placed, ExposedThing, Site, Slots, site_of}
use Rattle.http_wire.specs.Targets.{segments_behind, segments_of}
use Rattle.description_laws.specs.Encoding.{AreBytes}

-- the bindings
pub data Binding : Type 0 where
  Http : Binding
  Coap : Binding

-- ---- paths

-- The path that a request says which is sent to a URL, by what the URL has behind its base: over HTTP that is the target
-- of the request (RFC 9112, section 3.2); over CoAP each segment goes into a Uri-Path option, its percent-encoding taken
-- away (RFC 7252, section 6.4).
abbrev pub path_said : Binding → List ℕ → Option (List (List ℕ))
path_said Http target = segments_of target
path_said Coap target = Some (segments_behind (drop 1 target))

-- a request to this URL has this path
pub record HasPath (base : List ℕ) (b : Binding) (url : List ℕ) (path : List (List ℕ)) : Type 0 where
  pub target : List ℕ
  pub behind : url ≡ base ++ target
  pub said : path_said b target ≡ Some path

-- the path leads to a place of the Things, where the verb is taken and is this act
pub record IsTaken (site : Site) (path : List (List ℕ)) (v : Verb) (a : ThingAct) : Type 0 where
  pub place : Resource
  pub there : place_at (route_of path) path site ≡ Some place
  pub taken : act_at (route_of path) place v ≡ Some a

-- ---- operations

-- A request for an operation of an affordance: its verb, and the act. Over HTTP none ends an observation: the observer
-- asks no more.
abbrev pub asked_by_http : Op → Placed → Option (Verb × ThingAct)
asked_by_http op.ReadProperty p = Some (verb.Get, act.Reads p)
asked_by_http op.WriteProperty p = Some (verb.Put, act.Writes p)
asked_by_http op.ObserveProperty p = Some (verb.Get, act.Waits p)
asked_by_http op.InvokeAction p = Some (verb.Post, act.Invokes p)
asked_by_http op.SubscribeEvent p = Some (verb.Get, act.Waits p)
asked_by_http op.UnobserveProperty p = None
asked_by_http op.QueryAction p = None
asked_by_http op.CancelAction p = None
asked_by_http op.UnsubscribeEvent p = None
asked_by_http op.ReadAllProperties p = None
asked_by_http op.WriteAllProperties p = None
asked_by_http op.ReadMultipleProperties p = None
asked_by_http op.WriteMultipleProperties p = None
asked_by_http op.ObserveAllProperties p = None
asked_by_http op.UnobserveAllProperties p = None
asked_by_http op.SubscribeAllEvents p = None
asked_by_http op.UnsubscribeAllEvents p = None
asked_by_http op.QueryAllActions p = None

-- Over CoAP observing begins and ends by a GET with the option Observe (RFC 7641, section 2), which a write-only property
-- doesn't take.
abbrev pub observed_by_coap : Placed → Option (Verb × ThingAct)
observed_by_coap p = if p.affordance.write_only then None else Some (verb.Get, act.Reads p)

abbrev pub asked_by_coap : Op → Placed → Option (Verb × ThingAct)
asked_by_coap op.ReadProperty p = Some (verb.Get, act.Reads p)
asked_by_coap op.WriteProperty p = Some (verb.Put, act.Writes p)
asked_by_coap op.ObserveProperty p = observed_by_coap p
asked_by_coap op.UnobserveProperty p = observed_by_coap p
asked_by_coap op.InvokeAction p = Some (verb.Post, act.Invokes p)
asked_by_coap op.SubscribeEvent p = Some (verb.Get, act.ReadsEvent p)
asked_by_coap op.UnsubscribeEvent p = Some (verb.Get, act.ReadsEvent p)
asked_by_coap op.QueryAction p = None
asked_by_coap op.CancelAction p = None
asked_by_coap op.ReadAllProperties p = None
asked_by_coap op.WriteAllProperties p = None
asked_by_coap op.ReadMultipleProperties p = None
asked_by_coap op.WriteMultipleProperties p = None
asked_by_coap op.ObserveAllProperties p = None
asked_by_coap op.UnobserveAllProperties p = None
asked_by_coap op.SubscribeAllEvents p = None
asked_by_coap op.UnsubscribeAllEvents p = None
asked_by_coap op.QueryAllActions p = None

abbrev pub asked_by : Binding → Op → Placed → Option (Verb × ThingAct)
asked_by Http o p = asked_by_http o p
asked_by Coap o p = asked_by_coap o p

-- the same for an operation of the Thing as a whole, by either binding
abbrev pub asked_of_thing : ExposedThing → Op → Option (Verb × ThingAct)
asked_of_thing thing op.ReadAllProperties = Some (verb.Get, act.ReadsAll thing)
asked_of_thing thing op.WriteMultipleProperties = Some (verb.Put, act.WritesMany thing)
asked_of_thing thing op.ReadProperty = None
asked_of_thing thing op.WriteProperty = None
asked_of_thing thing op.ObserveProperty = None
asked_of_thing thing op.UnobserveProperty = None
asked_of_thing thing op.InvokeAction = None
asked_of_thing thing op.QueryAction = None
asked_of_thing thing op.CancelAction = None
asked_of_thing thing op.SubscribeEvent = None
asked_of_thing thing op.UnsubscribeEvent = None
asked_of_thing thing op.WriteAllProperties = None
asked_of_thing thing op.ReadMultipleProperties = None
asked_of_thing thing op.ObserveAllProperties = None
asked_of_thing thing op.UnobserveAllProperties = None
asked_of_thing thing op.SubscribeAllEvents = None
asked_of_thing thing op.UnsubscribeAllEvents = None
asked_of_thing thing op.QueryAllActions = None

-- Over CoAP an operation that observes has a target: that of the affordance's slot, whose emissions the observer gets.
abbrev pub watched_by_coap : Op → Placed → Option ℕ
watched_by_coap op.ObserveProperty p = Some p.slot
watched_by_coap op.UnobserveProperty p = Some p.slot
watched_by_coap op.SubscribeEvent p = Some p.slot
watched_by_coap op.UnsubscribeEvent p = Some p.slot
watched_by_coap op.ReadProperty p = None
watched_by_coap op.WriteProperty p = None
watched_by_coap op.InvokeAction p = None
watched_by_coap op.QueryAction p = None
watched_by_coap op.CancelAction p = None
watched_by_coap op.ReadAllProperties p = None
watched_by_coap op.WriteAllProperties p = None
watched_by_coap op.ReadMultipleProperties p = None
watched_by_coap op.WriteMultipleProperties p = None
watched_by_coap op.ObserveAllProperties p = None
watched_by_coap op.UnobserveAllProperties p = None
watched_by_coap op.SubscribeAllEvents p = None
watched_by_coap op.UnsubscribeAllEvents p = None
watched_by_coap op.QueryAllActions p = None

abbrev pub watched_by : Binding → Op → Placed → Option ℕ
watched_by Http o p = None
watched_by Coap o p = watched_by_coap o p

-- ---- forms

-- the part before the path in its URLs
abbrev pub base_by : Binding → Bases → List ℕ
base_by Http bases = bases.http
base_by Coap bases = bases.coap

-- over this binding the URL leads to where each of these operations is asked for, and to the target that it watches
pub record Leads (bases : Bases) (site : Site) (asked : Op → Option (Verb × ThingAct)) (watched : Op → Option ℕ) (b : Binding) (url : List ℕ) (ops : List Op) : Type 0 where
  pub path : List (List ℕ)
  pub has : HasPath (base_by b bases) b url path
  pub each : AllByRecursion (λ o. IfSome (asked o) (λ (asks : Verb × ThingAct). IsTaken site path asks.0 asks.1)) ops
  pub targets : AllByRecursion (λ o. IfSome (watched o) (λ slot. target_at (place_at (route_of path) path site) ≡ Some slot)) ops

-- a form of an affordance is one over HTTP or one over CoAP, and leads there
abbrev pub FormLeads : Bases → Site → Placed → Form → Type 0
FormLeads bases site p f =
    Leads bases site (λ o. asked_by Http o p) (λ o. watched_by Http o p) Http f.href f.ops ⊎ Leads bases site (λ o. asked_by Coap o p) (λ o. watched_by Coap o p) Coap f.href f.ops

-- the same of a form of the Thing as a whole
abbrev pub RootFormLeads : Bases → Site → ExposedThing → Form → Type 0
RootFormLeads bases site thing f =
    Leads bases site (asked_of_thing thing) (λ o. None) Http f.href f.ops ⊎ Leads bases site (asked_of_thing thing) (λ o. None) Coap f.href f.ops

-- the forms that the description has for an affordance
abbrev pub forms_for : ExposedThing → Placed → List Form
forms_for thing p = unwrap_or (forms_in thing.description (Some p.affordance.kind) p.affordance.name) []

-- ---- a Thing, and all Things

-- all forms of an affordance, whose name may have any bytes, lead to it
abbrev pub AffordanceIsReached : Bases → Site → ExposedThing → Placed → Type 0
AffordanceIsReached bases site thing p = AreBytes p.affordance.name → AllByRecursion (FormLeads bases site p) (forms_for thing p)

-- All forms of a Thing lead where they say, and so does the URL of its description.
pub record IsReached (bases : Bases) (site : Site) (thing : ExposedThing) : Type 0 where
  pub affordances : AllByRecursion (AffordanceIsReached bases site thing) thing.affordances
  pub root : AllByRecursion (RootFormLeads bases site thing) (forms_under [] thing.description)
  pub path : List (List ℕ)
  pub url : HasPath bases.http Http (description_url bases thing.segment) path
  pub description : IsTaken site path verb.Get (act.Describes thing)

-- The Things of every derivation, with whatever slots: the segment of the root is of the bytes that a plan's name may have,
-- not empty and not `things`, as each plan's name; the descriptions are JSON values.
abbrev pub FormsLeadToTheirAffordances : Type 0
FormsLeadToTheirAffordances =
    (models : Models) (values : Values) (choices : List Choice) (frame : Frame) (root : List ℕ) (things : Things) (slots : Slots) (left_out : ℕ)
    → derived models values choices frame root ≡ Ok things
    → is_plain_segment frame.segment ≡ true → frame.segment ≢ [] → frame.segment ≢ codes "things" → AllByRecursion (λ (t : List ℕ × Json). IsWellFormed t.1) things
    → AllByRecursion (IsReached frame.bases (site_of left_out slots things)) (site_of left_out slots things).things
