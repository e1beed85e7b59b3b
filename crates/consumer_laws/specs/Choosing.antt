-- A choice of a derived description for an operation, over HTTP, is the act of that operation (TD 1.1, sections
-- 5.3.4.2 and 8.3).
use Rattle.std.specs.Prelude.{◌≡◌, ◌≢◌, ℕ, List, [], ◌++◌, codes, true, Option, Some, None, option_and_then, unwrap_or, Ok}
use Rattle.std.specs.List.{AllByRecursion}
use Rattle.url.specs.Parts.{Parts}
use Rattle.servient_base.specs.Location.{joined_url}
use Rattle.wot_json.specs.Tree.{Json}
use Rattle.wot_json.specs.WellFormed.{IsWellFormed}
use Rattle.wot_terms.specs.declared.kind.Kind.{Kind}
use Rattle.wot_terms.specs.declared.op.Op.{Op}
use Rattle.wot_forms.specs.declared.bases.Bases.{Bases}
use Rattle.wot_forms.specs.declared.form.Form.{Form}
use Rattle.wot_forms.specs.declared.frame.Frame.{Frame}
use Rattle.wot_forms.specs.declared.scheme.Scheme.{Scheme}
use Rattle.wot_forms.specs.declared.scheme.Scheme.TheVariants as scheme
use Rattle.wot_forms.specs.Segments.{is_plain_segment}
use Rattle.tm_parts.specs.Library.{Models}
use Rattle.tm_parts.specs.Substitution.{Values}
use Rattle.tm_derive.specs.Given.{Choice}
use Rattle.tm_derive.specs.Derivation.{Things, derived}
use Rattle.thing_ops.specs.declared.verb.Verb.{Verb}
use Rattle.thing_site.specs.declared.place.ThingAct.{ThingAct}
use Rattle.thing_site.specs.Site.{ExposedThing, Site, Slots, site_of, affordance_named}
use Rattle.wot_consumer.specs.declared.chosen.Chosen.{Chosen}
use Rattle.wot_consumer.specs.Choice.{IsChosen, base_of, forms_for, wanted}
use Rattle.wot_consumer.specs.Messages.{request_bytes}
use Rattle.wot_consumer.specs.Operations.{is_consumed, kind_of}
use Rattle.description_laws.specs.Encoding.{AreBytes}
use Rattle.description_laws.specs.Leading.{IsTaken, asked_by_http, asked_of_thing}
use Rattle.consumer_laws.specs.Asking.{request_for, AreReadAs, CanBeSent}

-- ---- the act of an operation

-- the verb and the act by which an operation is asked for: of the affordance of this kind and name, or of the Thing
abbrev pub asked_from : ExposedThing → Op → Option Kind → List ℕ → Option (Verb × ThingAct)
asked_from thing o None name = asked_of_thing thing o
asked_from thing o (Some k) name = option_and_then (asked_by_http o) (affordance_named k name thing.affordances)

-- A choice is asked for by the verb of this operation, and at its path that verb is taken and is its act.
pub record IsItsAct (site : Site) (thing : ExposedThing) (o : Op) (name : List ℕ) (c : Chosen) : Type 0 where
  pub act : ThingAct
  pub asks : asked_from thing o (kind_of o) name ≡ Some (c.verb, act)
  pub taken : IsTaken site c.path c.verb act

-- ---- how hrefs are read

-- A URL that is read of an `href` is as that is written: what stands behind the base of a servient is its path; and over
-- CoAP its scheme isn't that of HTTP.
pub record IsAsWritten (bases : Bases) (href : List ℕ) (url : Parts) : Type 0 where
  pub http : (target : List ℕ) → href ≡ bases.http ++ target → url.path ≡ target
  pub coap : (target : List ℕ) → href ≡ bases.coap ++ target → url.scheme ≢ codes "http"

-- The forms among which there is a choice are so read. It is excepted that one isn't: as an affordance named `.` or `..`,
-- which no URL says.
abbrev pub AreAsWritten : Bases → Json → Op → List ℕ → Type 0
AreAsWritten bases t o name =
    AllByRecursion (λ (f : Form). (url : Parts) → joined_url (base_of t) f.href ≡ Ok url → IsAsWritten bases f.href url) (unwrap_or (forms_for t o name) [])

-- ---- the law

-- A choice over HTTP for an operation on a Thing: it is the act of that operation, and the bytes that ask for it are read
-- as just that, with what is handed in.
abbrev pub IsWhatWasChosen : Bases → Site → ExposedThing → Type 0
IsWhatWasChosen bases site thing =
    (o : Op) (only : Option Scheme) (name : List ℕ) (c : Chosen) (input : Option (List ℕ))
    → is_consumed o ≡ true → AreBytes name → IsChosen thing.description (wanted o only) name c → c.scheme ≡ scheme.Http
    → AreAsWritten bases thing.description o name → CanBeSent c input
    → IsItsAct site thing o name c × AreReadAs (request_bytes c input) (request_for c input)

-- The Things of every derivation, with whatever slots, as in `FormsLeadToTheirAffordances` of `description_laws`.
abbrev pub RequestsAreWhatWasChosen : Type 0
RequestsAreWhatWasChosen =
    (models : Models) (values : Values) (choices : List Choice) (frame : Frame) (root : List ℕ) (things : Things) (slots : Slots) (left_out : ℕ)
    → derived models values choices frame root ≡ Ok things
    → is_plain_segment frame.segment ≡ true → frame.segment ≢ [] → frame.segment ≢ codes "things" → AllByRecursion (λ (t : List ℕ × Json). IsWellFormed t.1) things
    → AllByRecursion (IsWhatWasChosen frame.bases (site_of left_out slots things)) (site_of left_out slots things).things
