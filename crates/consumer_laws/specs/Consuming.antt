-- An operation over HTTP on a derived Thing, over a network that brings what is sent: the act that is made of it, and what
-- is printed (TD 1.1, section 5.3.4.2).
use Rattle.std.specs.Prelude.{◌≡◌, ◌≢◌, ◌⊎◌, ◌≤◌, ◌<◌, ◌^◌, ℕ, List, [], ◌∷◌, ◌++◌, length, codes, Bool, true, false, Option, Some, option_map, IfSome, Ok}
use Rattle.std.specs.List.{AllByRecursion}
use Rattle.wot_json.specs.Json.{text_of}
use Rattle.wot_json.specs.Meaning.{json_of}
use Rattle.wot_json.specs.Tree.{Json}
use Rattle.wot_json.specs.WellFormed.{IsWellFormed}
use Rattle.wot_forms.specs.declared.bases.Bases.{Bases}
use Rattle.wot_forms.specs.declared.frame.Frame.{Frame}
use Rattle.wot_forms.specs.declared.scheme.Scheme.{Scheme}
use Rattle.wot_forms.specs.declared.scheme.Scheme.TheVariants as scheme
use Rattle.wot_forms.specs.Segments.{is_plain_segment}
use Rattle.tm_parts.specs.Library.{Models}
use Rattle.tm_parts.specs.Substitution.{Values}
use Rattle.tm_derive.specs.Given.{Choice}
use Rattle.tm_derive.specs.Derivation.{Things, derived}
use Rattle.thing_ops.specs.declared.outcome.Outcome.{Outcome}
use Rattle.thing_ops.specs.Outcomes.{answer_of, payload_of, version_of}
use Rattle.thing_ops.specs.Requests.{RequestSeen}
use Rattle.thing_site.specs.Site.{ExposedThing, Site, Slots, site_of}
use Rattle.http_fields.specs.Bodies.{longest_reply}
use Rattle.http_bind.specs.Cutting.{HasTaken}
use Rattle.http_bind.specs.Replying.{reply}
use Rattle.http_bind.specs.Streams.{Connection}
use Rattle.servient_outside.specs.Network.{Happening, heard, did, broke}
use Rattle.wot_consumer.specs.declared.chosen.Chosen.{Chosen}
use Rattle.wot_consumer.specs.Choice.{IsChosen, wanted}
use Rattle.wot_consumer.specs.Messages.{request_bytes}
use Rattle.wot_consumer.specs.Operations.{is_consumed}
use Rattle.network_consumer.specs.declared.consumed.Consumed.{Consumed}
use Rattle.network_consumer.specs.declared.consumed.Consumed.TheVariants.{Done, Unprinted}
use Rattle.network_consumer.specs.declared.consumed.Status.TheVariants as status
use Rattle.network_consumer.specs.declared.operation.ThingOperation.{ThingOperation}
use Rattle.network_consumer.specs.Answers.{is_success}
use Rattle.network_consumer.specs.Consuming.{Consumes, input_of}
use Rattle.network_consumer.specs.Deeds.{Deed, happened_in, printed, text_in}
use Rattle.network_consumer.specs.HttpWaiting.{bytes_on}
use Rattle.description_laws.specs.Encoding.{AreBytes}
use Rattle.consumer_laws.specs.Asking.{request_for, CanBeSent}
use Rattle.consumer_laws.specs.Choosing.{IsItsAct, AreAsWritten}
use Rattle.consumer_laws.specs.Replying.{AreReadBack}

-- ---- what is printed of a reply

-- the bytes that were heard on a connection
abbrev pub heard_on : ℕ → List Happening → List ℕ
heard_on k [] = []
heard_on k (heard e ∷ happened) = bytes_on k e.event.what e.bytes ++ heard_on k happened
heard_on k (did act ∷ happened) = heard_on k happened
heard_on k (broke call ∷ happened) = heard_on k happened

-- a connection brings no bytes but these, in their order; some may be missing at the end
abbrev pub BringsOnly : List Deed → List ℕ → Type 0
BringsOnly deeds written = (k : ℕ) → (missing : List ℕ) × (heard_on k (happened_in deeds) ++ missing ≡ written)

-- An operation ends as done only where all these bytes were heard, the status is a success, and the payload was printed and
-- nothing else. However else it ends, nothing was printed, unless the output failed.
pub record PrintsItAlone (written : List ℕ) (number : ℕ) (payload : List ℕ) (deeds : List Deed) (r : Consumed) : Type 0 where
  pub heard : r ≡ Done → (k : ℕ) × (heard_on k (happened_in deeds) ≡ written)
  pub success : r ≡ Done → is_success (status.Http number) ≡ true
  pub printed_it : r ≡ Done → text_in deeds ≡ text_in (printed payload)
  pub undone : r ≢ Done → r ≢ Unprinted → text_in deeds ≡ []

-- A consumer asks over HTTP, and the bytes that come are those of one reply, in any pieces, whole or not: it prints the
-- payload of that reply or nothing.
abbrev pub RepliesAreWhatIsPrinted : Type 0
RepliesAreWhatIsPrinted =
    (o : ThingOperation) (c : Chosen) (deeds : List Deed) (r : Consumed) (written payload : List ℕ) (number : ℕ)
    → c.scheme ≡ scheme.Http → Consumes o c deeds r → AreReadBack written number payload → BringsOnly deeds written
    → PrintsItAlone written number payload deeds r

-- ---- both ends

-- The passing on a connection: the request comes in any pieces, whole or not; of the reply to its outcome a part is heard
-- in any pieces, whole or not, and nothing before the request was taken. The reply has at most 65,536 bytes.
pub record IsBetween (c : Chosen) (input : Option (List ℕ)) (outcome : Outcome) (taken : List RequestSeen) (deeds : List Deed) : Type 0 where
  pub servient : Connection
  pub has : HasTaken servient taken
  pub lost : List ℕ
  pub comes : servient.stream ++ lost ≡ request_bytes c input
  pub closes : Bool
  pub written : List ℕ
  pub answers : reply false closes outcome ≡ Some written
  pub version : IfSome (version_of outcome) (λ v. v < 2 ^ 32)
  pub fits : length written ≤ longest_reply
  pub brings : BringsOnly deeds written
  pub later : taken ≡ [] → (k : ℕ) → heard_on k (happened_in deeds) ≡ []

-- The operation is asked for by its act. A servient takes just that request or none, and takes it where the operation ends
-- as done; then its outcome is a success, and the payload of that is printed and nothing else. However else it ends, nothing is printed, unless the output
-- failed.
pub record DoesItOnce (site : Site) (thing : ExposedThing) (o : ThingOperation) (c : Chosen) (input : Option (List ℕ)) (outcome : Outcome) (taken : List RequestSeen) (deeds : List Deed) (r : Consumed) : Type 0 where
  pub its_act : IsItsAct site thing o.op o.name.now c
  pub at_most_once : (taken ≡ []) ⊎ (taken ≡ request_for c input ∷ [])
  pub once : r ≡ Done → taken ≡ request_for c input ∷ []
  pub success : r ≡ Done → IfSome (answer_of outcome).status (λ n. is_success (status.Http n) ≡ true)
  pub printed_it : r ≡ Done → text_in deeds ≡ text_in (printed (payload_of outcome))
  pub undone : r ≢ Done → r ≢ Unprinted → text_in deeds ≡ []

-- An operation over HTTP by the description of a Thing, and the value that it hands in.
abbrev pub DoesWhatIsDescribed : Bases → Site → ExposedThing → Type 0
DoesWhatIsDescribed bases site thing =
    (o : ThingOperation) (only : Option Scheme) (c : Chosen) (outcome : Outcome) (taken : List RequestSeen) (deeds : List Deed) (r : Consumed)
    → json_of o.tree.now ≡ thing.description → is_consumed o.op ≡ true → AreBytes o.name.now
    → IsChosen thing.description (wanted o.op only) o.name.now c → c.scheme ≡ scheme.Http
    → AreAsWritten bases thing.description o.op o.name.now → CanBeSent c (option_map text_of (input_of o))
    → Consumes o c deeds r → IsBetween c (option_map text_of (input_of o)) outcome taken deeds
    → DoesItOnce site thing o c (option_map text_of (input_of o)) outcome taken deeds r

-- The Things of every derivation, with whatever slots, as in `RequestsAreWhatWasChosen`.
abbrev pub ConsumingDoesWhatIsDescribed : Type 0
ConsumingDoesWhatIsDescribed =
    (models : Models) (values : Values) (choices : List Choice) (frame : Frame) (root : List ℕ) (things : Things) (slots : Slots) (left_out : ℕ)
    → derived models values choices frame root ≡ Ok things
    → is_plain_segment frame.segment ≡ true → frame.segment ≢ [] → frame.segment ≢ codes "things" → AllByRecursion (λ (t : List ℕ × Json). IsWellFormed t.1) things
    → AllByRecursion (DoesWhatIsDescribed frame.bases (site_of left_out slots things)) (site_of left_out slots things).things
