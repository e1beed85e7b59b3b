-- The inputs of a request to an act, and the reasons for which it is refused in every state.
use Rattle.std.specs.Prelude.{◌≡◌, ◌<◌, ◌⊎◌, ℕ, List, [], ◌∷◌, ◌++◌, length, Bool, true, false, ◌||◌, IfSome, Option, Some, None, option_map, option_and_then, if◌then◌else◌}
use Rattle.wot_json.specs.Tree.{Json, object, Members, no_members, member}
use Rattle.wot_json.specs.Json.{text_of}
use Rattle.wot_json.specs.Reading.{tree_of}
use Rattle.wot_schema.specs.Acceptance.{Accepts}
use Rattle.wot_terms.specs.declared.kind.Kind.TheVariants as kind
use Rattle.thing_ops.specs.declared.request.Accept.{Accept}
use Rattle.thing_ops.specs.declared.request.Format.{Format}
use Rattle.thing_ops.specs.declared.request.Format.TheVariants as format
use Rattle.thing_ops.specs.declared.outcome.Outcome.{Outcome}
use Rattle.thing_ops.specs.declared.outcome.Outcome.TheVariants as outcome
use Rattle.thing_ops.specs.Requests.{RequestSeen}
use Rattle.thing_site.specs.declared.formats.AnswerFormat.{AnswerFormat}
use Rattle.thing_site.specs.declared.formats.AnswerFormat.TheVariants as sent
use Rattle.thing_site.specs.declared.formats.BodyFormat.{BodyFormat}
use Rattle.thing_site.specs.declared.formats.BodyFormat.TheVariants as taken
use Rattle.thing_site.specs.Site.{Placed, ExposedThing, affordance_named}
use Rattle.thing_site.specs.declared.place.ThingAct.{ThingAct}
use Rattle.thing_site.specs.declared.place.ThingAct.TheVariants as act

-- ---- what is handed in

-- the most bytes that the text of a value may have that is handed in or comes back
abbrev pub longest_value : ℕ
longest_value = 1024

-- a value of a request, and the affordance that it is for
pub record Input : Type 0 where
  pub affordance : Placed
  pub value : Json

abbrev pub only_input : Placed → Json → List Input
only_input p value = record { affordance = p; value = value } ∷ []

-- the property that a member of a body writes: one of the Thing's that isn't read-only
abbrev pub unless_read_only : Placed → Option Placed
unless_read_only p = if p.affordance.read_only then None else Some p

abbrev pub written_property : ExposedThing → List ℕ → Option Placed
written_property thing name = option_and_then unless_read_only (affordance_named kind.Property name thing.affordances)

-- the values that the members of an object hand in, where each is for such a property
abbrev pub member_inputs : ExposedThing → Members → Option (List Input)
member_inputs thing no_members = Some []
member_inputs thing (member name value ms) =
    option_and_then (λ p. option_map (λ inputs. only_input p value ++ inputs) (member_inputs thing ms)) (written_property thing name)

abbrev pub object_inputs : ExposedThing → Json → Option (List Input)
object_inputs thing (object ms) = member_inputs thing ms
object_inputs thing value = None

-- no body is taken
abbrev pub no_inputs : List ℕ → Option (List Input)
no_inputs [] = Some []
no_inputs (byte ∷ body) = None

-- an action takes a body exactly where it has an input schema (TD 1.1, section 5.3.1.4)
abbrev pub invoke_inputs : Placed → Option Json → List ℕ → Option (List Input)
invoke_inputs p None body = no_inputs body
invoke_inputs p (Some schema) body = option_map (only_input p) (tree_of body)

-- The inputs that a body hands in to an act; None: the act takes a body and has none that can be read, or the other way
-- round.
abbrev pub inputs_of : ThingAct → List ℕ → Option (List Input)
inputs_of (act.Describes thing) body = no_inputs body
inputs_of (act.ReadsAll thing) body = no_inputs body
inputs_of (act.WritesMany thing) body = option_and_then (object_inputs thing) (tree_of body)
inputs_of (act.Reads p) body = no_inputs body
inputs_of (act.Writes p) body = option_map (only_input p) (tree_of body)
inputs_of (act.Invokes p) body = invoke_inputs p p.affordance.input body
inputs_of (act.Queries p id) body = no_inputs body
inputs_of (act.Cancels p id) body = no_inputs body
inputs_of (act.ReadsEvent p) body = no_inputs body
inputs_of (act.Waits p) body = no_inputs body

-- ---- what an act asks of a request

-- the formats of its answer: a description as either format, a value as JSON; other acts send no such thing
abbrev pub answer_format : ThingAct → AnswerFormat
answer_format (act.Describes thing) = sent.Description
answer_format (act.ReadsAll thing) = sent.Json
answer_format (act.Reads p) = sent.Json
answer_format (act.Invokes p) = sent.Json
answer_format (act.Queries p id) = sent.Json
answer_format (act.ReadsEvent p) = sent.Json
answer_format (act.Waits p) = sent.Json
answer_format (act.WritesMany thing) = sent.Any
answer_format (act.Writes p) = sent.Any
answer_format (act.Cancels p id) = sent.Any

-- the formats of its body: for a description also those of descriptions
abbrev pub body_format : ThingAct → BodyFormat
body_format (act.Describes thing) = taken.Description
body_format act = taken.Json

-- a sender takes what an answer can be sent as
abbrev pub is_acceptable : AnswerFormat → Accept → Bool
is_acceptable sent.Any accept = true
is_acceptable sent.Json accept = accept.json
is_acceptable sent.Description accept = accept.json || accept.td

-- a body in this format is taken: JSON, which is also what a body is that names none, and the body's own
abbrev pub is_taken_format : BodyFormat → Format → Bool
is_taken_format b format.Absent = true
is_taken_format b format.Json = true
is_taken_format taken.Description format.Td = true
is_taken_format taken.Patch format.Patch = true
is_taken_format b f = false

abbrev pub IsEmptyBody : List ℕ → Type 0
IsEmptyBody bytes = bytes ≡ []

abbrev pub HasOtherFormat : BodyFormat → RequestSeen → Type 0
HasOtherFormat b q = (¬ (IsEmptyBody q.body)) × (is_taken_format b q.format ≡ false)

-- The demands of an act on a request, be it of a Thing or of what else there is (the directory): the formats of its
-- answer, those of its body, and the inputs that a body hands in to handlers; None: the body isn't as it should be.
pub record Demands : Type 0 where
  pub answer : AnswerFormat
  pub body : BodyFormat
  pub inputs : List ℕ → Option (List Input)

-- the table of the acts of Things
abbrev pub demands_of : ThingAct → Demands
demands_of act = record { answer = answer_format act; body = body_format act; inputs = inputs_of act }

-- some input is so
abbrev pub SomeInput : (Input → Type 0) → List Input → Type 0
SomeInput P [] = ⊥
SomeInput P (input ∷ inputs) = P input ⊎ SomeInput P inputs

-- the text of its value is longer than is taken
abbrev pub IsLong : Input → Type 0
IsLong input = longest_value < length (text_of input.value)

-- the schema of what is handed in there accepts it; what has no schema is accepted
abbrev pub IsAccepted : Option Json → Json → Type 0
IsAccepted schema value = IfSome schema (λ s. Accepts s value)

abbrev pub IsRefusedBySchema : Input → Type 0
IsRefusedBySchema input = ¬ (IsAccepted input.affordance.affordance.input input.value)

-- ---- the refusals

-- the kinds of refusals
pub data Refusal : Type 0 where
  nothing_there verb_not_taken answer_not_acceptable format_not_taken body_not_as_wanted value_too_large refused_by_schema condition_failed no_invocation_left : Refusal

-- Those of an act that is there for which no state counts, in the order in which they are judged. They are apart from
-- the two before an act is there, because code that judges an act says what it finds of that act alone.
abbrev pub refusals_by_request : List Refusal
refusals_by_request = answer_not_acceptable ∷ format_not_taken ∷ body_not_as_wanted ∷ value_too_large ∷ refused_by_schema ∷ []

-- there is one, and this holds of it
abbrev pub Holding : {A : Type 0} → (A → Type 0) → Option A → Type 0
Holding P None = ⊥
Holding P (Some a) = P a

-- each of them holds of a request for this, in every state
abbrev pub StandsBy : Refusal → Demands → RequestSeen → Type 0
-- the sender takes no format that the answer has
StandsBy answer_not_acceptable d q = is_acceptable d.answer q.accept ≡ false
-- it has a body in a format that isn't taken there
StandsBy format_not_taken d q = HasOtherFormat d.body q
-- its body is missing, unwanted, can't be read, or isn't an object of properties that may be written
StandsBy body_not_as_wanted d q = d.inputs q.body ≡ None
-- a value is longer than is taken
StandsBy value_too_large d q = Holding (SomeInput IsLong) (d.inputs q.body)
-- a schema refuses a value
StandsBy refused_by_schema d q = Holding (SomeInput IsRefusedBySchema) (d.inputs q.body)
-- the others aren't judged by the request alone
StandsBy r d q = ⊥

-- the same of an act of Things
abbrev pub StandsByRequest : Refusal → ThingAct → RequestSeen → Type 0
StandsByRequest r act q = StandsBy r (demands_of act) q

-- the answer to each of those against an act
abbrev pub IsAnswer : Refusal → Outcome → Type 0
IsAnswer answer_not_acceptable o = o ≡ outcome.NotAcceptable
IsAnswer format_not_taken o = o ≡ outcome.Format
IsAnswer body_not_as_wanted o = o ≡ outcome.BadValue
IsAnswer value_too_large o = o ≡ outcome.TooLarge
IsAnswer refused_by_schema o = o ≡ outcome.BadValue
IsAnswer condition_failed o = o ≡ outcome.PreconditionFailed
IsAnswer no_invocation_left o = o ≡ outcome.InvocationsFull
IsAnswer r o = ⊥

-- the first of these that holds decides the outcome
abbrev pub IsFirst : (Refusal → Type 0) → (Refusal → Outcome → Type 0) → List Refusal → Outcome → Type 0
IsFirst S Answers [] o = ⊥
IsFirst S Answers (r ∷ rs) o = (S r × Answers r o) ⊎ ((¬ (S r)) × IsFirst S Answers rs o)

-- none of these holds
abbrev pub IsNone : (Refusal → Type 0) → List Refusal → Type 0
IsNone S [] = Unit {0}
IsNone S (r ∷ rs) = (¬ (S r)) × IsNone S rs
