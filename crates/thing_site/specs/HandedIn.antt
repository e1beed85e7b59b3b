-- The promises of judging a request, as far as no state counts.
use Rattle.std.specs.Prelude.{◌≡◌, ◌⊎◌, true, false, List, Option, Some, None, refl}
use Rattle.std.specs.Coded.{Coded, code_by, coded×}
use Rattle.wot_json.specs.Tree.{Json}
use Rattle.wot_json.specs.JsonCodes.{json_code}
use Rattle.thing_ops.specs.declared.outcome.Outcome.{Outcome}
use Rattle.thing_ops.specs.declared.outcome.Outcome.TheVariants as outcome
use Rattle.thing_ops.specs.Requests.{RequestSeen}
use Rattle.thing_site.specs.Site.{Placed}
use Rattle.thing_site.specs.SiteCodes.{placed_code}
use Rattle.thing_site.specs.declared.place.ThingAct.{ThingAct}
use Rattle.thing_site.specs.declared.formats.AnswerFormat.{AnswerFormat}
use Rattle.thing_site.specs.declared.formats.BodyFormat.{BodyFormat}
use Rattle.thing_site.specs.Refusals.{Input, inputs_of, is_acceptable, HasOtherFormat, SomeInput, IsLong, IsRefusedBySchema, refusals_by_request, StandsByRequest, IsAnswer, IsFirst, IsNone}

-- ---- formats

-- a request's formats are those that are asked for
abbrev pub AreFormatsTaken : AnswerFormat → BodyFormat → RequestSeen → Type 0
AreFormatsTaken answer body q = (is_acceptable answer q.accept ≡ true) × (¬ (HasOtherFormat body q))

-- they aren't: the answer's, or else the body's
abbrev pub AreFormatsRefused : AnswerFormat → BodyFormat → RequestSeen → Outcome → Type 0
AreFormatsRefused answer body q o =
    ((is_acceptable answer q.accept ≡ false) × (o ≡ outcome.NotAcceptable))
    ⊎ ((is_acceptable answer q.accept ≡ true) × HasOtherFormat body q × (o ≡ outcome.Format))

-- ---- what is handed in

-- a body isn't as it should be, or it is out of memory
abbrev pub HasNoInputs : Option (List Input) → Outcome → Type 0
HasNoInputs expected o = (o ≡ outcome.Memory) ⊎ ((expected ≡ None) × (o ≡ outcome.BadValue))

-- no value is too long, and none is refused by a schema
abbrev pub AreInputsTaken : List Input → Type 0
AreInputsTaken inputs = (¬ (SomeInput IsLong inputs)) × (¬ (SomeInput IsRefusedBySchema inputs))

-- some value is too long, or else some is refused by a schema
abbrev pub AreInputsRefused : List Input → Outcome → Type 0
AreInputsRefused inputs o =
    (SomeInput IsLong inputs × (o ≡ outcome.TooLarge))
    ⊎ ((¬ (SomeInput IsLong inputs)) × SomeInput IsRefusedBySchema inputs × (o ≡ outcome.BadValue))

-- a request hands this in to an act, and nothing that needs no state is against it
abbrev pub IsUnrefused : ThingAct → RequestSeen → List Input → Type 0
IsUnrefused act q inputs = (inputs_of act q.body ≡ Some inputs) × IsNone (λ r. StandsByRequest r act q) refusals_by_request

-- the first such refusal decides, or it is out of memory
abbrev pub IsRefusedByRequest : ThingAct → RequestSeen → Outcome → Type 0
IsRefusedByRequest act q o = (o ≡ outcome.Memory) ⊎ IsFirst (λ r. StandsByRequest r act q) IsAnswer refusals_by_request o

-- the code of an input, as the kit asks in an `impl Model`
abbrev pub input_code : Coded Input
input_code = code_by (Placed × Json) (coded× placed_code json_code) (λ i. (i.affordance, i.value)) (λ q. record { affordance = q.0; value = q.1 }) (λ _. refl)
