-- The code's findings at the front of the bytes that it holds, in the words of the streams.
use Rattle.std.specs.Prelude.{◌≡◌, ◌≤◌, ℕ, Bool, List, Some, None, IfSome, IsSome}
use Rattle.thing_ops.specs.Requests.{RequestSeen}
use Rattle.http_wire.specs.Stream.{PlainHead, Front, IsFront}
use Rattle.http_wire.specs.Reading.{asked, AreParts}
use Rattle.http_bind.specs.declared.looking.MessageStep.{MessageStep}
use Rattle.http_bind.specs.declared.looking.HeldFront.{HeldFront}
use Rattle.http_bind.specs.declared.looking.HeldFront.TheVariants as seen
use Rattle.http_bind.specs.Replying.{is_head, fault_word}
use Rattle.http_bind.specs.Streams.{asks, wants_continue, is_faulty, to_take, bytes_used, asks_to_close}

-- The most bytes of a query and a body.
abbrev pub room_size : ℕ
room_size = 24576

-- a step takes the message at a front, which asks for this
pub record IsStep (f : Front) (q : RequestSeen) (step : MessageStep) : Type 0 where
  pub used : step.used ≡ bytes_used f
  pub bodiless : step.owed.bodiless ≡ is_head q.verb
  pub closes : step.owed.closes ≡ asks_to_close f

-- the finding can be taken at this front
abbrev pub Fits : Bool → Front → HeldFront → List ℕ → Type 0
Fits continued f seen.Nothing room = to_take continued f ≡ None
Fits continued f seen.Interrupted room = ⊥
Fits continued f seen.Continue room = to_take continued f ≡ Some wants_continue
Fits continued f (seen.Fault status) room = (to_take continued f ≡ Some (is_faulty status)) × IsSome (fault_word status)
Fits continued f (seen.Message step parts) room =
    (q : RequestSeen) × (to_take continued f ≡ Some (asks q)) × IsStep f q step × IfSome parts (AreParts q room)

-- the finding can be taken at the front of these bytes
abbrev pub Shows : Bool → List ℕ → HeldFront → List ℕ → Type 0
Shows continued bytes what room = (f : Front) × IsFront bytes f × Fits continued f what room

-- a message that is taken has no more bytes than there are
abbrev pub IsWithin : ℕ → HeldFront → Type 0
IsWithin n seen.Nothing = Unit {0}
IsWithin n seen.Interrupted = Unit {0}
IsWithin n seen.Continue = Unit {0}
IsWithin n (seen.Fault status) = Unit {0}
IsWithin n (seen.Message step parts) = step.used ≤ n

-- a step takes a message with this head and n bytes, which asks for this
pub record IsMessageStep (h : PlainHead) (n : ℕ) (q : RequestSeen) (step : MessageStep) : Type 0 where
  pub used : step.used ≡ n
  pub bodiless : step.owed.bodiless ≡ is_head q.verb
  pub closes : step.owed.closes ≡ h.close

-- the finding is the reading of a whole message
abbrev pub ShowsMessage : PlainHead → List ℕ → ℕ → HeldFront → List ℕ → Type 0
ShowsMessage h body used seen.Nothing room = ⊥
ShowsMessage h body used seen.Interrupted room = ⊥
ShowsMessage h body used seen.Continue room = ⊥
ShowsMessage h body used (seen.Fault status) room = (asked h body ≡ None) × (status ≡ 400)
ShowsMessage h body used (seen.Message step parts) room =
    (q : RequestSeen) × (asked h body ≡ Some q) × IsMessageStep h used q step × IfSome parts (AreParts q room)
