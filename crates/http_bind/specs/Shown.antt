-- The finding at the front of one connection, and the connection that taking it leaves.
use Rattle.std.specs.Prelude.{◌≡◌, ◌≤◌, ◌+◌, ℕ, Bool, true, false, List, [], ◌∷◌, length, drop, Option, Some, None, is_some}
use Rattle.http_wire.specs.Heads.{skipped}
use Rattle.http_bind.specs.declared.looking.HeldFront.{HeldFront}
use Rattle.http_bind.specs.declared.looking.HeldFront.TheVariants as seen
use Rattle.http_bind.specs.declared.next.HttpNext.{HttpNext}
use Rattle.http_bind.specs.declared.next.HttpNext.TheVariants as next
use Rattle.thing_ops.specs.Requests.{RequestSeen, request_seen}
use Rattle.http_wire.specs.Reading.{request_in}
use Rattle.http_bind.specs.declared.owed.Owed.{Owed}
use Rattle.http_bind.specs.declared.waits.Wait.{Wait}
use Rattle.http_bind.specs.Looking.{Shows, IsWithin}
use Rattle.http_bind.specs.Streams.{other_waits}
use Rattle.http_bind.specs.Slots.{Held, Slots, place_at, with_place, held_at, with_held, without_wait_of, without_pairs, owed_in}

-- a message that was found has no more bytes than are held
abbrev pub MayPass : HeldFront → Option Held → Type 0
MayPass what None = Unit {0}
MayPass what (Some h) = IsWithin (length h.rest) what

-- the value held after this was taken
abbrev pub after_finding : HeldFront → Held → Held
after_finding seen.Nothing h = h
after_finding seen.Interrupted h = h
after_finding seen.Continue h = record h { continued = true }
after_finding (seen.Fault status) h = h
after_finding (seen.Message step parts) h = record h { rest = drop step.used h.rest; continued = false; owed = Some step.owed }

-- the thing at the front, after CR LF pairs, was found and taken
abbrev pub TakesFront : Option Held → HeldFront → Option Held → List ℕ → Type 0
TakesFront None what after room = (what ≡ seen.Nothing) × (after ≡ None)
TakesFront (Some h) what after room =
    Shows h.continued (skipped h.rest) what room × IsWithin (length (skipped h.rest)) what × (after ≡ Some (after_finding what (without_pairs h)))

-- no byte was found behind a request that a reply is owed to; or one was, and the connection is given up
abbrev pub FindsBehind : List ℕ → Held → HeldFront → Option Held → Type 0
FindsBehind [] h what after = (what ≡ seen.Nothing) × (after ≡ Some h)
FindsBehind (b ∷ bytes) h what after = (what ≡ seen.Interrupted) × (after ≡ None)

abbrev pub LooksBehind : Option Held → HeldFront → Option Held → Type 0
LooksBehind None what after = ⊥
LooksBehind (Some h) what after = FindsBehind h.rest h what after

-- one or the other, where a reply is owed or isn't
abbrev pub PassesBy : Bool → Option Held → HeldFront → Option Held → List ℕ → Type 0
PassesBy true old what after room = LooksBehind old what after
PassesBy false old what after room = TakesFront old what after room

abbrev pub Passes : Option Held → HeldFront → Option Held → List ℕ → Type 0
Passes old what after room = PassesBy (is_some (owed_in old)) old what after room

-- a connection after the reply to the request taken last
abbrev pub after_answer : Bool → ℕ → Held → Option Held
after_answer true now h = None
after_answer false now h = Some (record h { owed = None; active = now })

-- the request taken last is replied to, and this was owed to it
abbrev pub Settles : ℕ → Option Held → Owed → Option Held → Type 0
Settles now None owed after = ⊥
Settles now (Some h) owed after = (h.owed ≡ Some owed) × (after ≡ after_answer owed.closes now h)

-- the waits after this was found on a connection
abbrev pub waits_after : HeldFront → ℕ → List Wait → List Wait
waits_after seen.Interrupted c waits = other_waits c waits
waits_after what c waits = waits

-- the request taken last from a connection is replied to, and waits no longer
pub record SettlesAt (c now : ℕ) (b : Slots) (owed : Owed) (d : Slots) : Type 0 where
  pub held : Option Held
  pub settles : Settles now (held_at c b) owed held
  pub after : d ≡ with_held c held (without_wait_of c b)

-- the finding at the front of a connection was taken from it, and all others are as they were
abbrev pub TakesAt : ℕ → List (Option Held) → HeldFront → List (Option Held) → List ℕ → Type 0
TakesAt c b what d room = (x : Option Held) × Passes (place_at c b) what x room × (d ≡ with_place c x b)

-- query and body lie in these bytes
abbrev pub MayLend : HeldFront → List ℕ → Type 0
MayLend seen.Nothing room = Unit {0}
MayLend seen.Interrupted room = Unit {0}
MayLend seen.Continue room = Unit {0}
MayLend (seen.Fault status) room = Unit {0}
MayLend (seen.Message step None) room = Unit {0}
MayLend (seen.Message step (Some p)) room = p.query_length + p.body_length ≤ length room

-- a request is lent of which these are the parts
abbrev pub LendsRequest : RequestSeen → HttpNext → Type 0
LendsRequest q next.Idle = ⊥
LendsRequest q next.Close = ⊥
LendsRequest q next.Continue = ⊥
LendsRequest q (next.Ask request) = request_seen request ≡ q
LendsRequest q (next.Refuse status) = ⊥
LendsRequest q next.Memory = ⊥

-- the finding is given
abbrev pub Lends : HeldFront → List ℕ → HttpNext → Type 0
Lends seen.Nothing room given = given ≡ next.Idle
Lends seen.Interrupted room given = given ≡ next.Close
Lends seen.Continue room given = given ≡ next.Continue
Lends (seen.Fault status) room given = given ≡ next.Refuse status
Lends (seen.Message step None) room given = given ≡ next.Memory
Lends (seen.Message step (Some p)) room given = LendsRequest (request_in p room) given
