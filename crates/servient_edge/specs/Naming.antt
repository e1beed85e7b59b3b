-- The number of a connection that an event of the network names, and the changes of the holders by its calls.
use Rattle.std.specs.Prelude.{◌≡◌, ◌⊎◌, ℕ, List, [], Option, Some, None, Result, Ok, Err, slice_index_or, slice_set}
use Rattle.servient_outside.specs.declared.net.What.{What}
use Rattle.servient_outside.specs.declared.net.What.TheVariants as what
use Rattle.servient_outside.specs.declared.net.Next.{Next}
use Rattle.servient_outside.specs.declared.net.Next.TheVariants as next
use Rattle.servient_edge.specs.declared.number.Number.{Number}
use Rattle.servient_edge.specs.declared.number.Number.TheVariants as number
use Rattle.servient_edge.specs.declared.sockets.Sockets.{Sockets}
use Rattle.servient_edge.specs.Numbers.{Standing, vacant, connected, given_up, standing, Settled}

-- the holders, by their numbers: none where there are no sockets
abbrev pub numbers_of : Option Sockets → List Number
numbers_of None = []
numbers_of (Some sockets) = sockets.numbers.list.items

-- the standing of a number
abbrev pub stands : ℕ → List Number → Standing
stands c numbers = standing (slice_index_or numbers c number.Free)

-- closed connections may be over, and what else a number stands for is the same
abbrev pub MaySettle : List Number → List Number → Type 0
MaySettle before after = (c : ℕ) → Settled (stands c before) (stands c after)

-- the standing of this number changes so, and the holder of another is the same
abbrev pub ChangesOne : (Standing → Standing → Type 0) → ℕ → List Number → List Number → Type 0
ChangesOne R c before after =
    R (stands c before) (stands c after) × (after ≡ slice_set before c (slice_index_or after c number.Free))

-- at last what this number stands for changes so; before that, closed connections may be over
abbrev pub ChangesLast : (Standing → Standing → Type 0) → ℕ → List Number → List Number → Type 0
ChangesLast R c before after = (settled : List Number) × MaySettle before settled × ChangesOne R c settled after

-- An event names a number: a new connection has one that was vacant; bytes are those of one that is open, and stays so;
-- and the end is that of one that was open or given up, and is vacant now. The holder of another number is the same
-- from when closed connections that are over have none any more.
abbrev pub Names : List Number → Option What → List Number → Type 0
Names before None after = MaySettle before after
Names before (Some (what.Opened c)) after = ChangesLast (λ old new. (old ≡ vacant) × (new ≡ connected)) c before after
Names before (Some (what.Bytes c count)) after = ChangesLast (λ old new. (old ≡ connected) × (new ≡ connected)) c before after
Names before (Some (what.Ended c)) after = ChangesLast (λ old new. ((old ≡ connected) ⊎ (old ≡ given_up)) × (new ≡ vacant)) c before after
Names before (Some (what.Datagram from count)) after = MaySettle before after
Names before (Some what.Tick) after = MaySettle before after
Names before (Some what.Stop) after = MaySettle before after

-- the event that came, if the call didn't fail
abbrev pub what_of : {E : Type 0} → Result What E → Option What
what_of (Ok came) = Some came
what_of (Err e) = None

-- the event that an answer says
abbrev pub what_in : Next → Option What
what_in (next.Got e) = Some e.what
what_in next.Failed = None
