-- The standings of the numbers of connections, and the number that an event names.
use Rattle.std.specs.Prelude.{◌≡◌, ◌≢◌, ◌≤◌, ◌<◌, ◌⊎◌, ℕ, List, Option, Some, None, is_some, slice_index_or, slice_set, if◌then◌else◌}
use Rattle.servient_outside.specs.declared.net.What.{What}
use Rattle.servient_outside.specs.declared.net.What.TheVariants as what
use Rattle.servient_edge.specs.declared.number.Number.{Number}
use Rattle.servient_edge.specs.declared.number.Number.TheVariants as number
use Rattle.servient_edge.specs.declared.numbers.Numbers.{Numbers}
use Rattle.servient_edge.specs.declared.turns.Took.{Took}
use Rattle.servient_edge.specs.declared.turns.Took.TheVariants as took
use Rattle.servient_edge.specs.Connection.{KeepsRest, Leaves, is_over_at, sent_by}

-- a number stands for this: nothing, a connection that is open, one that is closed and not over yet, or one that was
-- given up and whose end is still to be given
pub data Standing : Type 0 where
  vacant : Standing
  connected : Standing
  closing : Standing
  given_up : Standing

abbrev pub standing : Number → Standing
standing number.Free = vacant
standing (number.Used connection) = if is_some connection.closed then closing else connected
standing number.GivenUp = given_up

-- what is left of a holder at a moment: a connection that was closed and has had its time is none any more
abbrev pub left_of : ℕ → Number → Number
left_of moment number.Free = number.Free
left_of moment (number.Used connection) = if is_over_at connection moment then number.Free else number.Used connection
left_of moment number.GivenUp = number.GivenUp

-- the holder of this number
abbrev pub number_at : ℕ → Numbers → Number
number_at c n = slice_index_or n.list.items c number.Free

-- the standing of this number
abbrev pub standing_at : ℕ → Numbers → Standing
standing_at c n = standing (number_at c n)

-- the holder of this number may have changed, and that of another is the same
abbrev pub OthersStay : ℕ → Numbers → Numbers → Type 0
OthersStay c before after = after.list.items ≡ slice_set before.list.items c (number_at c after)

-- the standing of this number changes so, and the holder of another is the same
abbrev pub ChangesAt : (Standing → Standing → Type 0) → ℕ → Numbers → Numbers → Type 0
ChangesAt R c before after = R (standing_at c before) (standing_at c after) × OthersStay c before after

-- A turn takes this of a number: bytes of an open connection, some and no more than a buffer takes; the end of an open
-- one, or of one that was given up; of a closed one nothing but that it is over. One that has ended or is over is
-- vacant.
abbrev pub TakesFrom : Standing → Took → Standing → Type 0
TakesFrom before (took.Bytes count) after = (before ≡ connected) × (after ≡ connected) × (1 ≤ count) × (count ≤ 4096)
TakesFrom before took.Unwanted after = (before ≡ closing) × (after ≡ closing)
TakesFrom before took.Nothing after = after ≡ before
TakesFrom before took.Ended after = ((before ≡ connected) ⊎ (before ≡ given_up)) × (after ≡ vacant)
TakesFrom before took.Over after = (before ≡ closing) × (after ≡ vacant)

-- it is the least number that is vacant, or else none of 64 is
abbrev pub IsLeastVacant : Numbers → Option ℕ → Type 0
IsLeastVacant n (Some c) = (standing_at c n ≡ vacant) × ((other : ℕ) → other < c → standing_at other n ≢ vacant)
IsLeastVacant n None = (other : ℕ) → other < 64 → standing_at other n ≢ vacant

-- sending may give up an open connection, and changes nothing else
abbrev pub SendsOn : Standing → Standing → Type 0
SendsOn before after = (after ≡ before) ⊎ ((before ≡ connected) × (after ≡ given_up))

-- nothing comes of it any more
abbrev pub IsSilent : Standing → Type 0
IsSilent s = (s ≡ vacant) ⊎ (s ≡ closing)

-- a closed connection may be over, and nothing else changes
abbrev pub Settled : Standing → Standing → Type 0
Settled before after = (after ≡ before) ⊎ ((before ≡ closing) × (after ≡ vacant))

-- closed connections may be over, and nothing else changes
abbrev pub Settles : Numbers → Numbers → Type 0
Settles before after = (c : ℕ) → Settled (standing_at c before) (standing_at c after)

-- A turn names a number: one that was vacant, and is open now; one that is open, of which bytes came; one that was open
-- or given up, and is vacant now. The holder of another number is the same.
abbrev pub Gives : Numbers → Option What → Numbers → Type 0
Gives before None after = Settles before after
Gives before (Some (what.Opened c)) after = ChangesAt (λ old new. (old ≡ vacant) × (new ≡ connected)) c before after
Gives before (Some (what.Bytes c count)) after = ChangesAt (λ old new. (old ≡ connected) × (new ≡ connected)) c before after
Gives before (Some (what.Ended c)) after = ChangesAt (λ old new. ((old ≡ connected) ⊎ (old ≡ given_up)) × (new ≡ vacant)) c before after
Gives before (Some (what.Datagram from count)) after = after ≡ before
Gives before (Some what.Tick) after = ⊥
Gives before (Some what.Stop) after = ⊥

-- the number that an event names that comes of some turns, all but the last of which gave none
abbrev pub Comes : Numbers → Option What → Numbers → Type 0
Comes before came after = (settled : Numbers) × Settles before settled × Gives settled came after

-- a turn leaves this of the bytes that are kept, where a connection goes on: those that the socket didn't take
abbrev pub LeavesAt : Number → Took → Number → Type 0
LeavesAt (number.Used before) result (number.Used after) = Leaves before.kept result after.kept
LeavesAt (number.Used before) result number.Free = Unit {0}
LeavesAt (number.Used before) result number.GivenUp = Unit {0}
LeavesAt number.Free result after = Unit {0}
LeavesAt number.GivenUp result after = Unit {0}

-- sending leaves this, where a connection goes on: those of the kept bytes, and then of the message, that the socket
-- didn't take
abbrev pub SendsAt : Number → List ℕ → Number → Type 0
SendsAt (number.Used before) message (number.Used after) = KeepsRest before.kept (sent_by before message) after.kept
SendsAt (number.Used before) message number.Free = Unit {0}
SendsAt (number.Used before) message number.GivenUp = Unit {0}
SendsAt number.Free message after = Unit {0}
SendsAt number.GivenUp message after = Unit {0}
