-- The moves of a rehearsal, as turns of the world of both ends.
use Rattle.std.specs.Prelude.{◌≤◌, ◌+◌, ◌^◌, ◌==◌, ◌&&◌, ℕ, nat_lt, nat_le, Bool, true, false, List, [], ◌∷◌, length, if◌then◌else◌}
use Rattle.servient_outside.specs.declared.net.What.{What}
use Rattle.servient_outside.specs.declared.net.What.TheVariants as what
use Rattle.servient_outside.specs.Network.{byte_count}
use Rattle.servient_world.specs.World.{is_end}
use Rattle.servient_ends.specs.Ends.{Turn, asks_next, does_due, delivers, passes, happens}
use Rattle.servient_rehearsal.specs.declared.moves.Move.{Move}
use Rattle.servient_rehearsal.specs.declared.moves.Move.TheVariants as move

-- a network may give this: `MayCome`, as a test
abbrev pub is_possible : What → Bool
is_possible (what.Opened c) = nat_lt c 64
is_possible (what.Bytes c count) = nat_lt c 64 && (nat_le 1 count && nat_le count 4096)
is_possible (what.Ended c) = nat_lt c 64
is_possible (what.Datagram from count) = nat_le count 2048
is_possible what.Tick = true
is_possible what.Stop = true

-- the same with its bytes
abbrev pub is_given : What → List ℕ → Bool
is_given w bytes = is_possible w && (length bytes == byte_count w)

-- it is a datagram of one of the two ends
abbrev pub is_of_an_end : What → Bool
is_of_an_end (what.Datagram from size) = is_end from
is_of_an_end (what.Opened c) = false
is_of_an_end (what.Bytes c size) = false
is_of_an_end (what.Ended c) = false
is_of_an_end what.Tick = false
is_of_an_end what.Stop = false

-- This comes to the servient besides. Where no network gives that, the move is skipped, so that no time passes.
abbrev pub turn_besides : What → List ℕ → Turn
turn_besides w bytes = if is_given w bytes then happens w bytes else passes 0

-- the turn that a move is
abbrev pub turn_of : Move → Turn
turn_of (move.Ask code path observe format block1 block2 payload) =
    asks_next (record { code = code; path = path; observe = observe; format = format; block1 = block1; block2 = block2; payload = payload })
turn_of move.Due = does_due
turn_of (move.Deliver i) = delivers i
turn_of (move.Pass time) = passes time
turn_of (move.Other w bytes) = turn_besides w bytes

-- the time that a move lets pass, in milliseconds
abbrev pub passed_by : Move → ℕ
passed_by (move.Pass time) = time
passed_by (move.Ask code path observe format block1 block2 payload) = 0
passed_by move.Due = 0
passed_by (move.Deliver i) = 0
passed_by (move.Other w bytes) = 0

-- and all moves
abbrev pub total_passed : List Move → ℕ
total_passed [] = 0
total_passed (m ∷ moves) = passed_by m + total_passed moves

-- Moves that may be rehearsed: not too many, in which not too much time passes.
pub record AreShort (moves : List Move) : Type 0 where
  pub few : length moves ≤ 1000000
  pub time : total_passed moves ≤ 10 ^ 15
