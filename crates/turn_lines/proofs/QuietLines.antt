-- What is written of a turn.
use Rattle.std.proofs.Common.{◌≡◌, ℕ, true, false, [], sym, subst}
use Rattle.std.specs.Prelude.{List}
use Rattle.thing_handler.specs.Turns.{RunTurn}
use Rattle.servient_outside.specs.Out.{OutSeen}
use Rattle.turn_lines.specs.Buffer.{Buffered, HasPut}
use Rattle.turn_lines.specs.Lines.{is_quiet, log_line, logged_turn}
use Rattle.turn_lines.proofs.Putting.{put_none}

-- nothing of a poll that found nothing
pub quiet_line : (moment : ℕ) (t : RunTurn) (a : Buffered) (o : OutSeen) → is_quiet t.answer ≡ true → HasPut (logged_turn moment t) a a o o
quiet_line moment t a o is = rw is (put_none a o)

-- and else its line
pub said_line : (moment : ℕ) (t : RunTurn) (a b : Buffered) (o p : OutSeen) → is_quiet t.answer ≡ false → HasPut (log_line moment t) a b o p → HasPut (logged_turn moment t) a b o p
said_line moment t a b o p is has = rw is has
