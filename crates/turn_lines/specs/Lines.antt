-- The lines of the log of a run: the first one, and one for each turn.
use Rattle.std.specs.Prelude.{ℕ, Bool, true, false, List, [], ◌++◌, codes, decimal, if◌then◌else◌}
use Rattle.thing_handler.specs.declared.handler.Answer.{Answer}
use Rattle.thing_handler.specs.declared.handler.Answer.TheVariants.{Value, Done, Started, Running, Finished, Cancelled, Quiet, Fired, Refused, DeviceFault}
use Rattle.thing_handler.specs.Turns.{RunTurn}
use Rattle.servient_script.specs.Print.{turn_line}

-- a poll that found nothing, of which no line is written
abbrev pub is_quiet : Answer → Bool
is_quiet Quiet = true
is_quiet (Value tree) = false
is_quiet Done = false
is_quiet Started = false
is_quiet Running = false
is_quiet (Finished output) = false
is_quiet Cancelled = false
is_quiet (Fired tree) = false
is_quiet (Refused n) = false
is_quiet (DeviceFault n) = false

-- the line of a turn of a step on an event of this moment: `MOMENT turn NUMBER SLOT CALL = ANSWER`
abbrev pub log_line : ℕ → RunTurn → List ℕ
log_line moment t = decimal moment ++ codes " " ++ turn_line t

-- what is written of a turn: its line, or nothing of a poll that found nothing
abbrev pub logged_turn : ℕ → RunTurn → List ℕ
logged_turn moment t = if is_quiet t.answer then [] else log_line moment t

-- the first line: `serving HTTP COAP N`, with both bases as the plan has them and the number of Things
abbrev pub serving_line : List ℕ → List ℕ → ℕ → List ℕ
serving_line http coap things =
    codes "serving " ++ http ++ codes " " ++ coap ++ codes " " ++ decimal things ++ codes "\n"
