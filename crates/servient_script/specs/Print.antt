-- The print of a replay: its acts in order, and then its turns by number, each on a line of its own.
use Rattle.std.specs.Prelude.{ℕ, List, [], ◌∷◌, ◌++◌, codes, decimal, Option, Some, None}
use Rattle.std.specs.List.{flat_map}
use Rattle.wot_json.specs.declared.tree.Tree.{Tree}
use Rattle.wot_json.specs.Json.{json_text}
use Rattle.thing_handler.specs.declared.handler.CallKind.{CallKind}
use Rattle.thing_handler.specs.declared.handler.CallKind.TheVariants.{Read, Write, Invoke, Query, Cancel, Poll}
use Rattle.thing_handler.specs.declared.handler.Answer.{Answer}
use Rattle.thing_handler.specs.declared.handler.Answer.TheVariants.{Value, Done, Started, Running, Finished, Cancelled, Quiet, Fired, Refused, DeviceFault}
use Rattle.thing_handler.specs.declared.handler.Turn.{Turn}
use Rattle.thing_handler.specs.Turns.{RunTurn}
use Rattle.servient_outside.specs.declared.net.Act.{Act}
use Rattle.servient_outside.specs.declared.net.Act.TheVariants as act
use Rattle.servient_script.specs.Fields.{fields_text}
use Rattle.servient_script.specs.Script.{endpoint_text, hex_text}

-- The line of an act. A run of a script neither listens nor dials nor looks anything up, and there is no line for that.
abbrev pub act_line : Act → List ℕ
act_line (act.Sent c bytes) = fields_text (codes "send" ∷ decimal c ∷ hex_text bytes ∷ []) ++ codes "\n"
act_line (act.Closed c) = fields_text (codes "close" ∷ decimal c ∷ []) ++ codes "\n"
act_line (act.Datagram to bytes) = fields_text (codes "data" ∷ endpoint_text to ∷ hex_text bytes ∷ []) ++ codes "\n"
act_line (act.Listened place) = []
act_line (act.Dialled host port c) = []
act_line (act.Looked host port endpoint) = []

-- the JSON text of a value, or `-` where there is none
abbrev pub text_if_any : Option Tree → List ℕ
text_if_any None = codes "-"
text_if_any (Some tree) = json_text tree

-- the call of a handler
abbrev pub call_text : CallKind → List ℕ
call_text Read = codes "read"
call_text (Write tree) = codes "write " ++ json_text tree
call_text (Invoke id input) = codes "invoke " ++ decimal id ++ codes " " ++ text_if_any input
call_text (Query id) = codes "query " ++ decimal id
call_text (Cancel id) = codes "cancel " ++ decimal id
call_text Poll = codes "poll"

-- its answer
abbrev pub answer_text : Answer → List ℕ
answer_text (Value tree) = codes "value " ++ json_text tree
answer_text Done = codes "done"
answer_text Started = codes "started"
answer_text Running = codes "running"
answer_text (Finished output) = codes "finished " ++ text_if_any output
answer_text Cancelled = codes "cancelled"
answer_text Quiet = codes "quiet"
answer_text (Fired tree) = codes "fired " ++ json_text tree
answer_text (Refused n) = codes "refused " ++ decimal n
answer_text (DeviceFault n) = codes "fault " ++ decimal n

-- the line of a turn: `turn NUMBER SLOT CALL = ANSWER`
abbrev pub turn_line : RunTurn → List ℕ
turn_line t =
    codes "turn " ++ decimal t.number ++ codes " " ++ decimal t.slot ++ codes " " ++ call_text t.what
    ++ codes " = " ++ answer_text t.answer ++ codes "\n"

-- the lines of some acts, and then those of some turns
abbrev pub print_text : List Act → List RunTurn → List ℕ
print_text acts turns = flat_map act_line acts ++ flat_map turn_line turns

-- a turn that a handler kept, with the slot of that handler
abbrev pub in_slot : ℕ → Turn → RunTurn
in_slot slot t = record { number = t.number; slot = slot; what = t.what; answer = t.answer }
