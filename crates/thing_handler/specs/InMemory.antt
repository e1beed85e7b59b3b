-- The state and the answers of the handlers in memory. Each table has a row for each call, and a second one says the
-- state after the call was answered. Where a handler is out of memory, it holds what it held.
use Rattle.std.specs.Prelude.{ℕ, ◌+◌, ◌-◌, ◌/◌, ◌%◌, ◌==◌, nat_le, pos, List, [], ◌∷◌, ◌++◌, drop, Option, Some, None, if◌then◌else◌}
use Rattle.wot_json.specs.declared.tree.Tree.{Tree}
use Rattle.wot_json.specs.declared.tree.Tree.TheVariants as json
use Rattle.wot_terms.specs.declared.kind.Kind.TheVariants.{Property, Action, Event}
use Rattle.thing_handler.specs.declared.handler.CallKind.{CallKind}
use Rattle.thing_handler.specs.declared.handler.CallKind.TheVariants.{Read, Write, Invoke, Query, Cancel, Poll}
use Rattle.thing_handler.specs.declared.handler.Answer.{Answer}
use Rattle.thing_handler.specs.declared.handler.Answer.TheVariants.{Value, Done, Started, Running, Finished, Cancelled, Quiet, Fired, Refused}
use Rattle.thing_handler.specs.declared.cell.Cell.{Cell}
use Rattle.thing_handler.specs.declared.job.Job.{Job}
use Rattle.thing_handler.specs.declared.job.Run.{Run}
use Rattle.thing_handler.specs.declared.pulse.Pulse.{Pulse}
use Rattle.thing_handler.specs.declared.scripted.Scripted.{Scripted}
use Rattle.thing_handler.specs.Handler.{Seen}

-- ---- cells

-- the view of a cell
abbrev pub cell_seen : Cell → Seen
cell_seen c = record { kind = Property; turns = c.log.turns.items; misses = c.log.misses }

-- the value that a cell holds
abbrev pub value_in : Cell → Tree
value_in c = c.value

-- the answer of a cell that holds this value
abbrev pub cell_answer : Tree → CallKind → Answer
cell_answer held Read = Value held
cell_answer held (Write value) = Done
cell_answer held (Invoke id input) = Refused 0
cell_answer held (Query id) = Refused 0
cell_answer held (Cancel id) = Refused 0
cell_answer held Poll = Refused 0

-- the value that it holds then
abbrev pub cell_after : Tree → CallKind → Tree
cell_after held Read = held
cell_after held (Write value) = value
cell_after held (Invoke id input) = held
cell_after held (Query id) = held
cell_after held (Cancel id) = held
cell_after held Poll = held

-- ---- jobs

-- the view of a job
abbrev pub job_seen : Job → Seen
job_seen j = record { kind = Action; turns = j.log.turns.items; misses = j.log.misses }

-- for how many queries an invocation of a job runs, which never changes
abbrev pub length_of : Job → ℕ
length_of j = j.turns

-- the invocations that run, in the order in which they were begun
abbrev pub runs_in : Job → List Run
runs_in j = j.runs.items

-- The invocation of this id, the earliest where several have it: ids differ in a run, and a handler that replaced one
-- would lose the promise of its turn.
abbrev pub run_of : ℕ → List Run → Option Run
run_of id [] = None
run_of id (r ∷ runs) = if r.id == id then Some r else run_of id runs

-- the invocations without that of this id
abbrev pub ended : ℕ → List Run → List Run
ended id [] = []
ended id (r ∷ runs) = if r.id == id then runs else r ∷ ended id runs

-- the invocations when that of this id was queried once more
abbrev pub queried : ℕ → List Run → List Run
queried id [] = []
queried id (r ∷ runs) = if r.id == id then record r { left = r.left - 1 } ∷ runs else r ∷ queried id runs

-- the answer to a query: the last one of an invocation finds it finished
abbrev pub query_answer : Option Run → Answer
query_answer None = Refused 1
query_answer (Some r) = if nat_le r.left 1 then Finished r.input else Running

abbrev pub query_after : Option Run → ℕ → List Run → List Run
query_after None id runs = runs
query_after (Some r) id runs = if nat_le r.left 1 then ended id runs else queried id runs

abbrev pub cancel_answer : Option Run → Answer
cancel_answer None = Refused 1
cancel_answer (Some r) = Cancelled

-- the answer of a job whose invocations run for n queries, where these run
abbrev pub job_answer : ℕ → List Run → CallKind → Answer
job_answer turns runs Read = Refused 0
job_answer turns runs (Write value) = Refused 0
job_answer turns runs (Invoke id input) = if turns == 0 then Finished input else Started
job_answer turns runs (Query id) = query_answer (run_of id runs)
job_answer turns runs (Cancel id) = cancel_answer (run_of id runs)
job_answer turns runs Poll = Refused 0

-- the invocations that run then
abbrev pub job_after : ℕ → List Run → CallKind → List Run
job_after turns runs Read = runs
job_after turns runs (Write value) = runs
job_after turns runs (Invoke id input) = if turns == 0 then runs else runs ++ record { id = id; input = input; left = turns } ∷ []
job_after turns runs (Query id) = query_after (run_of id runs) id runs
job_after turns runs (Cancel id) = ended id runs
job_after turns runs Poll = runs

-- ---- pulses

-- the view of a pulse
abbrev pub pulse_seen : Pulse → Seen
pulse_seen p = record { kind = Event; turns = p.log.turns.items; misses = p.log.misses }

-- the period of a pulse, which never changes
abbrev pub period_of : Pulse → ℕ
period_of p = p.period

-- the number of polls that a pulse has answered
abbrev pub polls_of : Pulse → ℕ
polls_of p = p.polls

-- the answer of a pulse of this period that has answered n polls: the first multiple of the period fires 1
abbrev pub pulse_answer : ℕ → ℕ → CallKind → Answer
pulse_answer period polls Read = Refused 0
pulse_answer period polls (Write value) = Refused 0
pulse_answer period polls (Invoke id input) = Refused 0
pulse_answer period polls (Query id) = Refused 0
pulse_answer period polls (Cancel id) = Refused 0
pulse_answer period polls Poll = if (polls + 1) % period == 0 then Fired (json.Int (pos ((polls + 1) / period))) else Quiet

-- the number of polls that it has answered then
abbrev pub pulse_after : ℕ → CallKind → ℕ
pulse_after polls Read = polls
pulse_after polls (Write value) = polls
pulse_after polls (Invoke id input) = polls
pulse_after polls (Query id) = polls
pulse_after polls (Cancel id) = polls
pulse_after polls Poll = polls + 1

-- ---- scripted handlers

-- the answers that a scripted handler hasn't given yet
abbrev pub answers_left : Scripted → List Answer
answers_left s = drop s.given s.answers.items

-- the first of the answers left, or the refusal 9 where none is
abbrev pub next_answer : List Answer → Answer
next_answer [] = Refused 9
next_answer (answer ∷ answers) = answer
