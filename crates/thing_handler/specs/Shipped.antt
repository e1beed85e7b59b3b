-- The shipped rack: what is in each of its 64 slots.
use Rattle.std.specs.Prelude.{ℕ, ◌-◌, ◌%◌, ◌==◌, nat_lt, pos, false, List, [], if◌then◌else◌}
use Rattle.wot_json.specs.declared.tree.Tree.{Tree}
use Rattle.wot_json.specs.declared.tree.Tree.TheVariants as json
use Rattle.wot_terms.specs.declared.kind.Kind.{Kind}
use Rattle.wot_terms.specs.declared.kind.Kind.TheVariants as kind
use Rattle.thing_handler.specs.declared.handler.CallKind.{CallKind}
use Rattle.thing_handler.specs.declared.handler.Answer.{Answer}
use Rattle.thing_handler.specs.declared.job.Run.{Run}
use Rattle.thing_handler.specs.declared.shipped.Shipped.{Shipped}
use Rattle.thing_handler.specs.declared.shipped.Shipped.TheVariants as shipped
use Rattle.thing_handler.specs.Handler.{Seen}
use Rattle.thing_handler.specs.InMemory.{cell_seen, value_in, cell_answer, cell_after, job_seen, length_of, runs_in, job_answer, job_after, pulse_seen, period_of, polls_of, pulse_answer, pulse_after}

-- the state of a handler in memory
pub data Device : Type 0 where
  -- the value of a cell
  is_cell : Tree → Device
  -- for how many queries the invocations of a job run, and which run
  is_job : ℕ → List Run → Device
  -- the period of a pulse, and how many polls it has answered
  is_pulse : ℕ → ℕ → Device

abbrev pub device_kind : Device → Kind
device_kind (is_cell held) = kind.Property
device_kind (is_job turns runs) = kind.Action
device_kind (is_pulse period polls) = kind.Event

-- its answer
abbrev pub device_answer : Device → CallKind → Answer
device_answer (is_cell held) what = cell_answer held what
device_answer (is_job turns runs) what = job_answer turns runs what
device_answer (is_pulse period polls) what = pulse_answer period polls what

-- its state then
abbrev pub device_after : Device → CallKind → Device
device_after (is_cell held) what = is_cell (cell_after held what)
device_after (is_job turns runs) what = is_job turns (job_after turns runs what)
device_after (is_pulse period polls) what = is_pulse period (pulse_after polls what)

-- the view of a shipped handler, and its state
abbrev pub shipped_seen : Shipped → Seen
shipped_seen (shipped.Cell c) = cell_seen c
shipped_seen (shipped.Job j) = job_seen j
shipped_seen (shipped.Pulse p) = pulse_seen p

abbrev pub device_of : Shipped → Device
device_of (shipped.Cell c) = is_cell (value_in c)
device_of (shipped.Job j) = is_job (length_of j) (runs_in j)
device_of (shipped.Pulse p) = is_pulse (period_of p) (polls_of p)

-- the value of the cell in a slot: by the slot's remainder by 4 they are 0, false, the empty text and the empty object,
-- but slot 0 has 7
abbrev pub shipped_value : ℕ → Tree
shipped_value slot =
    if slot == 0 then json.Int (pos 7)
    else if slot % 4 == 0 then json.Int (pos 0)
    else if slot % 4 == 1 then json.Bool false
    else if slot % 4 == 2 then json.Text []
    else json.Obj []

-- the table of the slots: 32 cells, 16 jobs that run for 0 to 15 queries, and 16 pulses of periods 1 to 16
abbrev pub shipped_device : ℕ → Device
shipped_device slot =
    if nat_lt slot 32 then is_cell (shipped_value slot)
    else if nat_lt slot 48 then is_job (slot - 32) []
    else is_pulse (slot - 47) 0
