-- `storm SEED N`: the first N events of the storm of a seed and a Stop after them are run on the built-in Thing, and
-- what came of them is counted. It reads no file and does nothing to the network: its own is in memory.
use Rattle.std.specs.Prelude.{◌≡◌, ℕ, List, length, take, Option, None}
use Rattle.wot_terms.specs.declared.kind.Kind.{Kind}
use Rattle.servient_outside.specs.declared.net.EventWithBytes.{EventWithBytes}
use Rattle.servient_outside.specs.Ending.{with_stop}
use Rattle.servient_outside.specs.declared.net_memory.NetMemory.{NetMemory}
use Rattle.servient_trace.specs.Trace.{Sighting}
use Rattle.servient_core.specs.Machine.{Site, State, Run, start}
use Rattle.storm_events.specs.Storm.{events_of}
use Rattle.command_stages.specs.declared.derivation.Planned.{Planned}
use Rattle.servient_cli.specs.declared.storming.Load.{Load}
use Rattle.servient_cli.specs.declared.storming.TheConstants.{STORM_EXCHANGES}
use Rattle.servient_cli.specs.Counting.{came, counts_in, storm_line}
use Rattle.command_stages.specs.Stages.{Deed, Outcome, EndsWith, RunsOut, AndThen}
use Rattle.servient_cli.specs.Opening.{Opens}
use Rattle.command_stages.specs.Inputs.{TakesBuiltIn, plan_name}
use Rattle.servient_cli.specs.Replaying.{HasScript, calls_of_run}

-- the same plan, but that fewer exchanges may live, so that their table is soon full
abbrev pub with_few_exchanges : Planned → Planned
with_few_exchanges p = record p { plan = record p.plan { exchanges = STORM_EXCHANGES } }

-- the events of a run: those of the storm, and the Stop at the moment of the last
abbrev pub storm_run : ℕ → ℕ → List EventWithBytes
storm_run seed n = with_stop (events_of seed n)

-- Running them, where m exchanges may live. The last of them is the Stop, so that there are never more than the budget.
pub data RunsStorm (seed n exchanges : ℕ) (epoch : Option ℕ) (site : Site) (seen : List Deed) (o : Outcome (Unit {0})) : Type 0 where
  -- all of them were taken, and these are the counts of the machine's run of them
  is_counted : (ran : List Sighting) (end : State) → Run site (storm_run seed n) (start site exchanges epoch) ran end
      → EndsWith (calls_of_run ran) 0 (storm_line (counts_in ran)) seen o → RunsStorm seed n exchanges epoch site seen o
  -- It was out of memory, before the run or after so many events, or the network in memory lost an act: the handlers
  -- were called as in a run over those events.
  storm_memory : (ran : List Sighting) (end : State) (count : ℕ) → Run site (take count (storm_run seed n)) (start site exchanges epoch) ran end
      → RunsOut (calls_of_run ran) seen o → RunsStorm seed n exchanges epoch site seen o

-- the work on the plan of the Thing
abbrev pub StormsOn : List Kind → ℕ → ℕ → Planned → List Deed → Outcome (Unit {0}) → Type 0
StormsOn kinds seed n p = AndThen (Opens (plan_name None) kinds p) (RunsStorm seed n p.plan.exchanges p.plan.epoch)

-- A storm on a rack with handlers of these kinds.
abbrev pub Storms : List Kind → ℕ → ℕ → List Deed → Outcome (Unit {0}) → Type 0
Storms kinds seed n = AndThen TakesBuiltIn (λ p. StormsOn kinds seed n (with_few_exchanges p))

-- ---- how code has the events of a storm

-- A network in memory has them to give and nothing else, and so many are to come.
pub record HasStorm (seed n : ℕ) (load : Load) (net : NetMemory) : Type 0 where
  pub script : HasScript (events_of seed n) net
  pub events : load.events ≡ length (storm_run seed n)
  pub datagrams : load.datagrams ≡ length (came (events_of seed n))
