-- `serve PLAN`: the Things of a plan are served at the plan's place, over the network, until a Stop comes, the budget
-- of events is taken, or no number is left for a further turn.
use Rattle.std.specs.Prelude.{◌≡◌, ◌*◌, ◌-◌, ◌^◌, ℕ, List, [], map, Option}
use Rattle.wot_terms.specs.declared.kind.Kind.{Kind}
use Rattle.servient_outside.specs.declared.files.HeldFile.{HeldFile}
use Rattle.servient_outside.specs.declared.net.Listened.TheVariants as listened
use Rattle.servient_outside.specs.declared.place.Place.{Place}
use Rattle.servient_outside.specs.Network.{Happening, listens_as}
use Rattle.servient_core.specs.declared.serving.Served.{Served}
use Rattle.servient_core.specs.declared.serving.Served.TheVariants as served
use Rattle.servient_core.specs.declared.sections.SectionsEnd.{SectionsEnd}
use Rattle.servient_core.specs.declared.sections.SectionsEnd.TheVariants as ending
use Rattle.thing_state.specs.State.{most_turns}
use Rattle.servient_core.specs.declared.sections.RunBounds.{RunBounds}
use Rattle.servient_trace.specs.ShownSections.{Shown}
use Rattle.servient_core.specs.Sections.{ServesInSections}
use Rattle.command_words.specs.declared.command.Budget.{Budget}
use Rattle.command_words.specs.declared.command.Budget.TheVariants as budget
use Rattle.servient_plan.specs.Plan.{place_of}
use Rattle.servient_trace.specs.Trace.{Sighting, at_network}
use Rattle.servient_core.specs.Machine.{Site, State, start}
use Rattle.servient_core.specs.Serving.{Serves}
use Rattle.command_stages.specs.declared.derivation.Planned.{Planned}
use Rattle.command_stages.specs.Lines.{network_line, spent_line}
use Rattle.command_stages.specs.Stages.{Deed, sees, shows_all, Outcome, goes_on, EndsWith, RunsOut, AndThen}
use Rattle.command_stages.specs.Deriving.{ReadsPlanned}
use Rattle.servient_cli.specs.Opening.{Opens}

-- this happened at the network
abbrev pub happens : List Happening → List Deed
happens happened = sees (map (λ h. at_network h) happened)

-- Listening at a place.
pub data Listens (place : Place) (seen : List Deed) (o : Outcome (Unit {0})) : Type 0 where
  is_listening : seen ≡ happens (listens_as place listened.Ready) → o ≡ goes_on tt → Listens place seen o
  cannot_listen : EndsWith (happens (listens_as place listened.Failed)) 6 network_line seen o → Listens place seen o
  -- the place, or listening there, was out of memory
  place_memory : RunsOut [] seen o → Listens place seen o
  listen_memory : RunsOut (happens (listens_as place listened.NoMemory)) seen o → Listens place seen o

-- the end of the command by serving: the status, and the line; 8 is no fault, because the number of events that come is
-- the network's business
abbrev pub status_after : Served → ℕ
status_after served.Stopped = 0
status_after served.Failed = 6
status_after served.Spent = 8

abbrev pub line_after : Served → List ℕ
line_after served.Stopped = []
line_after served.Failed = network_line
line_after served.Spent = spent_line

-- Serving at most n events, where m exchanges may live: what the machine does with those that come, from its start.
pub data ServesEvents (budget exchanges : ℕ) (epoch : Option ℕ) (site : Site) (seen : List Deed) (o : Outcome (Unit {0})) : Type 0 where
  has_served : (result : Served) (ran : List Sighting) (end : State) → Serves site budget result (start site exchanges epoch) ran end
      → EndsWith (sees ran) (status_after result) (line_after result) seen o → ServesEvents budget exchanges epoch site seen o

-- the same where the handlers forget their turns now and then: 8 says that no number is left for a further turn
abbrev pub status_at_end : SectionsEnd → ℕ
status_at_end ending.Stopped = 0
status_at_end ending.Failed = 6
status_at_end ending.Spent = 8

abbrev pub line_at_end : SectionsEnd → List ℕ
line_at_end ending.Stopped = []
line_at_end ending.Failed = network_line
line_at_end ending.Spent = spent_line

-- as many events as can be counted, which is no bound that a run comes to, and as many turns as a run of the site may have
abbrev pub widest : Site → RunBounds
widest site = record { events = 2 ^ 64 - 1; turns = most_turns site.left_out }

-- Serving as many events as come: one run of the machine from its start, shown in sections.
pub data Endures (exchanges : ℕ) (epoch : Option ℕ) (site : Site) (seen : List Deed) (o : Outcome (Unit {0})) : Type 0 where
  has_endured : (result : SectionsEnd) (shown : List Shown) (end : State)
      → ServesInSections site (widest site) result (start site exchanges epoch) shown end
      → EndsWith (shows_all shown) (status_at_end result) (line_at_end result) seen o → Endures exchanges epoch site seen o

-- serving as the budget of the words says
abbrev pub ServesBy : Budget → ℕ → Option ℕ → Site → List Deed → Outcome (Unit {0}) → Type 0
ServesBy (budget.Events n) = ServesEvents n
ServesBy budget.Endless = Endures

-- the work once the plan is read, where serving ends after n seconds without traffic, or never for 0
abbrev pub ServesPlanned : List ℕ → List Kind → Budget → ℕ → Planned → List Deed → Outcome (Unit {0}) → Type 0
ServesPlanned name kinds budget idle p =
    AndThen (Opens name kinds p) (λ site. AndThen (Listens (place_of p.plan (idle * 1000))) (λ _. ServesBy budget p.plan.exchanges p.plan.epoch site))

-- Serving a plan on a rack with handlers of these kinds.
abbrev pub ServesPlan : Option (List HeldFile) → List Kind → List ℕ → Budget → ℕ → List Deed → Outcome (Unit {0}) → Type 0
ServesPlan held kinds plan budget idle = AndThen (ReadsPlanned held plan) (ServesPlanned plan kinds budget idle)
