-- The event that a network gives when nothing else comes. Moments are in milliseconds.
use Rattle.std.specs.Prelude.{◌≡◌, ◌≢◌, ◌≤◌, ◌<◌, ◌⊎◌, ℕ, ◌+◌, ◌-◌, min, nat_eq, unwrap_or, if◌then◌else◌}
use Rattle.servient_edge.specs.declared.timing.DueEvent.{DueEvent}
use Rattle.servient_edge.specs.declared.timing.DueEvent.TheVariants as due
use Rattle.servient_edge.specs.declared.timing.Timing.{Timing}

-- the moment at which the next tick is due: a second after its second began, which is at this moment if it hasn't begun
abbrev pub next_tick : Timing → ℕ → ℕ
next_tick t moment = unwrap_or t.since moment + 1000

-- Stop where there was no traffic for as long as it may idle, else a tick where its second is over.
abbrev pub IsDue : Timing → ℕ → DueEvent → Type 0
IsDue t moment due.Stop = (t.idle ≢ 0) × (t.traffic + t.idle ≤ moment)
IsDue t moment due.Tick = ((t.idle ≡ 0) ⊎ (moment < t.traffic + t.idle)) × (next_tick t moment ≤ moment)
IsDue t moment due.Nothing = ((t.idle ≡ 0) ⊎ (moment < t.traffic + t.idle)) × (moment < next_tick t moment)

-- the time until something is due
abbrev pub time_left : Timing → ℕ → ℕ
time_left t moment =
    if nat_eq t.idle 0 then next_tick t moment - moment else min (next_tick t moment - moment) (t.traffic + t.idle - moment)
