-- The end of a network in memory: a Stop after its events. It is put there when the network is made, so that giving it
-- takes no memory; where the events have a Stop, nothing comes after that.
use Rattle.std.specs.Prelude.{ℕ, ◌-◌, List, [], ◌∷◌, ◌++◌, length, slice_get, option_map, unwrap_or}
use Rattle.servient_outside.specs.declared.net.What.TheVariants.{Stop}
use Rattle.servient_outside.specs.declared.net.Event.{Event}
use Rattle.servient_outside.specs.declared.net.EventWithBytes.{EventWithBytes}

-- the Stop at a moment
abbrev pub stop_event : ℕ → Event
stop_event moment = record { moment = moment; what = Stop }

-- the moment of the last of some events, or 0 where there is none
abbrev pub last_moment : List EventWithBytes → ℕ
last_moment events = unwrap_or (option_map (λ e. e.event.moment) (slice_get events (length events - 1))) 0

-- the events, and then the Stop at the moment of the last of them
abbrev pub with_stop : List EventWithBytes → List EventWithBytes
with_stop events = events ++ record { event = stop_event (last_moment events); bytes = [] } ∷ []
