use Rattle.std.proofs.Common.{◌≡◌, ◌≤◌, ◌++◌, List, length}
use Rattle.thing_site.specs.Site.{Placed, events_of}
use Rattle.thing_core.specs.Rounds.{events_left}
use Rattle.thing_core.specs.Performing.{AllStand, PollsSome}
use Rattle.thing_core.proofs.polling.poll_all.Given as goal

abbrev pub invariant-loop-round : goal.invariant-loop-round
invariant-loop-round g l =
    ((done : List Placed) × (done ++ events_left l.round l.things ≡ events_of l.things)
    × PollsSome done l.initial.machine l.machine (g.R.Handlers.slots l.initial.rack) (g.R.Handlers.slots l.rack))
    × AllStand (length (g.R.Handlers.slots l.rack)) (events_left l.round l.things)
    × (length (events_left l.round l.things) ≤ l.machine.room)

abbrev pub decreases-loop-round : goal.decreases-loop-round
decreases-loop-round g l = length (events_left l.round l.things)
