-- the rack fits, and all emissions were handed out
use Rattle.std.proofs.Common.{◌≡◌, []}
use Rattle.thing_site.specs.Fits.{Fits}
use Rattle.cases_things.proofs.histories.put_steps.Given as goal

abbrev pub invariant-loop-line : goal.invariant-loop-line
invariant-loop-line g l = Fits l.exposed.site (g.R.Handlers.slots l.rack) × (l.exposed.pending ≡ [])
