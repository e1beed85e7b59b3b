use Rattle.std.proofs.Common.{sym, subst}
use Rattle.thing_site.specs.Site.{Site}
use Rattle.thing_site.specs.Fits.{Fits}
use Rattle.cases_things.proofs.histories.put_tick.Goals as goal

pub returns-clause-fits : goal.returns-clause-fits
returns-clause-fits g c =
    subst (λ (x : Site). Fits x (g.R.Handlers.slots c.tick.new.rack)) (sym c.put_emissions.ensures.site)
    (c.a_rack_fits_on_after_polls.ensures c.args.exposed.now c.tick.new.self (g.R.Handlers.slots c.args.rack.now) (g.R.Handlers.slots c.tick.new.rack) c.tick.ensures c.requires.fits)
