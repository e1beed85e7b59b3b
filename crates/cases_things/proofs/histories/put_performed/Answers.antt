use Rattle.std.proofs.Common.{sym, subst}
use Rattle.thing_site.specs.Site.{Site}
use Rattle.thing_site.specs.Fits.{Fits}
use Rattle.cases_things.proofs.histories.put_performed.Goals as goal

pub returns-clause-fits : goal.returns-clause-fits
returns-clause-fits g c =
    subst (λ (x : Site). Fits x (g.R.Handlers.slots c.perform-outcome.new.rack)) (sym c.put_emissions.ensures.site)
    (c.a_rack_fits_on.ensures c.args.exposed.now c.perform-outcome.new.self _ c.perform-outcome.result (g.R.Handlers.slots c.args.rack.now) (g.R.Handlers.slots c.perform-outcome.new.rack) c.perform-outcome.ensures c.requires.fits)
