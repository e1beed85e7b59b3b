-- the site stays
use Rattle.std.proofs.Common.{◌≡◌}
use Rattle.cases_things.proofs.histories.put_emissions.Given as goal

abbrev pub invariant-loop-emission : goal.invariant-loop-emission
invariant-loop-emission l = l.exposed.site ≡ l.fn.exposed.site
