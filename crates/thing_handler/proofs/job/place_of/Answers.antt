use Rattle.std.proofs.Common.{ℕ, subst, sym}
use Rattle.std.specs.Prelude.{Option}
use Rattle.thing_handler.specs.JobChanges.{StandsAt}
use Rattle.thing_handler.proofs.JobLaws.{stands_at_first}
use Rattle.thing_handler.proofs.job.place_of.Goals as goal

pub returns : goal.returns
returns c = subst (λ (o : Option ℕ). StandsAt c.args.id c.args.runs.now o) (sym c.first_place.ensures) (stands_at_first c.args.id c.args.runs.now)
