use Rattle.std.proofs.Common.{ap, ◌∙◌, ℕ, List}
use Rattle.wot_registry.specs.Times.{Times, times_of}
use Rattle.wot_registry.proofs.KeptTimes.{lent_found}
use Rattle.wot_registry.proofs.times_by_id.TimesById.get.Goals as goal

pub returns : goal.returns
returns c =
    lent_found c.args.id.now c.self.inside.by_id.entries c.get.result c.get.ensures.value
    ∙ ap (λ (ts : List (List ℕ × Times)). times_of c.args.id.now ts) c.self.view_is
