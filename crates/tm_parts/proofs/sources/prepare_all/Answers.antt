use Rattle.std.proofs.Common.{◌≡◌, ◌++◌, ◌∷◌, [], ◌∙◌, arith}
use Rattle.std.proofs.lemmas.Grind.{common_steps}
use Rattle.tm_parts.proofs.SourcesMade.{sources_more, sources_made, urls_ordered}
use Rattle.tm_parts.proofs.sources.prepare_all.Goals as goal

pub loop-url-preserved : goal.loop-url-preserved
loop-url-preserved c =
    let grown : c.push.new.self.items ≡ c.loop-url.models.items ++ c.in_ok-model.model ∷ [] = grind (arith, common_steps) in
    sources_more c.loop-url.models.items c.push.new.self.items c.in_ok-model.model c.loop-url.url-iterator c.next.new.self (c.in-Some.url.now, c.in-Some.tree.now) c.args.values.now _
    c.in-Some.ensures.steps c.loop-url.invariant grown (c.in_ok-model.ensures.url ∙ c.as_str.ensures.value) c.in_ok-model.ensures.model

pub returns-clause-ordered : goal.returns-clause-ordered
returns-clause-ordered c =
    urls_ordered c.loop-url.models.items c.entries-entries.result.now.entries c.args.library.now c.args.values.now c.entries-entries.ensures
    (sources_made c.loop-url.models.items c.loop-url.url-iterator c.args.values.now _ c.in-None.ensures.steps.0 c.loop-url.invariant)
    c.len.ensures.ordered
