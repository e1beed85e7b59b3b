use Rattle.std.proofs.Common.{◌∙◌}
use Rattle.tm_parts.proofs.SourcesMade.{sources_alike}
use Rattle.tm_parts.proofs.sources.Sources.new.Goals as goal

pub returns : goal.returns
returns c = c.in_ok-models.ensures.models ∙ sources_alike c.args.library.now c.in_ok-values.values c.args.bindings.now c.in_ok-values.ensures
