use Rattle.std.proofs.Common.{◌≡◌, ◌++◌}
use Rattle.tm_parts.specs.Kept.{kept_models}
use Rattle.tm_parts.specs.Prepared.{prepared_sources}
use Rattle.tm_parts.specs.Sources.{sources_of}
use Rattle.tm_parts.proofs.sources.prepare_all.Given as goal

-- the sources that were made, and those that the rest will give
abbrev pub invariant-loop-url : goal.invariant-loop-url
invariant-loop-url l = prepared_sources l.models.items l.values ++ sources_of (kept_models l.url-iterator) l.values ≡ sources_of l.library l.values
