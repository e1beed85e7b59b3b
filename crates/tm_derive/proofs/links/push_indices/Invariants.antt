use Rattle.std.proofs.Common.{◌≡◌, ◌++◌, drop}
use Rattle.tm_resolve.specs.ModelLinks.{kept_links}
use Rattle.tm_derive.specs.Finishing.{indices_of}
use Rattle.tm_derive.proofs.links.push_indices.Given as goal

abbrev pub invariant-loop-link : goal.invariant-loop-link
invariant-loop-link l = l.indices.items ++ indices_of (kept_links (drop l.link-index l.links)) ≡ l.initial.indices.items ++ indices_of (kept_links l.links)
