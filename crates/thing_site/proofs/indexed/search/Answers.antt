use Rattle.std.proofs.Common.{rules}
use Rattle.std.proofs.lemmas.Fn.{always_returns_same}
use Rattle.thing_site.specs.Index.{segment_order}
use Rattle.thing_site.proofs.indexed.search.Goals as goal

pub returns-clause-place : goal.returns-clause-place
returns-clause-place c =
    c.binary_search_by.ensures.position (segment_order c.args.things.now c.args.segment.now)
    (always_returns_same _ _ _ (λ a r g called. (search rules, search rules)))
