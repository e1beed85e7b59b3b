use Rattle.std.proofs.Common.{◌++◌, ◌∙◌, List, ℕ, ap}
use Rattle.core_links.specs.Writing.{further_text}
use Rattle.servient_core.specs.Links.{link_to}
use Rattle.servient_core.proofs.LinkLaws.{further_more}
use Rattle.servient_core.proofs.links.put_further.Goals as goal

pub loop-thing-preserved : goal.loop-thing-preserved
loop-thing-preserved c =
    further_more c.args.things.now c.loop-thing.thing-index c.thing-item.result c.loop-thing.text c.put_after_comma.new.text _ c.loop-thing-test.true c.thing-item.is
    c.loop-thing.invariant (c.in_ok-put_after_comma.ensures ∙ ap (λ (s : List ℕ). c.loop-thing.text ++ further_text (link_to s)) c.as_str.ensures)
