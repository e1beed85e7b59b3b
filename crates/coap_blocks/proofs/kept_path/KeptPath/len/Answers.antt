use Rattle.std.proofs.Common.{List, ℕ, length, ap, sym, ◌∙◌}
use Rattle.thing_ops.proofs.SegmentLists.{length-pieces}
use Rattle.coap_blocks.proofs.kept_path.KeptPath.len.Goals as goal

pub returns : goal.returns
returns c =
    c.len.ensures
    ∙ c.self.inside.ends.ok.0
    ∙ sym (length-pieces c.self.inside.bytes 0 c.self.inside.ends.items)
    ∙ ap (λ (path : List (List ℕ)). length path) c.self.view_is
