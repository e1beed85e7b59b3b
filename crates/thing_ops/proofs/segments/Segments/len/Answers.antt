use Rattle.std.proofs.Common.{List, ℕ, length, ap, sym, ◌∙◌}
use Rattle.thing_ops.proofs.SegmentLists.{length-pieces}
use Rattle.thing_ops.proofs.segments.Segments.len.Goals as goal

pub returns : goal.returns
returns c = c.len.ensures.value ∙ sym (length-pieces c.self.inside.bytes.items 0 c.self.inside.ends.items) ∙ ap (λ (path : List (List ℕ)). length path) c.self.view_is
