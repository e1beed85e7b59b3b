use Rattle.std.proofs.Common.{◌≡◌, List, ℕ, length, ap, sym, ◌∙◌, arith}
use Rattle.thing_ops.proofs.SegmentLists.{length-pieces, no_piece}
use Rattle.thing_ops.proofs.segments.Segments.get.Goals as goal

pub returns-else-index-len : goal.returns-else-index-len
returns-else-index-len c =
    let long : length c.args.self.now ≡ length c.self.inside.ends.items = ap (λ (path : List (List ℕ)). length path) (sym c.self.view_is) ∙ length-pieces c.self.inside.bytes.items 0 c.self.inside.ends.items in
    sym (no_piece c.args.self.now c.args.index (omega (arith, long, c.len.ensures)))
