use Rattle.std.proofs.Common.{List, ℕ, length, ap, arith}
use Rattle.thing_ops.proofs.SegmentLists.{length-pieces}
use Rattle.coap_blocks.proofs.kept_path.KeptPath.at.Goals as goal

pub piece-requires-clause-within : goal.piece-requires-clause-within
piece-requires-clause-within c =
    omega (arith, c.requires, length-pieces c.self.inside.bytes 0 c.self.inside.ends.items, ap (λ (path : List (List ℕ)). length path) c.self.view_is, ap (λ (ends : List ℕ). length ends) c.as_slice-2.ensures.value)
