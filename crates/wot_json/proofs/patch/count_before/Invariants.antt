use Rattle.std.proofs.Common.{ℕ, ◌<◌, List, get_or}
use Rattle.wot_json.specs.Cutting.{IsBefore}
use Rattle.wot_json.specs.declared.tree.Tree.{Tree}
use Rattle.wot_json.proofs.patch.count_before.Given as goal

abbrev pub invariant-loop-place : goal.invariant-loop-place
invariant-loop-place l = (k : ℕ) → (d : List ℕ × Tree) → k < l.place → IsBefore (get_or l.members k d).0 l.name
