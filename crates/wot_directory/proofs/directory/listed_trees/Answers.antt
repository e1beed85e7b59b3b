use Rattle.std.proofs.Common.{◌≡◌, ◌-◌, suc, ap, arith}
use Rattle.wot_json.specs.Meaning.{json_of}
use Rattle.wot_json.specs.declared.tree.Tree.{Tree}
use Rattle.wot_directory.proofs.Lists.{lists_one}
use Rattle.wot_directory.proofs.directory.listed_trees.Goals as goal

pub loop-tree-preserved : goal.loop-tree-preserved
loop-tree-preserved c =
    let none : c.loop-tree.skip ≡ 0 = omega arith in
    let one : c.loop-tree.left ≡ suc (c.loop-tree.left - 1) = omega arith in
    lists_one c.loop-tree.trees c.push.new.self _ c.loop-tree.skip c.loop-tree.left (c.loop-tree.left - 1) (c.in-Some.field-0-0.now, c.in-Some.tree.now) (json_of c.in_ok-copied.copied)
    c.loop-tree.tree-iterator c.next.new.self c.in-Some.ensures.steps none one (ap (λ (t : Tree). json_of t) c.in_ok-copied.ensures) c.in_ok-push.ensures.ok c.loop-tree.invariant
