use Rattle.std.proofs.Common.{◌≡◌, ◌-◌, ℕ, List, suc, ap, arith}
use Rattle.wot_json.specs.Meaning.{json_of, json_members}
use Rattle.wot_directory.proofs.Copies.{makes_copy}
use Rattle.wot_directory.proofs.directory.copied_entries.Goals as goal

pub loop-id-preserved : goal.loop-id-preserved
loop-id-preserved c =
    let none : c.loop-id.skip ≡ 0 = omega arith in
    let one : c.loop-id.left ≡ suc (c.loop-id.left - 1) = omega arith in
    makes_copy (json_members c.loop-id.copies.items) (json_members c.push_copy.new.into.items) _ c.loop-id.skip c.loop-id.left (c.loop-id.left - 1)
    (c.in-Some.id.now, c.in-Some.tree.now) (c.as_str.result.now, json_of c.in-Some.tree.now)
    c.loop-id.id-iterator c.next.new.self c.in-Some.ensures.steps none one (ap (λ (x : List ℕ). (x, json_of c.in-Some.tree.now)) c.as_str.ensures.value) c.in_ok-push_copy.ensures c.loop-id.invariant
