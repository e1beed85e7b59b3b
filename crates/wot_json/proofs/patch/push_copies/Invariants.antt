use Rattle.std.proofs.Common.{◌≡◌, ◌++◌, take}
use Rattle.wot_json.proofs.patch.push_copies.Given as goal

abbrev pub invariant-loop-member : goal.invariant-loop-member
invariant-loop-member l = l.into.items ≡ l.initial.into.items ++ take l.member-index l.members
