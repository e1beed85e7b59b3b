use Rattle.std.proofs.Common.{sym}
use Rattle.wot_json.proofs.EqualTrees.{listed_members_lem}
use Rattle.tm_resolve.proofs.merging.members_of_target.Goals as goal

pub returns-in-Obj : goal.returns-in-Obj
returns-in-Obj c = rw c.in-Obj.is (sym (listed_members_lem c.in-Obj.members))
