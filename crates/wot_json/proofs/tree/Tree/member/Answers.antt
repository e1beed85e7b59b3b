use Rattle.std.proofs.Common.{sym, ap, ◌∙◌}
use Rattle.wot_json.specs.Lookup.{member_named}
use Rattle.wot_json.proofs.EqualTrees.{listed_members_lem}
use Rattle.wot_json.proofs.tree.Tree.member.Goals as goal

pub returns-in-Obj : goal.returns-in-Obj
returns-in-Obj c = rw c.in-Obj.is (c.get.ensures ∙ ap (member_named c.args.name.now) (sym (listed_members_lem c.in-Obj.members)))
