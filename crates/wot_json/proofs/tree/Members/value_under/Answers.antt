use Rattle.std.proofs.Common.{sym, ◌∙◌}
use Rattle.wot_json.proofs.EqualTrees.{found-members_of}
use Rattle.wot_json.proofs.tree.Members.value_under.Goals as goal

pub returns : goal.returns
returns c = c.get.ensures ∙ sym (found-members_of c.args.name.now c.args.self.now)
