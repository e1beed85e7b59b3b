use Rattle.std.proofs.Common.{◌∙◌, sym, ap}
use Rattle.wot_json.specs.Meaning.{json_members}
use Rattle.wot_json.proofs.EqualTrees.{listed_members_lem}
use Rattle.wot_json.proofs.patch.members_of_target.Goals as goal

pub returns-in-Obj-clause-members : goal.returns-in-Obj-clause-members
returns-in-Obj-clause-members c =
    rw c.in-Obj.is (ap json_members c.as_slice.ensures.value ∙ c.members.view_is ∙ sym (listed_members_lem c.in-Obj.members))
