use Rattle.wot_json.proofs.MergeMembers.{merge_by_members, merge_formed}
use Rattle.wot_json.proofs.laws.merge_goes_by_members.Goals as goal

pub returns-clause-members : goal.returns-clause-members
returns-clause-members c = λ target changes name formed. merge_by_members target changes name formed

pub returns-clause-formed : goal.returns-clause-formed
returns-clause-formed c = λ target patch formed changes_formed. merge_formed patch target formed changes_formed
