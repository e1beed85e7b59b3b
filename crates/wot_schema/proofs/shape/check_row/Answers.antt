use Rattle.wot_json.specs.Tree.{members_of}
use Rattle.wot_json.specs.Meaning.{json_of}
use Rattle.wot_schema.specs.Checks.{judge_of}
use Rattle.wot_schema.proofs.FirstFaults.{member_there}
use Rattle.wot_schema.proofs.shape.check_row.Goals as goal

pub returns-in-Some : goal.returns-in-Some
returns-in-Some c =
    member_there c.args.name.now (judge_of c.args.name.now c.args.shape) (members_of c.args.members.now) (json_of c.in-Some.value.now) c.in_member.result (rw c.in-Some.is at c.value_under.ensures)
    (c.in_member.ensures (judge_of c.args.name.now c.args.shape (json_of c.in-Some.value.now)) c.check.ensures)
