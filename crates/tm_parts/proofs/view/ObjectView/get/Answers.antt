use Rattle.std.specs.Prelude.{Some, None}
use Rattle.wot_json.specs.Meaning.{json_of}
use Rattle.tm_parts.specs.Views.{values_in}
use Rattle.tm_parts.proofs.Seen.{listed_member_seen}
use Rattle.tm_parts.proofs.view.ObjectView.get.Goals as goal

pub returns-in-Some : goal.returns-in-Some
returns-in-Some c =
    listed_member_seen c.args.name.now c.args.self.members.now (values_in c.args.self.values) (Some (json_of c.in-Some.tree.now)) c.in-Some.ensures

pub returns-in-None : goal.returns-in-None
returns-in-None c =
    listed_member_seen c.args.name.now c.args.self.members.now (values_in c.args.self.values) None c.in-None.ensures
