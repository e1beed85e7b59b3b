use Rattle.std.proofs.Common.{◌↔◌, drop}
use Rattle.wot_json.specs.Tree.{members_of}
use Rattle.wot_json.specs.Meaning.{json_of, json_members}
use Rattle.wot_consumer.specs.Judgement.{AreProperties}
use Rattle.wot_consumer.proofs.judgement.are_properties.Given as goal

abbrev pub invariant-loop-name : goal.invariant-loop-name
invariant-loop-name l = AreProperties (json_of l.tree) (members_of (json_members (drop l.name-index l.members))) ↔ AreProperties (json_of l.tree) (members_of (json_members l.members))
