use Rattle.std.proofs.Common.{◌↔◌, drop}
use Rattle.wot_json.specs.Tree.{members_of}
use Rattle.wot_schema.specs.Rules.{HasAll}
use Rattle.wot_schema.proofs.rules.has_all.Given as goal

abbrev pub invariant-loop-name : goal.invariant-loop-name
invariant-loop-name l = HasAll (members_of l.members) l.names ↔ HasAll (members_of l.members) (drop l.name-index l.names)
