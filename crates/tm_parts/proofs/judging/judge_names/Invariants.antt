use Rattle.std.proofs.Common.{◌≡◌, drop}
use Rattle.wot_json.specs.Tree.{members_of}
use Rattle.wot_json.specs.Meaning.{json_members}
use Rattle.tm_parts.specs.Substitution.{name_faults}
use Rattle.tm_parts.proofs.judging.judge_names.Given as goal

abbrev pub invariant-loop-name : goal.invariant-loop-name
invariant-loop-name l = name_faults (members_of (json_members (drop l.name-index l.members))) ≡ name_faults (members_of (json_members l.members))
