use Rattle.std.proofs.Common.{◌≡◌, drop}
use Rattle.wot_json.specs.Tree.{members_of}
use Rattle.wot_json.specs.Meaning.{json_members}
use Rattle.wot_terms.specs.Faults.{each_member}
use Rattle.wot_terms.specs.Rows.{entry_judge}
use Rattle.wot_terms.proofs.entries.each_member.Given as goal

abbrev pub invariant-loop-name : goal.invariant-loop-name
invariant-loop-name l = each_member (entry_judge l.entry) (members_of (json_members l.members)) ≡ each_member (entry_judge l.entry) (members_of (json_members (drop l.name-index l.members)))
