use Rattle.std.proofs.Common.{◌≡◌, ◌++◌, drop}
use Rattle.wot_json.specs.Tree.{AreOrdered}
use Rattle.wot_json.specs.Meaning.{json_members}
use Rattle.tm_derive.specs.Dropping.{dropped_members}
use Rattle.tm_derive.specs.Selected.{is_out}
use Rattle.tm_derive.proofs.dropping.dropped_members.Given as goal

-- the members that were made, and those that the members left will give
abbrev pub invariant-loop-name : goal.invariant-loop-name
invariant-loop-name l = record {
  made : l.dropped ++ dropped_members (is_out l.selection) l.holder (json_members (drop l.name-index l.list)) ≡ dropped_members (is_out l.selection) l.holder (json_members l.list);
  order : AreOrdered (l.dropped ++ json_members (drop l.name-index l.list));
}
