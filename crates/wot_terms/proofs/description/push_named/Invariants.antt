use Rattle.std.proofs.Common.{◌≡◌, ◌++◌, take, drop}
use Rattle.wot_json.specs.Tree.{members_of}
use Rattle.wot_json.specs.Meaning.{json_members}
use Rattle.wot_terms.specs.Schemas.{HaveSchemas}
use Rattle.wot_terms.specs.Affordances.{named_affordances}
use Rattle.wot_terms.proofs.description.push_named.Given as goal

abbrev pub invariant-loop-name : goal.invariant-loop-name
invariant-loop-name l = record {
  listed : l.list.items ≡ l.initial.list.items ++ named_affordances l.kind (members_of (json_members (take l.name-index l.affordances)));
  left : HaveSchemas l.kind (members_of (json_members (drop l.name-index l.affordances)));
}
