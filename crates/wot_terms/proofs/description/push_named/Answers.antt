use Rattle.std.proofs.Common.{ap, ◌∙◌}
use Rattle.wot_json.specs.Meaning.{json_of}
use Rattle.wot_terms.specs.Affordances.{affordance_of}
use Rattle.wot_terms.proofs.AffordanceLists.{named_more}
use Rattle.wot_terms.proofs.ValidParts.{schemas_left}
use Rattle.wot_terms.proofs.description.push_named.Goals as goal

pub described-requires : goal.described-requires
described-requires c =
    (schemas_left c.args.kind c.args.affordances.now c.loop-name.name-index c.loop-name-item.result c.loop-name-test.true c.loop-name-item.is c.loop-name.invariant.left).0

pub loop-name-preserved : goal.loop-name-preserved
loop-name-preserved c = record {
  listed =
      named_more c.args.kind c.args.list.now.items c.loop-name.list.items c.push.new.list.items c.in_ok-affordance.affordance c.args.affordances.now c.loop-name.name-index c.loop-name-item.result
      c.loop-name-test.true c.loop-name-item.is c.loop-name.invariant.listed
      (c.in_ok-affordance.ensures ∙ ap (λ n. affordance_of c.args.kind n (json_of c.loop-name-item.result.1)) c.as_str.ensures) c.in_ok-push.ensures;
  left = (schemas_left c.args.kind c.args.affordances.now c.loop-name.name-index c.loop-name-item.result c.loop-name-test.true c.loop-name-item.is c.loop-name.invariant.left).1;
}
