use Rattle.wot_terms.specs.Schemas.{IsSchema}
use Rattle.wot_json.specs.Meaning.{json_of}
use Rattle.wot_consumer.proofs.ValidSchemas.{valid_property, seen_so}
use Rattle.wot_consumer.proofs.judgement.property_schema.Goals as goal

pub returns-clause-faultless : goal.returns-clause-faultless
returns-clause-faultless c = seen_so IsSchema c.affordance.result _ c.affordance.ensures (valid_property (json_of c.args.tree.now) c.args.name.now c.requires)
