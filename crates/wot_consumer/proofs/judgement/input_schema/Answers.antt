use Rattle.std.proofs.Common.{rules}
use Rattle.wot_consumer.specs.Judgement.{input_schema}
use Rattle.wot_terms.specs.Schemas.{IsSchema}
use Rattle.wot_json.specs.Meaning.{json_of}
use Rattle.wot_consumer.proofs.ValidSchemas.{valid_input, seen_so}
use Rattle.wot_consumer.proofs.judgement.input_schema.Goals as goal

pub returns-in-Some-clause-faultless : goal.returns-in-Some-clause-faultless
returns-in-Some-clause-faultless c = seen_so IsSchema c.member.result (input_schema (json_of c.args.tree.now) c.args.name.now) (search rules) (valid_input (json_of c.args.tree.now) c.args.name.now c.requires)
