use Rattle.std.proofs.Common.{rules}
use Rattle.wot_consumer.specs.Judgement.{output_schema}
use Rattle.wot_terms.specs.Schemas.{IsSchema}
use Rattle.wot_json.specs.Meaning.{json_of}
use Rattle.wot_consumer.proofs.ValidSchemas.{valid_output, seen_so}
use Rattle.wot_consumer.proofs.judgement.output_schema.Goals as goal

pub returns-in-Some-clause-faultless : goal.returns-in-Some-clause-faultless
returns-in-Some-clause-faultless c = seen_so IsSchema c.member.result (output_schema (json_of c.args.tree.now) c.args.name.now) (search rules) (valid_output (json_of c.args.tree.now) c.args.name.now c.requires)
