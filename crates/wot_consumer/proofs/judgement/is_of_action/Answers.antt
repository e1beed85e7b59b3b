use Rattle.std.proofs.Common.{◌↔◌, IfOk, IfSome, IsTrue, option_map, subst, sym}
use Rattle.wot_json.specs.Meaning.{json_of}
use Rattle.wot_consumer.specs.Judgement.{IsAcceptedBy, output_schema}
use Rattle.wot_consumer.proofs.judgement.is_of_action.Goals as goal

pub returns-in-Some : goal.returns-in-Some
returns-in-Some c =
    subst (λ o. IfOk c.is_accepted_by.result (λ b. IsTrue b ↔ IfSome (option_map (λ v. json_of v.now) o) (IsAcceptedBy (output_schema (json_of c.args.tree.now) c.args.name.now)))) (sym c.in-Some.is)
    (subst (λ s. IfOk c.is_accepted_by.result (λ b. IsTrue b ↔ IsAcceptedBy s (json_of c.in-Some.value.now))) c.output_schema.ensures.schema c.is_accepted_by.ensures)
