use Rattle.std.proofs.Common.{◌↔◌, ◌∙◌, IfOk, IsTrue, Some, option_map, subst, sym, ap}
use Rattle.wot_json.specs.Meaning.{json_of}
use Rattle.wot_consumer.specs.Judgement.{IsInputOf, schema_in}
use Rattle.wot_consumer.proofs.judgement.judge_input.Goals as goal

pub returns-in-Some-Some : goal.returns-in-Some-Some
returns-in-Some-Some c =
    let stands = ap (option_map (λ t. json_of t.now)) (sym c.in-Some-Some.is-0) ∙ c.schema_in-schema.ensures.schema in
    subst (λ o. IfOk c.accepts.result (λ b. IsTrue b ↔ IsInputOf (schema_in (json_of c.args.tree.now) c.args.op c.args.name.now) (option_map (λ v. json_of v.now) o))) (sym c.in-Some-Some.is-1)
    (subst (λ s. IfOk c.accepts.result (λ b. IsTrue b ↔ IsInputOf s (option_map (λ v. json_of v.now) (Some c.in-Some-Some.value)))) stands c.accepts.ensures)
