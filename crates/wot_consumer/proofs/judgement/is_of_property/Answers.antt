use Rattle.std.proofs.Common.{◌↔◌, IfOk, IsTrue, option_map, subst, sym}
use Rattle.wot_json.specs.Meaning.{json_of}
use Rattle.wot_consumer.specs.Judgement.{IsAcceptedBy, IsThere, property_schema}
use Rattle.wot_consumer.proofs.judgement.is_of_property.Goals as goal

pub returns-in-Some : goal.returns-in-Some
returns-in-Some c =
    subst (λ o. IfOk c.is_accepted_by.result (λ b. IsTrue b ↔ IsThere (IsAcceptedBy (property_schema (json_of c.args.tree.now) c.args.name.now)) (option_map (λ v. json_of v.now) o))) (sym c.in-Some.is)
    (subst (λ s. IfOk c.is_accepted_by.result (λ b. IsTrue b ↔ IsAcceptedBy s (json_of c.in-Some.value.now))) c.property_schema.ensures.schema c.is_accepted_by.ensures)
