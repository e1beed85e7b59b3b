use Rattle.std.proofs.Common.{◌↔◌, IfOk, IsTrue, option_map, subst, sym}
use Rattle.wot_json.specs.Meaning.{json_of}
use Rattle.wot_consumer.specs.Judgement.{IsAcceptedBy}
use Rattle.wot_consumer.proofs.judgement.is_accepted_by.Goals as goal

pub returns-in-Some : goal.returns-in-Some
returns-in-Some c =
    subst (λ o. IfOk c.accepts.result (λ b. IsTrue b ↔ IsAcceptedBy (option_map (λ t. json_of t.now) o) (json_of c.args.value.now))) (sym c.in-Some.is) c.accepts.ensures
