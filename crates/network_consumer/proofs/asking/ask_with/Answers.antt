use Rattle.std.proofs.Common.{ℕ, List, Option, refl, ap}
use Rattle.wot_consumer.specs.Messages.{request_bytes}
use Rattle.network_consumer.proofs.AskingLaws.{asked_by_http, asked_by_coap}
use Rattle.network_consumer.proofs.asking.ask_with.Goals as goal

pub returns-in-Http : goal.returns-in-Http
returns-in-Http g c = asked_by_http _ _ _ _ _ _ _ _ _ c.in-Http.is (ap (λ (b : Option (List ℕ)). request_bytes c.args.task.now.chosen.now b) c.slice_of.ensures) c.ask_by_http.ensures

pub returns-in-Coap : goal.returns-in-Coap
returns-in-Coap g c = asked_by_coap _ _ _ _ _ _ _ _ c.in-Coap.is c.ask_by_coap.ensures
