use Rattle.std.proofs.Common.{ℕ, Bool, ◌∙◌, length, take, refl, ap}
use Rattle.std.proofs.lemmas.Result.{on_ok_weaker}
use Rattle.coap_client.specs.Asking.{asking_of, MayAsk}
use Rattle.coap_client.specs.Exchange.{is_registration}
use Rattle.servient_ends.specs.Ends.{asks_next}
use Rattle.servient_rehearsal.specs.Noted.{noted_of, with_ask, number_after}
use Rattle.servient_rehearsal.proofs.ClientLaws.{asked_turn, refused_turn, skipped_turn}
use Rattle.servient_rehearsal.proofs.PlayLaws.{client_played, client_plays, client_plays_at_most}
use Rattle.servient_rehearsal.proofs.asking.ask_servient.Goals as goal

pub returns-then-not-may_ask-clause-ok : goal.returns-then-not-may_ask-clause-ok
returns-then-not-may_ask-clause-ok c =
    let may_not : ¬ (MayAsk (asking_of c.args.ask.now)) = λ may. absurd (let wrong = c.if-not-may_ask.ensures.1 may in cc) in
    client_played (asks_next (asking_of c.args.ask.now)) c.args.client.now c.args.client.now c.args.notes.now c.args.notes.now (noted_of c.args.notes.now.world) c.args.notes.now.registered
    (λ site s slots. skipped_turn site s slots (asking_of c.args.ask.now) c.args.client.now c.args.notes.now may_not) refl refl

pub request-requires-clause-ask : goal.request-requires-clause-ask
request-requires-clause-ask c = c.if-not-may_ask.ensures.0 refl

pub returns-in-Ok-clause-ok : goal.returns-in-Ok-clause-ok
returns-in-Ok-clause-ok c =
    client_plays c.asked.result (asks_next (asking_of c.args.ask.now)) c.args.client.now c.request.new.self c.args.notes.now c.asked.new.self
    (with_ask (take c.in-Ok.size c.request.new.out) (noted_of c.args.notes.now.world))
    (number_after (is_registration c.args.ask.now.observe) (length c.args.notes.now.world.asks.items) c.args.notes.now.registered)
    (λ site s slots. asked_turn site s slots (asking_of c.args.ask.now) c.args.client.now c.request.new.self c.args.notes.now c.in-Ok.size _ c.request.new.out
    (c.if-not-may_ask.ensures.0 refl) c.in-Ok.ensures.ok)
    c.asked.ensures.noted
    (on_ok_weaker c.asked.result
    (λ e. e ∙ ap (λ (b : Bool). number_after b (length c.args.notes.now.world.asks.items) c.args.notes.now.registered) c.registers.ensures)
    c.asked.ensures.registered)

pub returns-in-Ok-clause-fault : goal.returns-in-Ok-clause-fault
returns-in-Ok-clause-fault c =
    client_plays_at_most c.asked.result (asks_next (asking_of c.args.ask.now)) c.args.client.now c.request.new.self c.args.notes.now
    (with_ask (take c.in-Ok.size c.request.new.out) (noted_of c.args.notes.now.world))
    (number_after (is_registration c.args.ask.now.observe) (length c.args.notes.now.world.asks.items) c.args.notes.now.registered)
    (λ site s slots. asked_turn site s slots (asking_of c.args.ask.now) c.args.client.now c.request.new.self c.args.notes.now c.in-Ok.size _ c.request.new.out
    (c.if-not-may_ask.ensures.0 refl) c.in-Ok.ensures.ok)

pub returns-in-Err-clause-ok : goal.returns-in-Err-clause-ok
returns-in-Err-clause-ok c =
    client_played (asks_next (asking_of c.args.ask.now)) c.args.client.now c.request.new.self c.args.notes.now c.args.notes.now (noted_of c.args.notes.now.world) c.args.notes.now.registered
    (λ site s slots. refused_turn site s slots (asking_of c.args.ask.now) c.args.client.now c.request.new.self c.args.notes.now c.in-Err.field-0 c.in-Err.ensures.fault c.in-Err.ensures.unchanged.0) refl refl
