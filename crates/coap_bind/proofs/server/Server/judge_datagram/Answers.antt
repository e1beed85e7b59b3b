-- Each way out is a rule.
use Rattle.std.proofs.Common.{◌≡◌, ◌∙◌, sym, subst, refl, Some}
use Rattle.coap_msg.specs.MessageOf.{message_of}
use Rattle.coap_msg.specs.declared.message.RequestType.{RequestType}
use Rattle.coap_msg.specs.Requests.{request_type}
use Rattle.coap_exchange.specs.Table.{Table, exchange_in}
use Rattle.coap_bind.specs.declared.server.Server.{Server}
use Rattle.coap_bind.specs.Server.{duplicate_reply, malformed, no_request, duplicate, full}
use Rattle.coap_bind.specs.Settling.{TellsDone}
use Rattle.coap_bind.proofs.TellingLaws.{tells_reply}
use Rattle.coap_bind.proofs.server.Server.judge_datagram.Goals as goal

pub returns-in-Err : goal.returns-in-Err
returns-in-Err c = (_, malformed _ c.in-Err.ensures.fault refl refl, tells_reply _ _ _ _ c.put_rejection.ensures)

pub returns-then-not-is_request : goal.returns-then-not-is_request
returns-then-not-is_request c = (
  _,
  no_request (message_of c.in-Ok.message) c.in-Ok.ensures.ok (sym c.is_request.ensures ∙ c.if-not-is_request.true) refl c.report.ensures,
  tells_reply _ _ _ _ c.put_empty_reply.ensures,
)

pub returns-in-Repeat : goal.returns-in-Repeat
returns-in-Repeat c =
    let met = c.in-Repeat.ensures.met in
    let there : exchange_in met.0.0.slot c.meet.new.self ≡ Some met.0.0
    = subst (λ (w : Table). exchange_in met.0.0.slot w ≡ Some met.0.0) (sym met.1) met.0.2 in
    let R : RequestType → Type 0 = λ kind. TellsDone (duplicate_reply kind met.0.0.reply) c.answer_duplicate.result c.args.out.now c.answer_duplicate.new.out in (
      duplicate_reply (request_type c.in-Ok.message.kind) met.0.0.reply,
      duplicate (message_of c.in-Ok.message) c.in-Repeat.kept met.0.0
          (record { spells = c.in-Ok.ensures.ok; request = sym c.is_request.ensures ∙ c.if-not-is_request.false; meets = met; same_observers = refl; same_id = refl; same_bodies = refl; same_parts = refl; same_links = refl })
          met.0.1 refl,
      subst R c.of-kind.ensures (c.answer_duplicate.ensures met.0.0 there met.0.3),
    )

pub returns-in-Full : goal.returns-in-Full
returns-in-Full c =
    let u : Server = record { exchanges = c.meet.new.self; observers = c.args.self.now.observers; next_id = c.args.self.now.next_id; bodies = c.args.self.now.bodies; parts = c.args.self.now.parts; links = c.args.self.now.links } in (
      _,
      full (message_of c.in-Ok.message) u
          (record { spells = c.in-Ok.ensures.ok; request = sym c.is_request.ensures ∙ c.if-not-is_request.false; meets = c.in-Full.ensures.met; same_observers = refl; same_id = refl; same_bodies = refl; same_parts = refl; same_links = refl })
          refl c.refuse_full.ensures.after,
      c.refuse_full.ensures.bytes,
    )
