-- The answer has its effect on the observers, and a body is kept; nothing else changed.
use Rattle.std.proofs.Common.{◌≤◌, ◌∙◌, ℕ, List, length, refl, ap, sym, subst}
use Rattle.coap_msg.specs.declared.constants.TheConstants.{LONGEST_MESSAGE}
use Rattle.coap_msg.specs.Grammar.{spelling}
use Rattle.coap_bind.specs.declared.observing.Effect.{Effect}
use Rattle.coap_bind.specs.declared.pending.PendingReply.{PendingReply}
use Rattle.coap_bind.specs.declared.server.Server.{Server}
use Rattle.coap_bind.specs.Blocks.{answer_reply, bodies_after}
use Rattle.coap_bind.specs.Observing.{Watches}
use Rattle.coap_bind.specs.Telling.{AnswersAs, HasRoom}
use Rattle.coap_bind.specs.Writing.{Reply, observed, head_in, coap_reply}
use Rattle.coap_bind.specs.Server.{Replies, with_bodies, with_id_used, with_kept}
use Rattle.coap_bind.proofs.bind.CoapBind.answer.Goals as goal

pub put_outcome-size-requires-clause-room : goal.put_outcome-size-requires-clause-room
put_outcome-size-requires-clause-room c =
    let p : PendingReply = c.ticket.inside.pending in
    let s : Server = c.self.inside.server in
    let P : PendingReply → Type 0 = λ a. HasRoom a c.args.outcome.now c.args.target s in
    let Q : Server → Type 0 = λ u. HasRoom c.args.ticket c.args.outcome.now c.args.target u in
    let room = subst P (sym c.ticket.view_is) (subst Q (sym c.self.view_is) c.requires.room) in
    let W : Effect → Type 0 = λ e. Watches e p.from p.token s.observers c.watch-observe.result c.watch-observe.new.self.observers in
    let F : Server → Type 0 = λ u. length (spelling (coap_reply (observed c.watch-observe.result (answer_reply p.blocks c.args.outcome.now)) (head_in p) u.next_id)) ≤ LONGEST_MESSAGE in
    subst F (sym (c.keep_body.ensures ∙ ap (λ (u : Server). with_bodies (bodies_after p.blocks p.from c.args.outcome.now u.bodies) u) c.watch-observe.ensures.same))
    (room c.watch-observe.result c.watch-observe.new.self.observers (subst W c.effect_of-effect.ensures c.watch-observe.ensures.watches))

pub returns-clause-ok : goal.returns-clause-ok
returns-clause-ok c =
    let p : PendingReply = c.ticket.inside.pending in
    let s : Server = c.self.inside.server in
    let W : Effect → Type 0 = λ e. Watches e p.from p.token s.observers c.watch-observe.result c.watch-observe.new.self.observers in
    let r : Reply = observed c.watch-observe.result (answer_reply p.blocks c.args.outcome.now) in
    let u : Server = c.keep_body.new.self in
    let b : List ℕ = spelling (coap_reply r (head_in p) u.next_id) in
    let R : Server → Type 0 = λ x. Replies r (head_in p) p.slot b x c.note_sent.new.self in
    let sent : Replies r (head_in p) p.slot b u c.note_sent.new.self = record {
      bytes_are = refl;
      after = c.note_sent.ensures ∙ ap (λ (x : List ℕ). with_kept p.kind p.slot x (with_id_used p.kind u)) c.put_outcome-size.ensures.front;
    } in
    let P : PendingReply → Type 0 = λ a. AnswersAs a c.args.outcome.now c.args.target c.put_outcome-size.result c.args.out.now c.put_outcome-size.new.out s c.note_sent.new.self in
    let Q : Server → Type 0 = λ x. AnswersAs c.args.ticket c.args.outcome.now c.args.target c.put_outcome-size.result c.args.out.now c.put_outcome-size.new.out x c.note_sent.new.self in
    subst Q c.self.view_is (subst P c.ticket.view_is (record {
      bytes = b;
      answers = record {
        observe = c.watch-observe.result;
        observers = c.watch-observe.new.self.observers;
        watches = subst W c.effect_of-effect.ensures c.watch-observe.ensures.watches;
        replies = subst R (c.keep_body.ensures ∙ ap (λ (x : Server). with_bodies (bodies_after p.blocks p.from c.args.outcome.now x.bodies) x) c.watch-observe.ensures.same) sent;
      };
      written = c.put_outcome-size.ensures;
    }))
