-- Once those that are over are given up, all live.
use Rattle.std.proofs.Common.{◌≡◌, ◌∙◌, ℕ, sym, ap, subst, arith}
use Rattle.coap_msg.specs.declared.message.RequestType.{RequestType}
use Rattle.coap_msg.specs.declared.message.RequestType.TheVariants.{Confirmable, NonConfirmable}
use Rattle.coap_exchange.specs.Kept.{AllLive}
use Rattle.coap_exchange.specs.Table.{Table, at_moment}
use Rattle.coap_exchange.proofs.OverLaws.{kept_later, seen_later}
use Rattle.coap_exchange.proofs.exchanges.Exchanges.advance_to.Goals as goal

both : (now : ℕ) (t : Table) → AllLive now Confirmable t → AllLive now NonConfirmable t → (kind : RequestType) → AllLive now kind t
both now t a b Confirmable = a
both now t a b NonConfirmable = b

pub invariant_of-self : goal.invariant_of-self
invariant_of-self c =
    let live : (kind : RequestType) → AllLive c.args.now kind c.give_up_over-2.new.self
    = both c.args.now c.give_up_over-2.new.self (c.give_up_over-2.ensures.others Confirmable c.give_up_over.ensures.live) c.give_up_over-2.ensures.live in
    let moment : c.self.inside.moment ≡ c.args.self.now.moment
    = ap (λ (t : Table). t.moment) c.self.view_is ∙ (c.give_up_over-2.ensures.moment ∙ c.give_up_over.ensures.moment) in
    kept_later c.self.inside c.args.now c.self.invariant (omega arith) (λ kind. subst (AllLive c.args.now kind) (sym c.self.view_is) (live kind))

pub returns : goal.returns
returns c =
    let live : (kind : RequestType) → AllLive c.args.now kind c.give_up_over-2.new.self
    = both c.args.now c.give_up_over-2.new.self (c.give_up_over-2.ensures.others Confirmable c.give_up_over.ensures.live) c.give_up_over-2.ensures.live in
    seen_later c.self.inside c.args.now (λ kind. subst (AllLive c.args.now kind) (sym c.self.view_is) (live kind))
    ∙ (ap (at_moment c.args.now) c.self.view_is ∙ (c.give_up_over-2.ensures.same ∙ c.give_up_over.ensures.same))
