-- Each turn gives up one that is over.
use Rattle.std.proofs.Common.{◌≡◌, ◌<◌, ◌==◌, ◌∙◌, not, true, length, sym, ap, subst, refl}
use Rattle.std.proofs.lemmas.List.Elements.{All-filter}
use Rattle.coap_exchange.specs.Admission.{lives}
use Rattle.coap_exchange.specs.Kept.{AllLive, IsOver}
use Rattle.coap_exchange.specs.Table.{Exchange, Table, at_moment}
use Rattle.coap_exchange.proofs.OverLaws.{shorter_without}
use Rattle.coap_exchange.proofs.exchanges.Exchanges.give_up_over.Goals as goal

pub loop-slot-init : goal.loop-slot-init
loop-slot-init c = record { same = refl; moment = refl; others = λ other h. h }

pub loop-slot-smaller : goal.loop-slot-smaller
loop-slot-smaller c =
    let over : IsOver c.args.now c.in-Some.slot c.loop-slot.self = c.in-Some.ensures in
    subst (λ (t : Table). length t.exchanges < length c.loop-slot.self.exchanges) (sym c.give_up.ensures)
    (shorter_without (λ (e : Exchange). e.slot == c.in-Some.slot) c.loop-slot.self.exchanges over.exchange over.there)

pub loop-slot-preserved : goal.loop-slot-preserved
loop-slot-preserved c =
    let over : IsOver c.args.now c.in-Some.slot c.loop-slot.self = c.in-Some.ensures in
    record {
      same = ap (at_moment c.args.now) c.give_up.ensures ∙ (over.over ∙ c.loop-slot.invariant.same);
      moment = ap (λ (t : Table). t.moment) c.give_up.ensures ∙ c.loop-slot.invariant.moment;
      others = λ other h. subst (AllLive c.args.now other) (sym c.give_up.ensures)
          (All-filter (λ (e : Exchange). not (e.slot == c.in-Some.slot)) (λ (e : Exchange). e.arrival.kind ≡ other → lives c.args.now e.arrival ≡ true)
          c.loop-slot.self.exchanges (c.loop-slot.invariant.others other h));
    }
