-- The first of the list of a kind is the oldest of the kind.
use Rattle.std.proofs.Common.{◌≡◌, ◌<◌, ◌∙◌, true, false, Some, None, length, sym, ap, subst, arith}
use Rattle.slot_lists.specs.Lists.{list_at, first_of}
use Rattle.coap_exchange.specs.Admission.{lives}
use Rattle.coap_exchange.specs.Slots.{arrival_of, entry_at, age_list}
use Rattle.coap_exchange.specs.Kept.{AllLive, FindsOver, IsOver, arrival_at}
use Rattle.coap_exchange.specs.declared.entry.Entry.{Entry}
use Rattle.coap_exchange.proofs.TableLaws.{entry_read}
use Rattle.coap_exchange.proofs.OverLaws.{none_over, first_lives, first_over}
use Rattle.coap_exchange.proofs.exchanges.Exchanges.oldest_over.Goals as goal

pub returns-in_err-slot : goal.returns-in_err-slot
returns-in_err-slot c =
    let none : first_of (list_at (age_list c.args.kind) c.self.inside.kinds) ≡ None
    = ap (λ n. first_of (list_at n c.self.inside.kinds)) (sym c.list_of.ensures) ∙ sym c.in_err-slot.ensures.first in
    subst (FindsOver c.args.now c.args.kind c.args.self.now) (sym c.from_residual.ensures)
    (subst (AllLive c.args.now c.args.kind) c.self.view_is (none_over c.self.inside c.self.invariant c.args.now c.args.kind none))

pub returns-then-lives : goal.returns-then-lives
returns-then-lives c =
    let first : first_of (list_at (age_list c.args.kind) c.self.inside.kinds) ≡ Some c.in_ok-slot.slot
    = ap (λ n. first_of (list_at n c.self.inside.kinds)) (sym c.list_of.ensures) ∙ sym c.in_ok-slot.ensures.first in
    let member : c.in_ok-slot.slot < c.self.inside.kinds.capacity = c.in_ok-slot.ensures.member.1 in
    let below : c.in_ok-slot.slot < length c.self.inside.entries.items = omega (arith, c.self.invariant.entries, c.self.invariant.kinds_capacity) in
    let read : c.index.result.now ≡ entry_at c.self.inside.entries.items c.in_ok-slot.slot
    = entry_read c.self.inside.entries.items c.in_ok-slot.slot c.index.result.now below c.index.ensures in
    let alive : lives c.args.now (arrival_at c.self.inside c.in_ok-slot.slot) ≡ true
    = ap (λ (e : Entry). lives c.args.now (arrival_of e)) (sym read) ∙ (sym c.lives.ensures ∙ c.if-lives.true) in
    subst (AllLive c.args.now c.args.kind) c.self.view_is (first_lives c.self.inside c.self.invariant c.args.now c.args.kind c.in_ok-slot.slot first alive)

pub returns-else-lives : goal.returns-else-lives
returns-else-lives c =
    let first : first_of (list_at (age_list c.args.kind) c.self.inside.kinds) ≡ Some c.in_ok-slot.slot
    = ap (λ n. first_of (list_at n c.self.inside.kinds)) (sym c.list_of.ensures) ∙ sym c.in_ok-slot.ensures.first in
    let member : c.in_ok-slot.slot < c.self.inside.kinds.capacity = c.in_ok-slot.ensures.member.1 in
    let below : c.in_ok-slot.slot < length c.self.inside.entries.items = omega (arith, c.self.invariant.entries, c.self.invariant.kinds_capacity) in
    let read : c.index.result.now ≡ entry_at c.self.inside.entries.items c.in_ok-slot.slot
    = entry_read c.self.inside.entries.items c.in_ok-slot.slot c.index.result.now below c.index.ensures in
    let dead : lives c.args.now (arrival_at c.self.inside c.in_ok-slot.slot) ≡ false
    = ap (λ (e : Entry). lives c.args.now (arrival_of e)) (sym read) ∙ (sym c.lives.ensures ∙ c.if-lives.false) in
    subst (IsOver c.args.now c.in_ok-slot.slot) c.self.view_is (first_over c.self.inside c.self.invariant c.args.now c.args.kind c.in_ok-slot.slot first dead)
