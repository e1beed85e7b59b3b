-- The reply in the slot's place is that of the exchange in the slot.
use Rattle.std.proofs.Common.{◌≡◌, ◌<◌, ◌∙◌, sym, length, get_or, Some, None, ap, arith}
use Rattle.cases_exchanges.specs.Plain.{table_of}
use Rattle.coap_exchange.specs.Table.{Exchange, exchange_in}
use Rattle.coap_exchange.proofs.ListLaws.{read_within}
use Rattle.cases_exchanges.proofs.PlainLaws.{slot_is_place, reply_in_place}
use Rattle.cases_exchanges.proofs.plain.PlainExchanges.reply.Goals as goal

pub index-requires : goal.index-requires
index-requires c =
    let e : Exchange = c.requires.1.0 in
    let there : exchange_in c.args.slot (table_of c.self.inside) ≡ Some e = ap (exchange_in c.args.slot) c.self.view_is ∙ c.requires.1.1 in
    let place : c.args.slot < length c.self.inside.replies.items = slot_is_place c.self.inside c.self.invariant c.args.slot e there in
    omega (arith, c.self.inside.replies.ok.0)

pub returns-in-Some-clause-ok : goal.returns-in-Some-clause-ok
returns-in-Some-clause-ok c =
    let e : Exchange = c.requires.1.0 in
    let there : exchange_in c.args.slot (table_of c.self.inside) ≡ Some e = ap (exchange_in c.args.slot) c.self.view_is ∙ c.requires.1.1 in
    let place : c.args.slot < length c.self.inside.replies.items = slot_is_place c.self.inside c.self.invariant c.args.slot e there in
    let is : e.reply ≡ get_or c.self.inside.replies.items c.args.slot None = reply_in_place c.self.inside c.args.slot e there in
    let same : get_or c.self.inside.replies.items c.args.slot None ≡ get_or c.self.inside.replies.items c.args.slot c.index.result.now
    = read_within c.self.inside.replies.items c.args.slot None c.index.result.now place in
    let read : e.reply ≡ c.index.result.now = is ∙ (same ∙ sym c.index.ensures) in
    (e, c.requires.1.1, read ∙ (c.in-Some.is ∙ ap (λ b. Some b) (sym c.as_bytes.ensures.ok)))

pub returns-in-None-clause-ok : goal.returns-in-None-clause-ok
returns-in-None-clause-ok c =
    let e : Exchange = c.requires.1.0 in
    let there : exchange_in c.args.slot (table_of c.self.inside) ≡ Some e = ap (exchange_in c.args.slot) c.self.view_is ∙ c.requires.1.1 in
    let place : c.args.slot < length c.self.inside.replies.items = slot_is_place c.self.inside c.self.invariant c.args.slot e there in
    let is : e.reply ≡ get_or c.self.inside.replies.items c.args.slot None = reply_in_place c.self.inside c.args.slot e there in
    let same : get_or c.self.inside.replies.items c.args.slot None ≡ get_or c.self.inside.replies.items c.args.slot c.index.result.now
    = read_within c.self.inside.replies.items c.args.slot None c.index.result.now place in
    let read : e.reply ≡ None = is ∙ (same ∙ (sym c.index.ensures ∙ c.in-None.is)) in
    let kept : e.reply ≡ Some c.requires.0 = c.requires.1.2 in
    cc
