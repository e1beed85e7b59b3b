-- The slot is that of an entry, and the reply goes to its exchange alone.
use Rattle.std.proofs.Common.{◌≡◌, ◌<◌, ◌∙◌, List, length, map, set, Some, ap, arith}
use Rattle.cases_exchanges.specs.Plain.{table_of, exchange_of}
use Rattle.coap_exchange.specs.Table.{Exchange, Table, exchange_in, with_reply}
use Rattle.cases_exchanges.proofs.PlainLaws.{slot_is_place, keeps_reply}
use Rattle.cases_exchanges.proofs.plain.PlainExchanges.keep.Goals as goal

pub index_mut-requires : goal.index_mut-requires
index_mut-requires c =
    let e : Exchange = c.requires.slot.0 in
    let there : exchange_in c.args.slot (table_of c.self.inside) ≡ Some e = ap (exchange_in c.args.slot) c.self.view_is ∙ c.requires.slot.1 in
    let place : c.args.slot < length c.self.inside.replies.items = slot_is_place c.self.inside c.self.invariant c.args.slot e there in
    omega (arith, c.self.inside.replies.ok.0)

pub returns : goal.returns
returns c =
    let e : Exchange = c.requires.slot.0 in
    let there : exchange_in c.args.slot (table_of c.self.inside) ≡ Some e = ap (exchange_in c.args.slot) c.self.view_is ∙ c.requires.slot.1 in
    let place : c.args.slot < length c.self.inside.replies.items = slot_is_place c.self.inside c.self.invariant c.args.slot e there in
    let at : List Exchange → Table = λ es. record { capacity = c.self.inside.capacity; moment = c.self.inside.moment; exchanges = es } in
    let bytes : map (exchange_of (set c.self.inside.replies.items c.args.slot (Some c.of.result))) c.self.inside.entries.items
    ≡ map (exchange_of (set c.self.inside.replies.items c.args.slot (Some c.args.reply.now))) c.self.inside.entries.items
    = ap (λ r. map (exchange_of (set c.self.inside.replies.items c.args.slot (Some r))) c.self.inside.entries.items) c.of.ensures in
    ap at (bytes ∙ keeps_reply c.self.inside.replies.items c.args.slot c.args.reply.now place c.self.inside.entries.items)
    ∙ ap (with_reply c.args.slot c.args.reply.now) c.self.view_is
