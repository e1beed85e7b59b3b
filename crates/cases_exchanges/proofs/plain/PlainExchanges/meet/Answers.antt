-- The table at the new moment judges.
use Rattle.std.proofs.Common.{subst}
use Rattle.coap_msg.specs.declared.message.RequestType.{RequestType}
use Rattle.coap_msg.specs.Requests.{request_type}
use Rattle.coap_exchange.specs.Admission.{Arrival}
use Rattle.coap_exchange.specs.Table.{Table, at_moment, Meets}
use Rattle.coap_exchange.proofs.SlotUses.{moment_after, awaited_after, kept_after}
use Rattle.cases_exchanges.proofs.plain.PlainExchanges.meet.Goals as goal

pub returns : goal.returns
returns c =
    let a : Arrival = record { moment = c.args.now; from = c.args.from; id = c.args.id; kind = request_type c.args.kind } in
    let P : Table → Type 0 = λ t. Meets t (record { moment = t.moment; from = c.args.from; id = c.args.id; kind = c.of.result }) c.judge.result c.judge.new.self in
    let Q : RequestType → Type 0 = λ kind.
    Meets (at_moment c.args.now c.args.self.now) (record { moment = c.args.now; from = c.args.from; id = c.args.id; kind = kind }) c.judge.result c.judge.new.self in
    let met : Meets (at_moment c.args.now c.args.self.now) a c.judge.result c.judge.new.self = subst Q c.of.ensures (subst P c.advance_to.ensures c.judge.ensures) in
    record {
      met = met;
      moment = moment_after (at_moment c.args.now c.args.self.now) a c.judge.result c.judge.new.self met;
      awaited = λ slot e. awaited_after (at_moment c.args.now c.args.self.now) a c.judge.result c.judge.new.self met slot e;
      kept = λ slot e. kept_after (at_moment c.args.now c.args.self.now) a c.judge.result c.judge.new.self met slot e;
    }
