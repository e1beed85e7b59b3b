-- The table at the new moment judges: it is a duplicate, or it is admitted, or there is no room.
use Rattle.std.proofs.Common.{◌≡◌, ℕ, refl, subst}
use Rattle.coap_msg.specs.declared.endpoint.Endpoint.{Endpoint}
use Rattle.coap_msg.specs.declared.message.RequestType.{RequestType}
use Rattle.coap_msg.specs.declared.message.Type4.{Type4}
use Rattle.coap_msg.specs.Requests.{request_type}
use Rattle.coap_exchange.specs.Admission.{Arrival}
use Rattle.coap_exchange.specs.Table.{Table, at_moment, Meets}
use Rattle.coap_exchange.specs.declared.met.Met.{Met}
use Rattle.coap_exchange.specs.declared.met.Met.TheVariants.{Fresh, Repeat, Full}
use Rattle.coap_exchange.proofs.SlotUses.{moment_after, awaited_after, kept_after}
use Rattle.coap_exchange.proofs.exchanges.Exchanges.meet.Goals as goal

-- a request that came now
abbrev now_of : Endpoint → ℕ → RequestType → Table → Arrival
now_of from id kind t = record { moment = t.moment; from = from; id = id; kind = kind }

met_anew : (now : ℕ) (from : Endpoint) (id : ℕ) (sent : Type4) (kind : RequestType) (s t u : Table) (met : Met) → t ≡ at_moment now s → kind ≡ request_type sent
    → Meets t (now_of from id kind t) met u → Meets (at_moment now s) (record { moment = now; from = from; id = id; kind = request_type sent }) met u
met_anew now from id sent kind s t u met later of_type h =
    subst (λ (k : RequestType). Meets (at_moment now s) (record { moment = now; from = from; id = id; kind = k }) met u) of_type
    (subst (λ (w : Table). Meets w (now_of from id kind w) met u) later h)

pub returns-in-Some : goal.returns-in-Some
returns-in-Some c =
    let a : Arrival = record { moment = c.args.now; from = c.args.from; id = c.args.id; kind = request_type c.args.kind } in
    let met : Meets (at_moment c.args.now c.args.self.now) a (Repeat c.in-Some.kept) c.advance_to.new.self
    = met_anew c.args.now c.args.from c.args.id c.args.kind c.of-kind.result c.args.self.now c.advance_to.new.self c.advance_to.new.self (Repeat c.in-Some.kept) c.advance_to.ensures c.of-kind.ensures
    (c.in-Some.ensures c.of-kind.result, refl) in
    record {
      met = met;
      moment = moment_after (at_moment c.args.now c.args.self.now) a (Repeat c.in-Some.kept) c.advance_to.new.self met;
      awaited = λ slot e. awaited_after (at_moment c.args.now c.args.self.now) a (Repeat c.in-Some.kept) c.advance_to.new.self met slot e;
      kept = λ slot e. kept_after (at_moment c.args.now c.args.self.now) a (Repeat c.in-Some.kept) c.advance_to.new.self met slot e;
    }

pub returns-in-Some-admit : goal.returns-in-Some-admit
returns-in-Some-admit c =
    let a : Arrival = record { moment = c.args.now; from = c.args.from; id = c.args.id; kind = request_type c.args.kind } in
    let met : Meets (at_moment c.args.now c.args.self.now) a (Fresh c.in-Some-admit.slot) c.admit.new.self
    = met_anew c.args.now c.args.from c.args.id c.args.kind c.of-kind.result c.args.self.now c.advance_to.new.self c.admit.new.self (Fresh c.in-Some-admit.slot) c.advance_to.ensures c.of-kind.ensures
    (c.in_default.ensures c.of-kind.result, c.in-Some-admit.ensures) in
    record {
      met = met;
      moment = moment_after (at_moment c.args.now c.args.self.now) a (Fresh c.in-Some-admit.slot) c.admit.new.self met;
      awaited = λ slot e. awaited_after (at_moment c.args.now c.args.self.now) a (Fresh c.in-Some-admit.slot) c.admit.new.self met slot e;
      kept = λ slot e. kept_after (at_moment c.args.now c.args.self.now) a (Fresh c.in-Some-admit.slot) c.admit.new.self met slot e;
    }

pub returns-in-None : goal.returns-in-None
returns-in-None c =
    let a : Arrival = record { moment = c.args.now; from = c.args.from; id = c.args.id; kind = request_type c.args.kind } in
    let met : Meets (at_moment c.args.now c.args.self.now) a Full c.admit.new.self
    = met_anew c.args.now c.args.from c.args.id c.args.kind c.of-kind.result c.args.self.now c.advance_to.new.self c.admit.new.self Full c.advance_to.ensures c.of-kind.ensures
    (c.in_default.ensures c.of-kind.result, c.in-None.ensures) in
    record {
      met = met;
      moment = moment_after (at_moment c.args.now c.args.self.now) a Full c.admit.new.self met;
      awaited = λ slot e. awaited_after (at_moment c.args.now c.args.self.now) a Full c.admit.new.self met slot e;
      kept = λ slot e. kept_after (at_moment c.args.now c.args.self.now) a Full c.admit.new.self met slot e;
    }
