-- The end of each event: notifications, requests that waited too long, idle connections.
use Rattle.std.proofs.Common.{◌≡◌, ℕ, List, [], ◌∷◌, refl, sym, ap, subst, ◌∙◌, arith}
use Rattle.std.specs.Prelude.{Some, None}
use Rattle.servient_base.specs.Moves.{Passing, Then, Until, Refines}
use Rattle.thing_handler.specs.Handler.{Seen}
use Rattle.thing_state.specs.State.{State as ThingState}
use Rattle.coap_exchange.specs.Table.{Table}
use Rattle.coap_observe.specs.declared.notice.Notice.{Notice}
use Rattle.coap_bind.specs.declared.server.Server.{Server}
use Rattle.coap_bind.specs.Server.{SendsNext}
use Rattle.http_bind.specs.Slots.{Slots}
use Rattle.servient_outside.specs.declared.net.Act.TheVariants as act
use Rattle.servient_outside.specs.Network.{NetSeen, NetShows, did}
use Rattle.servient_trace.specs.Trace.{outside, Shows}
use Rattle.servient_core.specs.Machine.{OnCoap, Does, SendsNotification, NothingIsDue, SendsNotifications, EndsEvent, notification_bytes}
use Rattle.servient_core.specs.Serving.{StandsFor, IsReady}
use Rattle.servient_core.specs.Keeping.{DoesQuietly, LeavesNoMore, AnswersLateWaits, ClosesAllIdle}
use Rattle.servient_core.specs.declared.layers.Layers.{Layers}
use Rattle.servient_core.proofs.PartLaws.{refines_coap, refines_act, passing_moves, then_moves}
use Rattle.servient_core.proofs.LoopLaws.{Repeating, repeating_begins, repeating_more, repeating_ends, room_stays}

-- ---- notifications

-- one is sent
sends_notification : (notice : Notice) (k : Layers) (c : Server) (n m : NetSeen) (slots : List Seen) → SendsNext k.moment (Some notice) k.coap c
    → NetShows n m (did (act.Datagram notice.to (notification_bytes notice k.exposed.state)) ∷ [])
    → Refines StandsFor Shows SendsNotification k (record k { coap = c }) (outside n slots) (outside m slots)
sends_notification notice k c n m slots sends shows = λ s stands.
    let a = passing_moves (λ x. OnCoap (λ now. SendsNext now (Some x))) (λ x. Does (act.Datagram x.to (notification_bytes x k.exposed.state) ∷ [])) notice
    k (record k { coap = c }) (record k { coap = c }) (outside n slots) (outside n slots) (outside m slots)
    (refines_coap (λ now. SendsNext now (Some notice)) k c (outside n slots) sends)
    (refines_act (record k { coap = c }) n m slots (act.Datagram notice.to (notification_bytes notice k.exposed.state)) shows) s stands in (
      a.0,
      a.1,
      record {
        seen = a.2.seen;
        move = subst (λ (thing : ThingState). Passing (λ x. OnCoap (λ now. SendsNext now (Some x))) (λ x. Does (act.Datagram x.to (notification_bytes x thing) ∷ [])) s a.2.seen a.0)
            (sym stands.thing) a.2.move;
        shows = a.2.shows;
      },
    )

-- the invariant while they are sent
pub record Notifying (first k : Layers) (n m : NetSeen) : Type 0 where
  pub repeats : (slots : List Seen) → Repeating SendsNotification NothingIsDue first k (outside n slots) (outside m slots)
  pub rest : k ≡ record first { coap = k.coap }
  pub exchanges : k.coap.exchanges ≡ first.coap.exchanges

pub notifying_begins : (k : Layers) (n : NetSeen) → Notifying k k n n
notifying_begins k n = record { repeats = λ slots. repeating_begins SendsNotification NothingIsDue k (outside n slots); rest = refl; exchanges = refl }

pub notifying_more : (notice : Notice) (first k : Layers) (c : Server) (n m l : NetSeen) → Notifying first k n m → SendsNext k.moment (Some notice) k.coap c
    → c.exchanges ≡ k.coap.exchanges → NetShows m l (did (act.Datagram notice.to (notification_bytes notice k.exposed.state)) ∷ [])
    → Notifying first (record k { coap = c }) n l
notifying_more notice first k c n m l t sends same shows = record {
  repeats = λ slots. repeating_more SendsNotification NothingIsDue first k (record k { coap = c }) (outside n slots) (outside m slots) (outside l slots) (t.repeats slots)
      (sends_notification notice k c m l slots sends shows);
  rest = ap (λ (x : Layers). record x { coap = c }) t.rest;
  exchanges = same ∙ t.exchanges;
}

pub notifying_ends : (first k : Layers) (c : Server) (n m : NetSeen) → Notifying first k n m → SendsNext k.moment None k.coap c
    → DoesQuietly SendsNotifications first (record k { coap = c }) n m
notifying_ends first k c n m t sends = λ slots.
    then_moves (Until SendsNotification NothingIsDue) (OnCoap (λ now. SendsNext now None)) first k (record k { coap = c }) (outside n slots) (outside m slots) (outside m slots)
    (repeating_ends SendsNotification NothingIsDue first k (outside n slots) (outside m slots) (t.repeats slots)
    (λ s stands. (c, subst (λ (now : ℕ). SendsNext now None s.coap c) (sym stands.moment) (subst (λ (x : Server). SendsNext k.moment None x c) (sym stands.coap) sends))))
    (refines_coap (λ now. SendsNext now None) k c (outside m slots) sends)

pub ready_notified : (old new : Layers) → IsReady old → new ≡ record old { coap = new.coap } → new.coap.exchanges ≡ old.coap.exchanges → IsReady new
ready_notified old new ready rest same = record {
  pending = ap (λ (x : Layers). x.exposed.pending) rest ∙ ready.pending;
  moment = omega (arith, ap (λ (x : Table). x.moment) same, ap (λ (x : Layers). x.moment) rest, ready.moment);
  clock = omega (arith, ap (λ (x : Layers). x.moment) rest, ready.clock);
  room = λ c. room_stays old.http new.http c (subst (λ (x : Slots). LeavesNoMore old.http x) (sym (ap (λ (x : Layers). x.http) rest)) (λ d. omega arith)) (ready.room c);
}

pub ready_answered : (old new : Layers) → IsReady old → new ≡ record old { http = new.http } → LeavesNoMore old.http new.http → IsReady new
ready_answered old new ready rest left = record {
  pending = ap (λ (x : Layers). x.exposed.pending) rest ∙ ready.pending;
  moment = omega (arith, ap (λ (x : Layers). x.coap.exchanges.moment) rest, ap (λ (x : Layers). x.moment) rest, ready.moment);
  clock = omega (arith, ap (λ (x : Layers). x.moment) rest, ready.clock);
  room = λ c. room_stays old.http new.http c left (ready.room c);
}

-- ---- all of it

pub ends_event : (k l m e : Layers) (n o p q : NetSeen) → DoesQuietly SendsNotifications k l n o → DoesQuietly AnswersLateWaits l m o p → DoesQuietly ClosesAllIdle m e p q
    → DoesQuietly EndsEvent k e n q
ends_event k l m e n o p q sends answers closes = λ slots.
    then_moves SendsNotifications (Then AnswersLateWaits ClosesAllIdle) k l e (outside n slots) (outside o slots) (outside q slots) (sends slots)
    (then_moves AnswersLateWaits ClosesAllIdle l m e (outside o slots) (outside p slots) (outside q slots) (answers slots) (closes slots))
