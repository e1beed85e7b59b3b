-- An event can be ended: notifications are sent, late waits are told, and idle connections are closed.
use Rattle.std.proofs.Common.{◌≡◌, ◌<◌, ◌+◌, ◌⊎◌, ℕ, List, [], ◌∷◌, Some, None, refl, sym, subst, arith, inl, inr, max, true, false, Bool}
use Rattle.servient_base.specs.Moves.{Then, Until}
use Rattle.coap_observe.specs.declared.notice.Notice.{Notice}
use Rattle.coap_observe.specs.Watching.{Watching}
use Rattle.coap_bind.specs.declared.server.Server.{Server}
use Rattle.coap_bind.specs.Server.{with_observers, with_notification_sent, SendsNext}
use Rattle.http_bind.specs.Streams.{oldest_late, NoneIdle}
use Rattle.servient_outside.specs.declared.net.Act.TheVariants as act
use Rattle.servient_trace.specs.Trace.{Sighting}
use Rattle.servient_core.specs.Machine.{State, OnCoap, SendsNotification, NothingIsDue, SendsNotifications, AnswersLateWait, ClosesIdle, EndsEvent, notification_bytes}
use Rattle.progress_laws.specs.Progress.{EventsCanEnd, EmissionsCanBeDelivered}
use Rattle.progress_laws.proofs.WaitMoves.{base_first, base_follows, reached_sound}
use Rattle.progress_laws.proofs.WaitFates.{acts_seen}
use Rattle.progress_laws.proofs.Going.{Gets, gets_then, gets_until, Falls, IsWell, delivers_all, tells_all_late, closes_all}
use Rattle.progress_laws.proofs.GoingObservers.{left_of, Next, sends_none, sends_one, sends_next}

-- ---- notifications

abbrev notices_left : State → ℕ
notices_left s = left_of s.coap.observers.list

-- the observers after it
observers_after : (n : Notice) (w : Watching) (c : Server) → (with_notification_sent (Some n) (with_observers w c)).observers ≡ w
observers_after n w c = by n.fresh
  where
    by : (fresh : Bool) → (with_notification_sent (Some (record n { fresh = fresh })) (with_observers w c)).observers ≡ w
    by true = refl
    by false = refl

sends : (s : State) → IsWell s → NothingIsDue s ⊎ Falls SendsNotification IsWell notices_left s
sends s sound = by (sends_next s.moment s.coap.next_id s.coap.observers.list)
  where
    by : Next s.moment s.coap.next_id s.coap.observers.list → NothingIsDue s ⊎ Falls SendsNotification IsWell notices_left s
    by (sends_none us notifies) =
        let w : Watching = record s.coap.observers { list = us } in inl (with_observers w s.coap, record { observers = w; notifies = notifies; capacity = refl; after = refl })
    by (sends_one n us notifies less) =
        let w : Watching = record s.coap.observers { list = us } in
        let c : Server = with_notification_sent (Some n) (with_observers w s.coap) in
        inr (record {
          gets = record {
            seen = acts_seen (act.Datagram n.to (notification_bytes n s.thing) ∷ []);
            after = record s { coap = c };
            move = (
              n,
              record {
                mid = record s { coap = c };
                first = [];
                second = acts_seen (act.Datagram n.to (notification_bytes n s.thing) ∷ []);
                one = (c, record { observers = w; notifies = notifies; capacity = refl; after = refl }, record { next = refl; saw = refl });
                other = record { next = refl; saw = refl };
                whole = refl;
              },
            );
            good = sound;
          };
          less = subst (λ (x : Watching). left_of x.list < left_of s.coap.observers.list) (sym (observers_after n w s.coap)) less;
        })

-- none is due, and that is said
rests : (s : State) → IsWell s × NothingIsDue s → Gets (OnCoap (λ now. SendsNext now None)) IsWell s
rests s (sound, (c, is)) = record { seen = []; after = record s { coap = c }; move = (c, is, record { next = refl; saw = refl }); good = sound }

sends_all : (s : State) → IsWell s → Gets SendsNotifications IsWell s
sends_all s sound =
    gets_then (Until SendsNotification NothingIsDue) (OnCoap (λ now. SendsNext now None)) (λ t. IsWell t × NothingIsDue t) IsWell s
    (gets_until SendsNotification NothingIsDue IsWell notices_left sends (notices_left s + 1) s (omega arith) sound) rests

-- ---- the end of an event

abbrev AnswersLate : State → List Sighting → State → Type 0
AnswersLate = Until AnswersLateWait (λ state. oldest_late state.moment state.http.waits ≡ None)

abbrev ClosesAll : State → List Sighting → State → Type 0
ClosesAll = Until ClosesIdle (λ state. NoneIdle state.moment state.http)

pub ends : (s : State) → IsWell s → Gets EndsEvent (λ t. IsWell t × NoneIdle t.moment t.http) s
ends s sound =
    gets_then SendsNotifications (Then AnswersLate ClosesAll) IsWell (λ t. IsWell t × NoneIdle t.moment t.http) s (sends_all s sound)
    (λ m well. gets_then AnswersLate ClosesAll (λ t. IsWell t × (oldest_late t.moment t.http.waits ≡ None)) (λ t. IsWell t × NoneIdle t.moment t.http) m (tells_all_late m well)
    (λ u good. closes_all u good.0))

pub events_can_end : EventsCanEnd
events_can_end site exchanges epoch took before first s mid it run follows =
    let sound = reached_sound site exchanges epoch took s before run in
    let after = base_follows s.http.waits (max s.moment it.event.moment) site it.event.what it.bytes (record s { moment = max s.moment it.event.moment }) mid first (base_first s it sound) follows in
    let ended = ends mid after.sound in (ended.seen, ended.after, ended.move)

pub emissions_can_be_delivered : EmissionsCanBeDelivered
emissions_can_be_delivered site exchanges epoch took before s emissions run =
    let told = delivers_all emissions s (reached_sound site exchanges epoch took s before run) in (told.seen, told.after, told.move)
