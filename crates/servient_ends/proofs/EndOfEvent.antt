-- The emissions and notifications of a move of the machine are moves of the world.
use Rattle.std.proofs.Common.{◌≡◌, ◌∙◌, ◌+◌, ℕ, true, List, [], ◌∷◌, ◌++◌, map, refl, sym, ap, subst, arith, append_assoc}
use Rattle.std.specs.Prelude.{Some, None}
use Rattle.std.proofs.lemmas.List.{append-nil}
use Rattle.servient_base.specs.Moves.{Until, is_done, goes_on}
use Rattle.coap_msg.specs.Grammar.{spelling}
use Rattle.coap_observe.specs.declared.notice.Notice.{Notice}
use Rattle.coap_observe.specs.Accounts.{one_if}
use Rattle.coap_bind.specs.declared.server.Server.{Server}
use Rattle.coap_bind.specs.Server.{SendsNext, with_emitted}
use Rattle.coap_bind.specs.Writing.{notification}
use Rattle.thing_state.specs.State.{State as ThingState, Emission as ThingEmission}
use Rattle.servient_trace.specs.Trace.{Sighting}
use Rattle.servient_core.specs.Machine.{Site, State, SendsNotification, NothingIsDue, EndsEvent}
use Rattle.servient_world.specs.World.{WorldState, WorldMove, emit, notify, Datagram, with_new_value, with_notification, notification_sent, PlaysAll}
use Rattle.servient_ends.specs.Ends.{along, notifications_in, as_emission, fresh_among, notification_of, with_emissions, with_notifications}
use Rattle.servient_ends.proofs.LastValues.{has_target, SayTheLast}
use Rattle.servient_ends.proofs.TargetLaws.{IsTarget}
use Rattle.servient_ends.proofs.KnownObservers.{WatchesTargets, watches_emitted, watches_sent, notification_target}
use Rattle.servient_ends.proofs.StepParts.{with_targets, targets_in, late_leave, idle_leave}

-- one list of moves after another
pub plays_both : (a b : List WorldMove) (w m v : WorldState) → PlaysAll a w m → PlaysAll b m v → PlaysAll (a ++ b) w v
plays_both [] b w m v one two = subst (λ (x : WorldState). PlaysAll b x v) one two
plays_both (x ∷ a) b w m v one two = (one.0, one.1, plays_both a b one.0 m v one.2 two)

-- ---- emissions

abbrev pub after_emissions : List ThingEmission → WorldState → WorldState
after_emissions es w = with_emissions es (record w { server = with_targets (targets_in es) w.server })

pub emissions_play : (es : List ThingEmission) (w : WorldState) → PlaysAll (map (λ e. emit (as_emission e)) es) w (after_emissions es w)
emissions_play [] w = ap (λ (l : List _). record w { emitted = l }) (append-nil w.emitted)
emissions_play (e ∷ es) w =
    let mid : WorldState = with_new_value (as_emission e) w in (
      mid,
      refl,
      subst (λ (l : List _). PlaysAll (map (λ x. emit (as_emission x)) es) mid (record w { server = with_targets (targets_in es) (with_emitted e.target w.server); emitted = l }))
          (append_assoc w.emitted (as_emission e ∷ []) (map as_emission es)) (emissions_play es mid),
    )

pub watches_targets : (site : Site) (targets : List ℕ) (c : Server) → WatchesTargets site c → WatchesTargets site (with_targets targets c)
watches_targets site [] c y = y
watches_targets site (target ∷ targets) c y = watches_targets site targets (with_emitted target c) (watches_emitted site target c y)

pub targets_next : (targets : List ℕ) (c : Server) → (with_targets targets c).next_id ≡ c.next_id
targets_next [] c = refl
targets_next (target ∷ targets) c = targets_next targets (with_emitted target c)

-- ---- notifications

-- the world and the machine stand so at the end of an event
pub record Stand (site : Site) (thing : ThingState) (w : WorldState) (s : State) : Type 0 where
  pub server : w.server ≡ s.coap
  pub moment : w.moment ≡ s.moment
  pub things : s.thing ≡ thing
  pub has : (target : ℕ) → IsTarget site target → has_target target thing.last ≡ true
  pub says : SayTheLast thing.last w.emitted
  pub watches : WatchesTargets site s.coap

-- these notifications are moves of the world
pub record Notified (site : Site) (thing : ThingState) (ns : List Notice) (w : WorldState) (s t : State) : Type 0 where
  pub moves : List WorldMove
  pub plays : PlaysAll moves w (with_notifications thing ns (record w { server = t.coap }))
  pub moment : t.moment ≡ s.moment
  pub things : t.thing ≡ thing
  pub watches : WatchesTargets site t.coap

world_parts : (w : WorldState) (a b : Server) (l k : List Datagram) (n m : ℕ) → a ≡ b → l ≡ k → n ≡ m
    → record w { server = a; sent = l; ids = n } ≡ record w { server = b; sent = k; ids = m }
world_parts w a b l k n m servers sent ids =
    ap (λ (x : Server). record w { server = x; sent = l; ids = n }) servers
    ∙ (ap (λ (x : List Datagram). record w { server = b; sent = x; ids = n }) sent ∙ ap (λ (x : ℕ). record w { server = b; sent = k; ids = x }) ids)

no_more : (n : ℕ) → n + 0 ≡ n
no_more n = omega arith

more_ids : (n a b : ℕ) → (n + a) + b ≡ n + (a + b)
more_ids n a b = omega arith

notified_none : (site : Site) (thing : ThingState) (w : WorldState) (s t : State) → Stand site thing w s → t ≡ s → Notified site thing [] w s t
notified_none site thing w s t stand same = record {
  moves = [];
  plays = world_parts w t.coap w.server (w.sent ++ []) w.sent (w.ids + 0) w.ids (ap (λ (x : State). x.coap) same ∙ sym stand.server) (append-nil w.sent) (no_more w.ids);
  moment = ap (λ (x : State). x.moment) same;
  things = ap (λ (x : State). x.thing) same ∙ stand.things;
  watches = subst (λ (x : State). WatchesTargets site x.coap) (sym same) stand.watches;
}

notified_one : (site : Site) (thing : ThingState) (w : WorldState) (s m t : State) (n : Notice) (ns : List Notice) → Stand site thing w s → SendsNext s.moment (Some n) s.coap m.coap
    → m.moment ≡ s.moment → m.thing ≡ s.thing
    → ((v : WorldState) → Stand site thing v m → Notified site thing ns v m t) → Notified site thing (n ∷ ns) w s t
notified_one site thing w s m t n ns stand sends moment thing_same further =
    let v : WorldState = with_notification (Some n) (record w { server = m.coap }) in
    let sends_there : SendsNext w.moment (Some n) w.server m.coap
    = subst (λ (x : ℕ). SendsNext x (Some n) w.server m.coap) (sym stand.moment) (subst (λ (x : Server). SendsNext s.moment (Some n) x m.coap) (sym stand.server) sends) in
    let target : IsTarget site n.target = notification_target site s.moment n s.coap m.coap sends stand.watches in
    let value = stand.says n.target (stand.has n.target target) in
    let rest = further v (record {
      server = refl;
      moment = stand.moment ∙ sym moment;
      things = thing_same ∙ stand.things;
      has = stand.has;
      says = stand.says;
      watches = watches_sent site s.moment (Some n) s.coap m.coap sends stand.watches;
    }) in
    let one : Datagram = notification_sent w.moment w.asks w.emitted n in
    let same_one : one ≡ notification_of w thing n = ap (λ (text : List ℕ). record one { bytes = spelling (notification n text) }) (sym value) in
    let sent : (w.sent ++ one ∷ []) ++ map (notification_of w thing) ns ≡ w.sent ++ notification_of w thing n ∷ map (notification_of w thing) ns
    = append_assoc w.sent (one ∷ []) (map (notification_of w thing) ns) ∙ ap (λ (x : Datagram). w.sent ++ x ∷ map (notification_of w thing) ns) same_one in
    record {
      moves = notify ∷ rest.moves;
      plays = (
        v,
        record { notice = Some n; after = m.coap; sends = sends_there; next = refl },
        subst (PlaysAll rest.moves v) (world_parts w t.coap t.coap _ _ _ _ refl sent (more_ids w.ids (one_if n.fresh) (fresh_among ns))) rest.plays,
      );
      moment = rest.moment ∙ moment;
      things = rest.things;
      watches = rest.watches;
    }

notifications_play : (site : Site) (thing : ThingState) (s t : State) (seen : List Sighting) (u : Until SendsNotification NothingIsDue s seen t) (w : WorldState) → Stand site thing w s
    → Notified site thing (along SendsNotification NothingIsDue (λ x shown y sends. sends.0 ∷ []) s seen t u) w s t
notifications_play site thing s t seen (is_done s' seen' t' done stays) w stand = notified_none site thing w s t stand stays.next
notifications_play site thing s t seen (goes_on s' mid t' seen' first second one more whole) w stand =
    let on = one.1.one in
    let does = one.1.other in
    let sends : SendsNext s.moment (Some one.0) s.coap mid.coap
    = subst (λ (x : Server). SendsNext s.moment (Some one.0) s.coap x) (sym (ap (λ (x : State). x.coap) does.next ∙ ap (λ (x : State). x.coap) on.2.next)) on.1 in
    notified_one site thing w s mid t one.0 (along SendsNotification NothingIsDue (λ x shown y sends_it. sends_it.0 ∷ []) mid second t more) stand sends
    (ap (λ (x : State). x.moment) does.next ∙ ap (λ (x : State). x.moment) on.2.next) (ap (λ (x : State). x.thing) does.next ∙ ap (λ (x : State). x.thing) on.2.next)
    (λ v next. notifications_play site thing mid t second more v next)

-- The end of an event is moves of the world.
pub end_plays : (site : Site) (thing : ThingState) (s t : State) (seen : List Sighting) (ends : EndsEvent s seen t) (w : WorldState) → Stand site thing w s
    → Notified site thing (notifications_in s seen t ends) w s t
end_plays site thing s t seen ends w stand =
    let u = ends.one.mid in
    let n = notifications_play site thing s u ends.one.first ends.one.one w stand in
    let on = ends.one.other in
    let x = ends.mid in
    let left = late_leave x ends.other.mid ends.other.first ends.other.one in
    let idle = idle_leave ends.other.mid t ends.other.second ends.other.other in
    let coap : t.coap ≡ on.0 = idle.coap ∙ (left.coap ∙ ap (λ (y : State). y.coap) on.2.next) in
    let v : WorldState = with_notifications thing (notifications_in s seen t ends) (record w { server = u.coap }) in
    let sends : SendsNext w.moment None u.coap t.coap
    = subst (λ (y : ℕ). SendsNext y None u.coap t.coap) (n.moment ∙ sym stand.moment) (subst (λ (y : Server). SendsNext u.moment None u.coap y) (sym coap) on.1) in
    let after : WorldState = with_notifications thing (notifications_in s seen t ends) (record w { server = t.coap }) in
    record {
      moves = n.moves ++ notify ∷ [];
      plays = plays_both n.moves (notify ∷ []) w v after n.plays (after, record { notice = None; after = t.coap; sends = sends; next = refl }, refl);
      moment = idle.moment ∙ (left.moment ∙ (ap (λ (y : State). y.moment) on.2.next ∙ n.moment));
      things = idle.thing ∙ (left.thing ∙ (ap (λ (y : State). y.thing) on.2.next ∙ n.things));
      watches = watches_sent site u.moment None u.coap t.coap (subst (λ (y : Server). SendsNext u.moment None u.coap y) (sym coap) on.1) n.watches;
    }
