-- New values are delivered, and event affordances are polled.
use Rattle.std.proofs.Common.{◌≡◌, ℕ, ◌<◌, ◌≤◌, List, [], ◌∷◌, ◌++◌, length, Bool, true, false, refl, sym, ap, subst, ◌∙◌, arith, append_assoc}
use Rattle.std.specs.Prelude.{Option, Some, None}
use Rattle.std.proofs.lemmas.List.{append-nil}
use Rattle.servient_base.specs.Moves.{Each, Until, Refines}
use Rattle.servient_base.proofs.MovesLaws.{refines_each_none, refines_each_more}
use Rattle.thing_handler.specs.Handler.{Seen}
use Rattle.thing_site.specs.Site.{Placed, Site, events_of}
use Rattle.thing_site.specs.Fits.{Fits}
use Rattle.thing_state.specs.State.{State as ThingState, last_of}
use Rattle.thing_core.specs.Thing.{PollsEvent}
use Rattle.thing_core.specs.Kept.{Kept}
use Rattle.thing_core.specs.declared.polling.Round.{Round}
use Rattle.thing_core.specs.Rounds.{events_left, MakesPoll, PollsNext}
use Rattle.coap_exchange.specs.Table.{Table}
use Rattle.coap_bind.specs.declared.server.Server.{Server}
use Rattle.coap_bind.specs.Server.{with_emitted}
use Rattle.http_bind.specs.Streams.{HttpReply, Wakes, oldest_for, oldest_late}
use Rattle.http_bind.specs.declared.waits.Wait.{Wait}
use Rattle.http_bind.specs.Slots.{Slots, HasRoom}
use Rattle.servient_outside.specs.Network.{NetSeen}
use Rattle.servient_trace.specs.Trace.{Outside, outside, Shows}
use Rattle.servient_core.specs.Machine.{State, Move, OnHttp, OnThing, Sends, acts_of_reply, RepliesToWait, AnswersWait, AnswersLateWait, MarksObservers, Delivers, DeliversEach, PollsAndDelivers}
use Rattle.wot_registry.specs.Times.{last_moment}
use Rattle.servient_core.specs.Serving.{StandsFor, IsReady}
use Rattle.servient_core.specs.Keeping.{DoesQuietly, DoesMove, LeavesNoMore, OnlyDelivers, SendsToWait, PollsOne, polls, ends, AnswersWaits}
use Rattle.servient_core.specs.declared.layers.Layers.{Layers}
use Rattle.servient_trace.proofs.TraceLaws.{shows_in_order}
use Rattle.servient_core.proofs.PartLaws.{refines_http, refines_coap, refines_thing, refines_from, passing_moves, then_moves, fits_after}
use Rattle.servient_core.proofs.ConnectionLaws.{refines_acts}
use Rattle.servient_core.proofs.LoopLaws.{Repeating, repeating_begins, repeating_more, repeating_ends, leaves_same, leaves_then, room_stays}

-- ---- one that waits

-- a connection that waits is replied to
pub replies_to_wait : (c : ℕ) (text : Option (List ℕ)) (k : Layers) (d : Slots) (n m : NetSeen) (slots : List Seen) → SendsToWait c text k.moment k.http d n m
    → Refines StandsFor Shows (RepliesToWait c text) k (record k { http = d }) (outside n slots) (outside m slots)
replies_to_wait c text k d n m slots sends =
    let two : Layers = record k { http = d } in
    passing_moves (λ (reply : HttpReply). OnHttp (λ now. Wakes c text now reply.bytes reply.closes)) (Sends c) sends.reply k two two (outside n slots) (outside n slots) (outside m slots)
    (refines_http (λ now. Wakes c text now sends.reply.bytes sends.reply.closes) k d (outside n slots) sends.leads)
    (refines_acts two n m slots (acts_of_reply c sends.reply) sends.shows)

-- the oldest that waits for a target gets its last value
pub answers_wait : (c target : ℕ) (k : Layers) (d : Slots) (n m : NetSeen) (slots : List Seen) → oldest_for target k.http.waits ≡ Some c
    → SendsToWait c (last_of target k.exposed.state.last) k.moment k.http d n m
    → Refines StandsFor Shows (AnswersWait target) k (record k { http = d }) (outside n slots) (outside m slots)
answers_wait c target k d n m slots oldest sends = λ s stands.
    let a = replies_to_wait c (last_of target k.exposed.state.last) k d n m slots sends s stands in (
      a.0,
      a.1,
      record {
        seen = a.2.seen;
        move = (
          c,
          subst (λ (waits : List Wait). oldest_for target waits ≡ Some c) stands.http.waits oldest,
          subst (λ (x : ThingState). RepliesToWait c (last_of target x.last) s a.2.seen a.0) (sym stands.thing) a.2.move,
        );
        shows = a.2.shows;
      },
    )

-- the oldest that waited too long is told so
pub answers_late_wait : (c : ℕ) (k : Layers) (d : Slots) (n m : NetSeen) (slots : List Seen) → oldest_late k.moment k.http.waits ≡ Some c
    → SendsToWait c None k.moment k.http d n m
    → Refines StandsFor Shows AnswersLateWait k (record k { http = d }) (outside n slots) (outside m slots)
answers_late_wait c k d n m slots oldest sends = λ s stands.
    let a = replies_to_wait c None k d n m slots sends s stands in (
      a.0,
      a.1,
      record {
        seen = a.2.seen;
        move = (
          c,
          subst (λ (now : ℕ). oldest_late now s.http.waits ≡ Some c) (sym stands.moment)
              (subst (λ (waits : List Wait). oldest_late k.moment waits ≡ Some c) stands.http.waits oldest),
          a.2.move,
        );
        shows = a.2.shows;
      },
    )

-- ---- all that wait, one after another

-- the invariant while they are answered
pub record Answering (P : Move) (IsDone : State → Type 0) (first k : Layers) (n m : NetSeen) : Type 0 where
  pub repeats : (slots : List Seen) → Repeating P IsDone first k (outside n slots) (outside m slots)
  pub rest : k ≡ record first { http = k.http }
  pub left : LeavesNoMore first.http k.http

pub answering_begins : (P : Move) (IsDone : State → Type 0) (k : Layers) (n : NetSeen) → Answering P IsDone k k n n
answering_begins P IsDone k n = record { repeats = λ slots. repeating_begins P IsDone k (outside n slots); rest = refl; left = leaves_same k.http }

pub answering_more : (P : Move) (IsDone : State → Type 0) (first k : Layers) (d : Slots) (n m l : NetSeen) → Answering P IsDone first k n m
    → ((slots : List Seen) → Refines StandsFor Shows P k (record k { http = d }) (outside m slots) (outside l slots)) → LeavesNoMore k.http d
    → Answering P IsDone first (record k { http = d }) n l
answering_more P IsDone first k d n m l a step less = record {
  repeats = λ slots. repeating_more P IsDone first k (record k { http = d }) (outside n slots) (outside m slots) (outside l slots) (a.repeats slots) (step slots);
  rest = ap (λ (x : Layers). record x { http = d }) a.rest;
  left = leaves_then first.http k.http d a.left less;
}

pub answering_ends : (P : Move) (IsDone : State → Type 0) (first k : Layers) (n m : NetSeen) → Answering P IsDone first k n m
    → ((s : State) → StandsFor k s → IsDone s) → DoesQuietly (Until P IsDone) first k n m
answering_ends P IsDone first k n m a done = λ slots. repeating_ends P IsDone first k (outside n slots) (outside m slots) (a.repeats slots) done

pub none_waits : (target : ℕ) (k : Layers) → oldest_for target k.http.waits ≡ None → (s : State) → StandsFor k s → oldest_for target s.http.waits ≡ None
none_waits target k none s stands = subst (λ (waits : List Wait). oldest_for target waits ≡ None) stands.http.waits none

pub none_late : (k : Layers) → oldest_late k.moment k.http.waits ≡ None → (s : State) → StandsFor k s → oldest_late s.moment s.http.waits ≡ None
none_late k none s stands =
    subst (λ (now : ℕ). oldest_late now s.http.waits ≡ None) (sym stands.moment)
    (subst (λ (waits : List Wait). oldest_late k.moment waits ≡ None) stands.http.waits none)

-- ---- one new value after another

-- the invariant while they are delivered: those so far were, and the rest waits to be handed out
pub record Delivering (first k : Layers) (n m : NetSeen) : Type 0 where
  pub done : List ℕ
  pub made : DoesQuietly (Each Delivers done) first k n m
  pub pending : done ++ k.exposed.pending ≡ first.exposed.pending
  pub only : OnlyDelivers first k

pub delivering_begins : (k : Layers) (n : NetSeen) → Delivering k k n n
delivering_begins k n = record {
  done = [];
  made = λ slots. refines_each_none StandsFor Shows shows_in_order Delivers k (outside n slots);
  pending = refl;
  only = record { moment = refl; site = refl; exchanges = refl; left = leaves_same k.http };
}

-- one is
pub delivers_one : (target : ℕ) (k l : Layers) (c : Server) (n m : NetSeen) → DoesQuietly (AnswersWaits target) k l n m → c ≡ with_emitted target l.coap
    → DoesQuietly (Delivers target) k (record l { coap = c }) n m
delivers_one target k l c n m answers marks = λ slots.
    then_moves (AnswersWaits target) (MarksObservers target) k l (record l { coap = c }) (outside n slots) (outside m slots) (outside m slots) (answers slots)
    (refines_coap (λ now before after. after ≡ with_emitted target before) l c (outside m slots) marks)

pub only_delivers : (target : ℕ) (k l : Layers) (c : Server) → l ≡ record k { http = l.http } → LeavesNoMore k.http l.http → c ≡ with_emitted target l.coap
    → OnlyDelivers k (record l { coap = c })
only_delivers target k l c rest less marks = record {
  moment = ap (λ (x : Layers). x.moment) rest;
  site = ap (λ (x : Layers). x.exposed.site) rest;
  exchanges = ap (λ (x : Server). x.exchanges) marks ∙ ap (λ (x : Layers). x.coap.exchanges) rest;
  left = less;
}

pub delivering_more : (target : ℕ) (first k l : Layers) (e : Kept) (n m o : NetSeen) → Delivering first k n m
    → k.exposed.pending ≡ target ∷ e.pending → e.state ≡ k.exposed.state → e.site ≡ k.exposed.site
    → DoesQuietly (Delivers target) (record k { exposed = e }) l m o → l.exposed ≡ e → OnlyDelivers (record k { exposed = e }) l → Delivering first l n o
delivering_more target first k l e n m o d first_is state site delivered same only = record {
  done = d.done ++ target ∷ [];
  made = λ slots.
      refines_each_more StandsFor Shows shows_in_order Delivers d.done target first k l (outside n slots) (outside m slots) (outside o slots) (d.made slots)
      (refines_from (Delivers target) k (record k { exposed = e }) l (outside m slots) (outside o slots) refl refl refl state refl (delivered slots));
  pending = append_assoc d.done (target ∷ []) l.exposed.pending
      ∙ ap (λ (x : Kept). d.done ++ target ∷ x.pending) same
      ∙ ap (λ (ts : List ℕ). d.done ++ ts) (sym first_is)
      ∙ d.pending;
  only = record {
    moment = only.moment ∙ d.only.moment;
    site = only.site ∙ site ∙ d.only.site;
    exchanges = only.exchanges ∙ d.only.exchanges;
    left = leaves_then first.http k.http l.http d.only.left only.left;
  };
}

-- none is left
pub delivering_ends : (first k : Layers) (e : Kept) (n m : NetSeen) → Delivering first k n m → k.exposed.pending ≡ [] → e.state ≡ k.exposed.state
    → DoesQuietly (Each Delivers first.exposed.pending) first (record k { exposed = e }) n m
delivering_ends first k e n m d none state = λ slots s stands.
    let all : d.done ≡ first.exposed.pending = sym (append-nil d.done) ∙ ap (λ (ts : List ℕ). d.done ++ ts) (sym none) ∙ d.pending in
    let a = subst (λ (ts : List ℕ). Refines StandsFor Shows (Each Delivers ts) first k (outside n slots) (outside m slots)) all (d.made slots) s stands in
    (a.0, record { moment = a.1.moment; http = a.1.http; coap = a.1.coap; thing = a.1.thing ∙ sym state; directory = a.1.directory }, a.2)

pub ready_after : (old new : Layers) → ((c : ℕ) → HasRoom c old.http) → old.coap.exchanges.moment ≤ old.moment → old.moment ≤ last_moment → OnlyDelivers old new
    → new.exposed.pending ≡ [] → IsReady new
ready_after old new room early clock only none = record {
  pending = none;
  moment = omega (arith, early, only.moment, ap (λ (x : Table). x.moment) only.exchanges);
  clock = omega (arith, clock, only.moment);
  room = λ c. room_stays old.http new.http c only.left (room c);
}

-- ---- polls

-- one event affordance is polled, and what it emits is delivered
pub polls_and_delivers : (p : Placed) (k l : Layers) (e : Kept) (n m : NetSeen) (before after : List Seen) → MakesPoll p k.exposed e before after
    → DoesQuietly (Each Delivers e.pending) (record k { exposed = e }) l n m
    → Refines StandsFor Shows (PollsAndDelivers p) k l (outside n before) (outside m after)
polls_and_delivers p k l e n m before after made delivered =
    passing_moves (λ emissions. OnThing (PollsEvent p emissions)) DeliversEach made.emissions k (record k { exposed = e }) l (outside n before) (outside n after) (outside m after)
    (refines_thing (PollsEvent p made.emissions) k e n before after made.made)
    (subst (λ (ts : List ℕ). Refines StandsFor Shows (Each Delivers ts) (record k { exposed = e }) l (outside n after) (outside m after)) made.pending (delivered after))

-- the invariant in a round of polls: those so far were polled, and the rest is left
pub record Polling (first k : Layers) (round : Round) (w v : Outside) : Type 0 where
  pub done : List Placed
  pub made : Refines StandsFor Shows (Each PollsAndDelivers done) first k w v
  pub left : done ++ events_left round first.exposed.site.things ≡ events_of first.exposed.site.things
  pub ready : IsReady k
  pub site : k.exposed.site ≡ first.exposed.site
  pub fits : Fits k.exposed.site v.slots

pub polling_begins : (k : Layers) (round : Round) (w : Outside) → events_left round k.exposed.site.things ≡ events_of k.exposed.site.things → IsReady k → Fits k.exposed.site w.slots
    → Polling k k round w w
polling_begins k round w all ready fits = record {
  done = [];
  made = refines_each_none StandsFor Shows shows_in_order PollsAndDelivers k w;
  left = all;
  ready = ready;
  site = refl;
  fits = fits;
}

pub polling_more : (first k l : Layers) (round later : Round) (w v u : Outside) → Polling first k round w v → PollsOne later k l v u true round → IsReady l
    → l.exposed.site ≡ k.exposed.site → Fits l.exposed.site u.slots → Polling first l later w u
polling_more first k l round later w v u t (polls round' p is step) ready same fits = record {
  done = t.done ++ p ∷ [];
  made = refines_each_more StandsFor Shows shows_in_order PollsAndDelivers t.done p first k l w v u t.made step;
  left = append_assoc t.done (p ∷ []) (events_left later first.exposed.site.things)
      ∙ ap (λ (ps : List Placed). t.done ++ ps) (sym (subst (λ (site : Site). events_left round site.things ≡ p ∷ events_left later site.things) t.site is))
      ∙ t.left;
  ready = ready;
  site = same ∙ t.site;
  fits = fits;
}

pub polling_smaller : (k l : Layers) (round later : Round) (v u : Outside) → PollsOne later k l v u true round
    → length (events_left later k.exposed.site.things) < length (events_left round k.exposed.site.things)
polling_smaller k l round later v u (polls round' p is step) = omega (arith, ap length is)

pub polling_ends : (first k l : Layers) (round later : Round) (w v u : Outside) → Polling first k round w v → PollsOne later k l v u false round
    → DoesMove (Each PollsAndDelivers (events_of first.exposed.site.things)) first l w u
polling_ends first k l round later w v u t (ends round' none same unseen) =
    let all : t.done ≡ events_of first.exposed.site.things =
    sym (append-nil t.done)
    ∙ ap (λ (ps : List Placed). t.done ++ ps) (sym (subst (λ (site : Site). events_left round site.things ≡ []) t.site none))
    ∙ t.left in
    record {
      refines = subst (λ (x : Outside). Refines StandsFor Shows (Each PollsAndDelivers (events_of first.exposed.site.things)) first l w x) (sym unseen)
          (subst (λ (x : Layers). Refines StandsFor Shows (Each PollsAndDelivers (events_of first.exposed.site.things)) first x w v) (sym same)
          (subst (λ (ps : List Placed). Refines StandsFor Shows (Each PollsAndDelivers ps) first k w v) all t.made));
      ready = subst IsReady (sym same) t.ready;
      site = ap (λ (x : Layers). x.exposed.site) same ∙ t.site;
    }

pub none_polled : (k : Layers) (e : Kept) (round later : Round) (n : NetSeen) (before after : List Seen) → PollsNext false round later k.exposed e before after
    → PollsOne later k (record k { exposed = e }) (outside n before) (outside n after) false round
none_polled k e round later n before after p =
    ends round p.0 (ap (λ (x : Kept). record k { exposed = x }) p.1) (ap (λ (x : List Seen). outside n x) p.2)

pub one_polled : (k l : Layers) (e : Kept) (round later : Round) (n m : NetSeen) (before after : List Seen) → PollsNext true round later k.exposed e before after
    → DoesQuietly (Each Delivers e.pending) (record k { exposed = e }) l n m → PollsOne later k l (outside n before) (outside m after) true round
one_polled k l e round later n m before after p delivered = polls round p.0 p.1 (polls_and_delivers p.0 k l e n m before after p.2 delivered)

-- the rack fits after it
pub poll_fits : (k l : Layers) (e : Kept) (round later : Round) (n m : NetSeen) (before after : List Seen) → PollsNext true round later k.exposed e before after
    → DoesQuietly (Each Delivers e.pending) (record k { exposed = e }) l n m → OnlyDelivers (record k { exposed = e }) l → Fits k.exposed.site before
    → Fits l.exposed.site after
poll_fits k l e round later n m before after p delivered only fits =
    subst (λ (site : Site). Fits site after) (sym (only.site ∙ p.2.site))
    (fits_after (PollsAndDelivers p.0) k l k.exposed.site (outside n before) (outside m after) (polls_and_delivers p.0 k l e n m before after p.2 delivered) fits)
