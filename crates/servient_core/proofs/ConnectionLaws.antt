-- The acts on one connection, put together.
use Rattle.std.proofs.Common.{inl, inr, ◌≡◌, ℕ, zero, suc, ◌<◌, ◌≤◌, List, [], ◌∷◌, map, Bool, true, false, refl, sym, ap, subst, ◌∙◌, arith}
use Rattle.std.specs.Prelude.{Option, Some, None, ◌==◌, IsSome}
use Rattle.std.proofs.lemmas.Bool.{eqb-true}
use Rattle.servient_base.specs.Moves.{Then, is_done, Refines}
use Rattle.servient_base.proofs.MovesLaws.{refines_goes_on, refines_is_done}
use Rattle.thing_ops.specs.declared.outcome.Outcome.{Outcome}
use Rattle.thing_ops.specs.declared.outcome.Outcome.TheVariants as outcome
use Rattle.thing_ops.specs.Requests.{RequestSeen}
use Rattle.thing_handler.specs.Handler.{Seen}
use Rattle.thing_handler.specs.Turns.{HandlerCall, RackShows}
use Rattle.thing_handler.proofs.RackLaws.{rack_shows_none}
use Rattle.thing_site.specs.Site.{Site}
use Rattle.thing_core.specs.Thing.{Done, only, has_no_memory}
use Rattle.thing_core.specs.Kept.{Kept}
use Rattle.thing_ops.specs.Routes.{route_of}
use Rattle.directory_requests.specs.Asked.{is_of_directory}
use Rattle.directory_requests.specs.declared.server.ServedEntries.{ServedEntries}
use Rattle.directory_requests.specs.Requests.{standing_at, is_out_of_memory}
use Rattle.directory_requests.proofs.StandingLaws.{standing_later}
use Rattle.http_bind.specs.Replying.{fault_word}
use Rattle.http_bind.specs.Streams.{HttpReply, Streams, asks, wants_continue, is_faulty, interrupts, Takes, IsDry, Answers, Continues, Refuses, Ended, Closes, IsIdle, NoneIdle}
use Rattle.http_bind.specs.Slots.{Held, Slots, Leads, StandsFor as ConnectionsStandFor, place_at, with_place, HasRoom}
use Rattle.coap_bind.specs.declared.server.Server.{Server}
use Rattle.http_bind.specs.Given.{StaysDry as StreamStaysDry}
use Rattle.servient_outside.specs.declared.net.Act.{Act}
use Rattle.servient_outside.specs.declared.net.Act.TheVariants as act
use Rattle.servient_outside.specs.Network.{Happening, NetSeen, NetShows, did}
use Rattle.servient_outside.proofs.NetLaws.{net_shows_then}
use Rattle.servient_trace.specs.Trace.{at_network, happened_in, calls_in, Outside, outside, Shows}
use Rattle.servient_core.specs.Machine.{State, OnHttp, Does, PerformsByHttp, DeliversEach, acts_of_reply, Sends, SendsIfAny, AnswersMessage, AnswersTaken, TakesNextMessage, TakesEveryMessage, ClosesIdle}
use Rattle.servient_core.specs.Serving.{StandsFor, IsReady}
use Rattle.servient_core.specs.Keeping.{OthersKeep, ClosesAllIdle}
use Rattle.servient_core.specs.Connections.{IsOn, SendsAnswer, SendsContinue, SendsRefusal, StaysDry, acts_of_answer}
use Rattle.servient_core.specs.declared.layers.Layers.{Layers}
use Rattle.servient_trace.proofs.TraceLaws.{shows_in_order}
use Rattle.servient_core.proofs.PartLaws.{refines_http, refines_act, refines_nothing, passing_moves, then_moves}
use Rattle.servient_core.proofs.LoopLaws.{leaves_same, others_all, others_then}

-- ---- acts

happened_acts : (acts : List Act) → happened_in (map (λ a. at_network (did a)) acts) ≡ map did acts
happened_acts [] = refl
happened_acts (a ∷ acts) = ap (λ (h : List Happening). did a ∷ h) (happened_acts acts)

pub no_calls : (acts : List Act) → calls_in (map (λ a. at_network (did a)) acts) ≡ []
no_calls [] = refl
no_calls (a ∷ acts) = no_calls acts

pub refines_acts : (k : Layers) (n m : NetSeen) (slots : List Seen) (acts : List Act) → NetShows n m (map did acts)
    → Refines StandsFor Shows (Does acts) k k (outside n slots) (outside m slots)
refines_acts k n m slots acts shows = λ s stands. (
  s,
  stands,
  record {
    seen = map (λ a. at_network (did a)) acts;
    move = record { next = refl; saw = refl };
    shows = record {
      net = subst (λ (h : List Happening). NetShows n m h) (sym (happened_acts acts)) shows;
      rack = subst (λ (calls : List HandlerCall). RackShows slots slots calls) (sym (no_calls acts)) (rack_shows_none slots);
    };
  },
)

-- a reply was sent that closes the connection
pub shows_closed : (c : ℕ) (bytes : List ℕ) (close : Bool) (n m l : NetSeen) → close ≡ true → NetShows n m (did (act.Sent c bytes) ∷ []) → NetShows m l (did (act.Closed c) ∷ [])
    → NetShows n l (map did (acts_of_reply c (record { bytes = bytes; closes = close })))
shows_closed c bytes close n m l closes sent closed =
    subst (λ (b : Bool). NetShows n l (map did (acts_of_reply c (record { bytes = bytes; closes = b })))) (sym closes)
    (net_shows_then n m l (did (act.Sent c bytes) ∷ []) (did (act.Closed c) ∷ []) sent closed)

-- one that doesn't
pub shows_kept : (c : ℕ) (bytes : List ℕ) (close : Bool) (n m : NetSeen) → close ≡ false → NetShows n m (did (act.Sent c bytes) ∷ [])
    → NetShows n m (map did (acts_of_reply c (record { bytes = bytes; closes = close })))
shows_kept c bytes close n m stays sent = subst (λ (b : Bool). NetShows n m (map did (acts_of_reply c (record { bytes = bytes; closes = b })))) (sym stays) sent

-- ---- one message

-- the reply is sent, if there is one
sends_if_any : (c : ℕ) (k : Layers) (n m : NetSeen) (slots : List Seen) (reply : Option HttpReply) → NetShows n m (map did (acts_of_answer c reply))
    → Refines StandsFor Shows (SendsIfAny c reply) k k (outside n slots) (outside m slots)
sends_if_any c k n m slots None shows = refines_acts k n m slots [] shows
sends_if_any c k n m slots (Some reply) shows = refines_acts k n m slots (acts_of_reply c reply) shows

-- a request is taken, done and answered, and what is emitted is delivered
pub takes_request : (site : Site) (c : ℕ) (q : RequestSeen) (done : Done) (o : Outcome) (k l : Layers) (b d : Slots) (e : Kept) (f : ServedEntries) (n m : NetSeen) (before after : List Seen) (v : Outside)
    → Leads (Takes c (asks q)) k.http b
    → Refines StandsFor Shows (PerformsByHttp site q done) (record k { http = b }) (record k { http = b; exposed = e; directory = f }) (outside n before) (outside n after)
    → done.outcome ≡ o → SendsAnswer c o k.moment b d n m
    → Refines StandsFor Shows (DeliversEach done.emissions) (record k { http = d; exposed = e; directory = f }) l (outside m after) v
    → Refines StandsFor Shows (TakesNextMessage site c) k l (outside n before) v
takes_request site c q done o k l b d e f n m before after v leads performs comes sends delivers =
    let one : Layers = record k { http = b } in
    let two : Layers = record k { http = b; exposed = e; directory = f } in
    let three : Layers = record k { http = d; exposed = e; directory = f } in
    let answers = subst (λ (x : Outcome). Leads (Answers c x k.moment sends.reply) b d) (sym comes) sends.leads in
    passing_moves (λ taken. OnHttp (λ now. Takes c taken)) (AnswersTaken site c) (asks q) k one l (outside n before) (outside n before) v
    (refines_http (λ now. Takes c (asks q)) k b (outside n before) leads)
    (passing_moves (PerformsByHttp site q) (λ x. Then (AnswersMessage c x) (DeliversEach x.emissions)) done
    one two l (outside n before) (outside n after) v
    performs
    (then_moves (AnswersMessage c done) (DeliversEach done.emissions) two three l (outside n after) (outside m after) v
    (passing_moves (λ reply. OnHttp (λ now. Answers c done.outcome now reply)) (SendsIfAny c) sends.reply two three three (outside n after) (outside n after) (outside m after)
    (refines_http (λ now. Answers c done.outcome now sends.reply) two d (outside n after) answers)
    (sends_if_any c three n m after sends.reply sends.shows))
    delivers))

-- reading it is out of memory: nothing is done, neither by the directory nor by the Things
unread : (site : Site) (q : RequestSeen) (k : Layers) (w : Outside) → Refines StandsFor Shows (PerformsByHttp site q (only outcome.Memory)) k k w w
unread site q k w = either (is_of_directory (route_of q.path)) refl
  where
    either : (b : Bool) → is_of_directory (route_of q.path) ≡ b → Refines StandsFor Shows (PerformsByHttp site q (only outcome.Memory)) k k w w
    either true is = λ s stands.
        let standing = standing_at s.moment s.directory in (
          record s { directory = standing },
          record {
            moment = stands.moment;
            http = stands.http;
            coap = stands.coap;
            thing = stands.thing;
            directory = standing_later s.moment s.moment s.directory (omega arith) ∙ stands.directory;
          },
          record { seen = []; move = inl (is, (standing, is_out_of_memory refl refl, refl, record { next = refl; saw = refl })); shows = shows_in_order.none w },
        )
    either false isnt = λ s stands. (
      s,
      stands,
      record { seen = []; move = inr (isnt, (s.thing, [], has_no_memory (refl, record { next = refl; saw = refl }), record { next = refl; saw = refl })); shows = shows_in_order.none w },
    )

pub takes_unread : (site : Site) (c : ℕ) (q : RequestSeen) (k : Layers) (b d : Slots) (n m : NetSeen) (slots : List Seen)
    → Leads (Takes c (asks q)) k.http b → SendsAnswer c outcome.Memory k.moment b d n m
    → Refines StandsFor Shows (TakesNextMessage site c) k (record k { http = d }) (outside n slots) (outside m slots)
takes_unread site c q k b d n m slots leads sends =
    takes_request site c q (only outcome.Memory) outcome.Memory k (record k { http = d }) b d k.exposed k.directory n m slots slots (outside m slots) leads
    (unread site q (record k { http = b }) (outside n slots)) refl sends
    (refines_nothing (record k { http = d }) (outside m slots))

-- bytes came behind a request that waits, and the connection is closed
pub takes_interruption : (site : Site) (c : ℕ) (k : Layers) (b : Slots) (n m : NetSeen) (slots : List Seen)
    → Leads (Takes c interrupts) k.http b → NetShows n m (did (act.Closed c) ∷ [])
    → Refines StandsFor Shows (TakesNextMessage site c) k (record k { http = b }) (outside n slots) (outside m slots)
takes_interruption site c k b n m slots leads shows =
    let one : Layers = record k { http = b } in
    passing_moves (λ taken. OnHttp (λ now. Takes c taken)) (AnswersTaken site c) interrupts k one one (outside n slots) (outside n slots) (outside m slots)
    (refines_http (λ now. Takes c interrupts) k b (outside n slots) leads)
    (refines_act one n m slots (act.Closed c) shows)

-- the 100 reply is sent
pub takes_continue : (site : Site) (c : ℕ) (k : Layers) (b d : Slots) (n m : NetSeen) (slots : List Seen)
    → Leads (Takes c wants_continue) k.http b → SendsContinue c b d n m
    → Refines StandsFor Shows (TakesNextMessage site c) k (record k { http = d }) (outside n slots) (outside m slots)
takes_continue site c k b d n m slots leads sends =
    let one : Layers = record k { http = b } in
    let two : Layers = record k { http = d } in
    let w = outside n slots in
    passing_moves (λ taken. OnHttp (λ now. Takes c taken)) (AnswersTaken site c) wants_continue k one two w w (outside m slots)
    (refines_http (λ now. Takes c wants_continue) k b w leads)
    (passing_moves (λ bytes. OnHttp (λ now. Continues bytes)) (λ bytes. Sends c (record { bytes = bytes; closes = false })) sends.bytes one two two w w (outside m slots)
    (refines_http (λ now. Continues sends.bytes) one d w sends.leads)
    (refines_acts two n m slots (acts_of_reply c (record { bytes = sends.bytes; closes = false })) sends.shows))

-- a status with a word isn't 100
pub isnt_100 : (status : ℕ) → IsSome (fault_word status) → (status == 100) ≡ false
isnt_100 status word = either (status == 100) (eqb-true status 100)
  where
    either : (t : Bool) → (t ≡ true → status ≡ 100) → t ≡ false
    either false is = refl
    either true is = absurd (none (subst (λ (x : ℕ). IsSome (fault_word x)) (is refl) word))
      where
        none : IsSome (fault_word 100) → ⊥
        none some = cc

-- a fault is refused
pub takes_fault : (site : Site) (c status : ℕ) (k : Layers) (b d : Slots) (n m : NetSeen) (slots : List Seen)
    → Leads (Takes c (is_faulty status)) k.http b → SendsRefusal c status b d n m
    → Refines StandsFor Shows (TakesNextMessage site c) k (record k { http = d }) (outside n slots) (outside m slots)
takes_fault site c status k b d n m slots leads sends =
    let one : Layers = record k { http = b } in
    let two : Layers = record k { http = d } in
    let w = outside n slots in
    passing_moves (λ taken. OnHttp (λ now. Takes c taken)) (AnswersTaken site c) (is_faulty status) k one two w w (outside m slots)
    (refines_http (λ now. Takes c (is_faulty status)) k b w leads)
    (passing_moves (λ bytes. OnHttp (λ now. Refuses c status bytes)) (λ bytes. Sends c (record { bytes = bytes; closes = true })) sends.bytes one two two w w (outside m slots)
    (refines_http (λ now. Refuses c status sends.bytes) one d w sends.leads)
    (refines_acts two n m slots (acts_of_reply c (record { bytes = sends.bytes; closes = true })) sends.shows))

-- nothing can be taken
pub takes_nothing : (c : ℕ) (k : Layers) (d : Slots) (w : Outside) → Leads (StreamStaysDry c) k.http d → Refines StandsFor Shows (StaysDry c) k (record k { http = d }) w w
takes_nothing c k d w leads = λ s stands.
    let to = leads s.http stands.http in (
      s,
      record { moment = stands.moment; http = subst (λ (x : Streams). ConnectionsStandFor d x) to.2.0 to.1; coap = stands.coap; thing = stands.thing; directory = stands.directory },
      record { seen = []; move = (subst (λ (x : Streams). IsDry c x) to.2.0 to.2.1, record { next = refl; saw = refl }); shows = shows_in_order.none w },
    )

-- ---- one message after another

-- the invariant while messages are taken: all that is taken from here on, was taken since the first
pub record Taking (c : ℕ) (first k : Layers) (w v : Outside) : Type 0 where
  pub onward : (e : Layers) (x : Outside) → Refines StandsFor Shows (TakesEveryMessage first.exposed.site c) k e v x
      → Refines StandsFor Shows (TakesEveryMessage first.exposed.site c) first e w x
  pub on : IsOn c k v.slots
  pub left : OthersKeep c first.http k.http
  pub site : k.exposed.site ≡ first.exposed.site

pub taking_begins : (c : ℕ) (k : Layers) (w : Outside) → IsOn c k w.slots → Taking c k k w w
taking_begins c k w on = record { onward = λ e x rest. rest; on = on; left = others_all c k.http k.http (leaves_same k.http); site = refl }

pub taking_more : (c : ℕ) (first k l : Layers) (w v u : Outside) → Taking c first k w v → Refines StandsFor Shows (TakesNextMessage k.exposed.site c) k l v u
    → IsOn c l u.slots → OthersKeep c k.http l.http → l.exposed.site ≡ k.exposed.site → Taking c first l w u
taking_more c first k l w v u t step on left same = record {
  onward = λ e x rest. t.onward e x
      (refines_goes_on StandsFor Shows shows_in_order (TakesNextMessage first.exposed.site c) (λ (s : State). IsDry c s.http) k l e v u x
      (subst (λ (site : Site). Refines StandsFor Shows (TakesNextMessage site c) k l v u) t.site step) rest);
  on = on;
  left = others_then c first.http k.http l.http t.left left;
  site = same ∙ t.site;
}

pub taking_ends : (c : ℕ) (first k l : Layers) (w v u : Outside) → Taking c first k w v → Refines StandsFor Shows (StaysDry c) k l v u
    → Refines StandsFor Shows (TakesEveryMessage first.exposed.site c) first l w u
taking_ends c first k l w v u t step = t.onward l u (λ s stands.
    let a = step s stands in
    (a.0, a.1, record { seen = a.2.seen; move = is_done s a.2.seen a.0 a.2.move.0 a.2.move.1; shows = a.2.shows }))

-- ---- idle connections

pub closes_one : (c : ℕ) (k : Layers) (d : Slots) (n m : NetSeen) (slots : List Seen) → ((s : Streams) → ConnectionsStandFor k.http s → IsIdle c k.moment s)
    → Leads (Ended c) k.http d → NetShows n m (did (act.Closed c) ∷ [])
    → Refines StandsFor Shows ClosesIdle k (record k { http = d }) (outside n slots) (outside m slots)
closes_one c k d n m slots idle leads shows =
    let two : Layers = record k { http = d } in
    passing_moves (λ x. OnHttp (λ now h j. IsIdle x now h × Closes x h j)) (λ x. Does (act.Closed x ∷ [])) c k two two (outside n slots) (outside n slots) (outside m slots)
    (refines_http (λ now h j. IsIdle c now h × Closes c h j) k d (outside n slots)
    (λ s stands. let to = leads s stands in (to.0, to.1, (idle s stands, to.2))))
    (refines_act two n m slots (act.Closed c) shows)

-- the invariant while they are closed
pub record Closing (first k : Layers) (n m : NetSeen) : Type 0 where
  pub onward : (e : Layers) (l : NetSeen) (slots : List Seen) → Refines StandsFor Shows ClosesAllIdle k e (outside m slots) (outside l slots)
      → Refines StandsFor Shows ClosesAllIdle first e (outside n slots) (outside l slots)
  pub exposed : k.exposed ≡ first.exposed
  pub coap : k.coap ≡ first.coap
  pub moment : k.moment ≡ first.moment

pub closing_begins : (k : Layers) (n : NetSeen) → Closing k k n n
closing_begins k n = record { onward = λ e l slots rest. rest; exposed = refl; coap = refl; moment = refl }

pub closing_ready : (first k : Layers) (n m : NetSeen) → Closing first k n m → IsReady first → ((c : ℕ) → HasRoom c k.http) → IsReady k
closing_ready first k n m t ready room = record {
  pending = ap (λ (x : Kept). x.pending) t.exposed ∙ ready.pending;
  moment = omega (arith, ap (λ (x : Server). x.exchanges.moment) t.coap, t.moment, ready.moment);
  clock = omega (arith, t.moment, ready.clock);
  room = room;
}

pub closing_more : (c : ℕ) (first k : Layers) (d : Slots) (n m l : NetSeen) → Closing first k n m → ((s : Streams) → ConnectionsStandFor k.http s → IsIdle c k.moment s)
    → Leads (Ended c) k.http d → NetShows m l (did (act.Closed c) ∷ []) → Closing first (record k { http = d }) n l
closing_more c first k d n m l t idle leads shows = record {
  onward = λ e j slots rest. t.onward e j slots
      (refines_goes_on StandsFor Shows shows_in_order ClosesIdle (λ (s : State). NoneIdle s.moment s.http) k (record k { http = d }) e (outside m slots) (outside l slots) (outside j slots)
      (closes_one c k d m l slots idle leads shows) rest);
  exposed = t.exposed;
  coap = t.coap;
  moment = t.moment;
}

pub closing_ends : (first k : Layers) (n m : NetSeen) (slots : List Seen) → Closing first k n m → ((s : Streams) → ConnectionsStandFor k.http s → NoneIdle k.moment s)
    → Refines StandsFor Shows ClosesAllIdle first k (outside n slots) (outside m slots)
closing_ends first k n m slots t none =
    t.onward k m slots (refines_is_done StandsFor Shows shows_in_order ClosesIdle (λ (s : State). NoneIdle s.moment s.http) k (outside m slots)
    (λ s stands. subst (λ (x : ℕ). NoneIdle x s.http) (sym stands.moment) (none s.http stands.http)))

-- ---- how many connections are open

abbrev pub open_count : List (Option Held) → ℕ
open_count [] = 0
open_count (None ∷ b) = open_count b
open_count (Some h ∷ b) = suc (open_count b)

fewer : (h : Option Held) (b : List (Option Held)) → open_count b ≤ open_count (h ∷ b)
fewer None b = omega arith
fewer (Some h) b = omega arith

same_front : (h : Option Held) (b d : List (Option Held)) → open_count b < open_count d → open_count (h ∷ b) < open_count (h ∷ d)
same_front None b d less = less
same_front (Some h) b d less = omega (arith, less)

pub closing_leaves_fewer : (c : ℕ) (b : List (Option Held)) → IsSome (place_at c b) → open_count (with_place c None b) < open_count b
closing_leaves_fewer c [] is_open = absurd (cc)
closing_leaves_fewer zero (None ∷ b) is_open = absurd (cc)
closing_leaves_fewer zero (Some h ∷ b) is_open = omega arith
closing_leaves_fewer (suc c) (h ∷ b) is_open = same_front h (with_place c None b) b (closing_leaves_fewer c b is_open)

-- a number that isn't there
pub none_left : (o : Option ℕ) → ((x : ℕ) → o ≡ Some x → ⊥) → o ≡ None
none_left None never = refl
none_left (Some x) never = absurd (never x refl)
