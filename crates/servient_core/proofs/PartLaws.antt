-- Moves of one part of a servient, and how they are put together.
use Rattle.std.proofs.Common.{◌≡◌, ℕ, zero, suc, arith, ◌<◌, ◌≤◌, max, List, [], ◌∷◌, map, length, refl, sym, ap, ap₂, subst, ◌∙◌, inl, inr}
use Rattle.std.specs.Prelude.{Option, Some, None, replicate}
use Rattle.servient_base.specs.Moves.{Stays, Then, Passing, Each, Makes, Refines}
use Rattle.servient_base.proofs.MovesLaws.{refines_then, refines_passing, refines_as, refines_stays}
use Rattle.coap_msg.specs.declared.constants.TheConstants.{LONGEST_DATAGRAM}
use Rattle.coap_msg.specs.declared.endpoint.Endpoint.{Endpoint}
use Rattle.thing_handler.specs.Handler.{Seen}
use Rattle.thing_handler.specs.Turns.{HandlerCall, RackShows, turns_in}
use Rattle.thing_site.specs.Site.{Site}
use Rattle.thing_state.specs.State.{State as ThingState}
use Rattle.thing_state.specs.Calls.{Move as ThingMove}
use Rattle.thing_core.specs.Thing.{Done, Acts}
use Rattle.thing_site.specs.Fits.{Fits}
use Rattle.thing_core.specs.Kept.{Kept}
use Rattle.thing_core.specs.Performing.{MakesAct}
use Rattle.thing_core.proofs.ThingLaws.{site_stays}
use Rattle.thing_ops.specs.declared.outcome.Outcome.{Outcome}
use Rattle.thing_ops.specs.Requests.{RequestSeen}
use Rattle.directory_requests.specs.declared.server.ServedEntries.{ServedEntries}
use Rattle.directory_requests.specs.Requests.{standing_at, ActsOnStanding, DirectoryActs}
use Rattle.directory_requests.proofs.StandingLaws.{same_later}
use Rattle.coap_opts.specs.Reading.{AskSeen}
use Rattle.coap_bind.specs.declared.pending.PendingReply.{PendingReply}
use Rattle.coap_bind.specs.declared.server.Server.{Server}
use Rattle.coap_bind.specs.Server.{Heard, ignored, answered_at_once, asked, Hears, Answers}
use Rattle.http_bind.specs.Streams.{Connection, Streams, none_open}
use Rattle.http_bind.specs.Slots.{Held, Slots, Leads, StandsFor as ConnectionsStandFor, HoldsIfOpen, HoldAll, HasRoomFor, HasRoom, OthersStay, place_at, with_place, left_in, left_at, longest_piece}
use Rattle.servient_outside.specs.declared.net.Act.{Act}
use Rattle.servient_outside.specs.declared.net.Act.TheVariants as act
use Rattle.servient_outside.specs.declared.net.EventWithBytes.{EventWithBytes}
use Rattle.servient_outside.specs.Network.{Happening, NetSeen, NetShows, did}
use Rattle.servient_outside.proofs.NetLaws.{net_shows_none}
use Rattle.servient_trace.specs.Trace.{at_network, at_handler, happened_in, calls_in, Outside, outside, Shows}
use Rattle.servient_core.specs.Machine.{State, Move, OnHttp, OnCoap, OnThing, Does, Performs, PerformsOnDirectory, PerformsByHttp, Delivers, DeliversEach, observed_target, AnswersAsk, AnswersDatagram, HearsDatagram, Follows, Step, EndsEvent}
use Rattle.servient_core.specs.Serving.{StandsFor}
use Rattle.servient_core.specs.Keeping.{LeavesNoMore, OthersKeep, MakesByHttp}
use Rattle.servient_core.specs.declared.layers.Layers.{Layers}
use Rattle.servient_trace.proofs.TraceLaws.{shows_in_order, shows_at_network}

-- ---- what is seen of calls alone

pub nothing_happened : (calls : List HandlerCall) → happened_in (map at_handler calls) ≡ []
nothing_happened [] = refl
nothing_happened (call ∷ calls) = nothing_happened calls

pub the_calls : (calls : List HandlerCall) → calls_in (map at_handler calls) ≡ calls
the_calls [] = refl
the_calls (call ∷ calls) = ap (λ (cs : List HandlerCall). call ∷ cs) (the_calls calls)

shows_calls : (net : NetSeen) (before after : List Seen) (calls : List HandlerCall) → RackShows before after calls
    → Shows (outside net before) (outside net after) (map at_handler calls)
shows_calls net before after calls shows = record {
  net = subst (λ (h : List Happening). NetShows net net h) (sym (nothing_happened calls)) (net_shows_none net);
  rack = subst (λ (cs : List HandlerCall). RackShows before after cs) (sym (the_calls calls)) shows;
}

-- ---- moves of one part

-- nothing is done
pub refines_nothing : (k : Layers) (w : Outside) → Refines StandsFor Shows (λ (s : State). Stays s) k k w w
refines_nothing k w = refines_stays StandsFor Shows shows_in_order k w

-- one act
pub refines_act : (k : Layers) (n m : NetSeen) (slots : List Seen) (a : Act) → NetShows n m (did a ∷ [])
    → Refines StandsFor Shows (Does (a ∷ [])) k k (outside n slots) (outside m slots)
refines_act k n m slots a shows = λ s stands.
    (s, stands, record { seen = at_network (did a) ∷ []; move = record { next = refl; saw = refl }; shows = shows_at_network n m slots (did a) shows })

-- the CoAP server changes
pub refines_coap : (Change : ℕ → Server → Server → Type 0) (k : Layers) (c : Server) (w : Outside) → Change k.moment k.coap c
    → Refines StandsFor Shows (OnCoap Change) k (record k { coap = c }) w w
refines_coap Change k c w change = λ s stands. (
  record s { coap = c },
  record { moment = stands.moment; http = stands.http; coap = refl; thing = stands.thing; directory = stands.directory },
  record {
    seen = [];
    move = (
      c,
      subst (λ (n : ℕ). Change n s.coap c) (sym stands.moment) (subst (λ (x : Server). Change k.moment x c) (sym stands.coap) change),
      record { next = refl; saw = refl },
    );
    shows = shows_in_order.none w;
  },
)

-- the connections change
pub refines_http : (Change : ℕ → Streams → Streams → Type 0) (k : Layers) (h : Slots) (w : Outside) → Leads (Change k.moment) k.http h
    → Refines StandsFor Shows (OnHttp Change) k (record k { http = h }) w w
refines_http Change k h w leads = λ s stands.
    let to = leads s.http stands.http in (
      record s { http = to.0 },
      record { moment = stands.moment; http = to.1; coap = stands.coap; thing = stands.thing; directory = stands.directory },
      record {
        seen = [];
        move = (to.0, subst (λ (n : ℕ). Change n s.http to.0) (sym stands.moment) to.2, record { next = refl; saw = refl });
        shows = shows_in_order.none w;
      },
    )

-- a move of the Things
pub refines_thing : (M : ThingMove) (k : Layers) (e : Kept) (net : NetSeen) (before after : List Seen)
    → Makes RackShows M k.exposed.state e.state before after
    → Refines StandsFor Shows (OnThing M) k (record k { exposed = e }) (outside net before) (outside net after)
refines_thing M k e net before after made = λ s stands. (
  record s { thing = e.state },
  record { moment = stands.moment; http = stands.http; coap = stands.coap; thing = refl; directory = stands.directory },
  record {
    seen = map at_handler made.seen;
    move = (e.state, made.seen, subst (λ (x : ThingState). M x made.seen e.state) (sym stands.thing) made.move, record { next = refl; saw = refl });
    shows = shows_calls net before after made.seen made.shows;
  },
)

-- the directory is asked
refines_directory : (q : RequestSeen) (done : Done) (k : Layers) (d : ServedEntries) (w : Outside) → DirectoryActs q k.moment done.outcome k.directory d → done.emissions ≡ []
    → Refines StandsFor Shows (PerformsOnDirectory q done) k (record k { directory = d }) w w
refines_directory q done k d w acts quiet = λ s stands. (
  record s { directory = d },
  record { moment = stands.moment; http = stands.http; coap = stands.coap; thing = stands.thing; directory = ap (λ (n : ℕ). standing_at n d) stands.moment },
  record {
    seen = [];
    move = (
      d,
      subst (λ (n : ℕ). ActsOnStanding q n done.outcome (standing_at s.moment s.directory) d) (sym stands.moment)
          (subst (λ (x : ServedEntries). ActsOnStanding q k.moment done.outcome x d) (sym stands.directory) acts),
      quiet,
      record { next = refl; saw = refl },
    );
    shows = shows_in_order.none w;
  },
)

-- a request by HTTP is performed, by the directory or by the Things
pub refines_by_http : (site : Site) (q : RequestSeen) (o : Outcome) (k : Layers) (e : Kept) (d : ServedEntries) (net : NetSeen) (before after : List Seen)
    (made : MakesByHttp k.exposed e k.directory d k.moment q o before after) → k.exposed.site ≡ site
    → Refines StandsFor Shows (PerformsByHttp site q made.done) k (record k { exposed = e; directory = d }) (outside net before) (outside net after)
refines_by_http site q o k e d net before after made at_site = elim made.move as (λ _. Refines StandsFor Shows (PerformsByHttp site q made.done) k (record k { exposed = e; directory = d }) (outside net before) (outside net after)) [
  | inl (is, acts, quiet, same, still) ↦ subst (λ (x : Kept). Refines StandsFor Shows (PerformsByHttp site q made.done) k (record k { exposed = x; directory = d }) (outside net before) (outside net after)) (sym same)
      (subst (λ (x : List Seen). Refines StandsFor Shows (PerformsByHttp site q made.done) k (record k { directory = d }) (outside net before) (outside net x)) (sym still)
      (refines_as StandsFor Shows (PerformsOnDirectory q made.done) (PerformsByHttp site q made.done) k (record k { directory = d }) (outside net before) (outside net before)
      (λ s seen t move. inl (is, move)) (refines_directory q made.done k d (outside net before) acts quiet)))
  | inr (isnt, makes, same) ↦ subst (λ (x : ServedEntries). Refines StandsFor Shows (PerformsByHttp site q made.done) k (record k { exposed = e; directory = x }) (outside net before) (outside net after)) (sym same)
      (refines_as StandsFor Shows (Performs site q made.done) (PerformsByHttp site q made.done) k (record k { exposed = e }) (outside net before) (outside net after)
      (λ s seen t move. inr (isnt, move))
      (refines_thing (Acts site q made.done) k e net before after
      (subst (λ (x : Site). Makes RackShows (Acts x q made.done) k.exposed.state e.state before after) at_site makes)))
]

-- ---- moves together, of this machine

pub then_moves : (P Q : Move) (k l m : Layers) (w v u : Outside) → Refines StandsFor Shows P k l w v → Refines StandsFor Shows Q l m v u
    → Refines StandsFor Shows (Then P Q) k m w u
then_moves P Q k l m w v u p q = refines_then StandsFor Shows shows_in_order P Q k l m w v u p q

pub passing_moves : {A : Type 0} (P Q : A → Move) (a : A) (k l m : Layers) (w v u : Outside) → Refines StandsFor Shows (P a) k l w v
    → Refines StandsFor Shows (Q a) l m v u → Refines StandsFor Shows (Passing P Q) k m w u
passing_moves P Q a k l m w v u p q = refines_passing StandsFor Shows shows_in_order P Q a k l m w v u p q

-- ---- datagrams

-- one that is too long
pub receives_long : (site : Site) (from : Endpoint) (bytes : List ℕ) (k : Layers) (w : Outside) → LONGEST_DATAGRAM < length bytes
    → Refines StandsFor Shows (HearsDatagram site from bytes) k k w w
receives_long site from bytes k w long =
    refines_as StandsFor Shows (λ (s : State). Stays s) (HearsDatagram site from bytes) k k w w (λ s seen t stays. inl (long, stays)) (refines_nothing k w)

-- one that is heard
pub receives_heard : (site : Site) (from : Endpoint) (bytes : List ℕ) (k l : Layers) (c : Server) (w v : Outside) (h : Heard)
    → length bytes ≤ LONGEST_DATAGRAM → Hears from bytes k.moment h k.coap c
    → Refines StandsFor Shows (AnswersDatagram site from h) (record k { coap = c }) l w v
    → Refines StandsFor Shows (HearsDatagram site from bytes) k l w v
receives_heard site from bytes k l c w v h short hears responds =
    refines_as StandsFor Shows (Passing (λ (x : Heard). OnCoap (λ now. Hears from bytes now x)) (AnswersDatagram site from)) (HearsDatagram site from bytes) k l w v
    (λ s seen t both. inr (short, both))
    (passing_moves (λ (x : Heard). OnCoap (λ now. Hears from bytes now x)) (AnswersDatagram site from) h k (record k { coap = c }) l w w v
    (refines_coap (λ now. Hears from bytes now h) k c w hears) responds)

-- nothing is done
pub heard_nothing : (site : Site) (from : Endpoint) (bytes : List ℕ) (k : Layers) (c : Server) (w : Outside) (h : Heard) → length bytes ≤ LONGEST_DATAGRAM
    → Hears from bytes k.moment h k.coap c → h ≡ ignored → Refines StandsFor Shows (HearsDatagram site from bytes) k (record k { coap = c }) w w
heard_nothing site from bytes k c w h short hears is =
    receives_heard site from bytes k (record k { coap = c }) c w w h short hears
    (subst (λ (x : Heard). Refines StandsFor Shows (AnswersDatagram site from x) (record k { coap = c }) (record k { coap = c }) w w) (sym is) (refines_nothing (record k { coap = c }) w))

-- bytes are sent back at once
pub heard_at_once : (site : Site) (from : Endpoint) (bytes sent : List ℕ) (k : Layers) (c : Server) (n m : NetSeen) (slots : List Seen) (h : Heard) → length bytes ≤ LONGEST_DATAGRAM
    → Hears from bytes k.moment h k.coap c → h ≡ answered_at_once sent → NetShows n m (did (act.Datagram from sent) ∷ [])
    → Refines StandsFor Shows (HearsDatagram site from bytes) k (record k { coap = c }) (outside n slots) (outside m slots)
heard_at_once site from bytes sent k c n m slots h short hears is shows =
    receives_heard site from bytes k (record k { coap = c }) c (outside n slots) (outside m slots) h short hears
    (subst (λ (x : Heard). Refines StandsFor Shows (AnswersDatagram site from x) (record k { coap = c }) (record k { coap = c }) (outside n slots) (outside m slots)) (sym is)
    (refines_act (record k { coap = c }) n m slots (act.Datagram from sent) shows))

-- a request is answered
answers_ask : (site : Site) (from : Endpoint) (ask : AskSeen) (request : PendingReply) (sent : List ℕ) (k : Layers) (c : Server) (done : Done) (n m : NetSeen) (slots : List Seen)
    → Answers request done.outcome (observed_target site k.exposed.state ask) sent k.coap c → NetShows n m (did (act.Datagram from sent) ∷ [])
    → Refines StandsFor Shows (AnswersAsk site from ask request done) k (record k { coap = c }) (outside n slots) (outside m slots)
answers_ask site from ask request sent k c done n m slots answers shows = λ s stands.
    let a = passing_moves (λ bytes. OnCoap (λ now. Answers request done.outcome (observed_target site k.exposed.state ask) bytes)) (λ bytes. Does (act.Datagram from bytes ∷ [])) sent
    k (record k { coap = c }) (record k { coap = c }) (outside n slots) (outside n slots) (outside m slots)
    (refines_coap (λ now. Answers request done.outcome (observed_target site k.exposed.state ask) sent) k c (outside n slots) answers)
    (refines_act (record k { coap = c }) n m slots (act.Datagram from sent) shows) s stands in (
      a.0,
      a.1,
      record {
        seen = a.2.seen;
        move = subst (λ (x : ThingState). Passing (λ bytes. OnCoap (λ now. Answers request done.outcome (observed_target site x ask) bytes)) (λ bytes. Does (act.Datagram from bytes ∷ [])) s a.2.seen a.0)
            (sym stands.thing) a.2.move;
        shows = a.2.shows;
      },
    )

-- a request is performed and answered, and its emissions are delivered
responds_asked : (site : Site) (from : Endpoint) (ask : AskSeen) (request : PendingReply) (sent : List ℕ) (k l : Layers) (e : Kept) (c : Server) (done : Done) (n m : NetSeen) (before after : List Seen) (v : Outside)
    → Makes RackShows (Acts site ask.request done) k.exposed.state e.state before after
    → Answers request done.outcome (observed_target site e.state ask) sent k.coap c → NetShows n m (did (act.Datagram from sent) ∷ [])
    → Refines StandsFor Shows (DeliversEach done.emissions) (record k { exposed = e; coap = c }) l (outside m after) v
    → Refines StandsFor Shows (AnswersDatagram site from (asked ask request)) k l (outside n before) v
responds_asked site from ask request sent k l e c done n m before after v made answers shows delivers =
    passing_moves (Performs site ask.request) (λ d. Then (AnswersAsk site from ask request d) (DeliversEach d.emissions)) done
    k (record k { exposed = e }) l (outside n before) (outside n after) v
    (refines_thing (Acts site ask.request done) k e n before after made)
    (then_moves (AnswersAsk site from ask request done) (DeliversEach done.emissions) (record k { exposed = e }) (record k { exposed = e; coap = c }) l (outside n after) (outside m after) v
    (answers_ask site from ask request sent (record k { exposed = e }) c done n m after answers shows) delivers)

pub heard_asked : (site : Site) (from : Endpoint) (bytes sent : List ℕ) (ask : AskSeen) (request : PendingReply) (o : Outcome) (k l : Layers) (e : Kept) (b c : Server)
    (n m : NetSeen) (before after : List Seen) (v : Outside) (h : Heard) (made : MakesAct k.exposed e ask.request o before after) → length bytes ≤ LONGEST_DATAGRAM → Hears from bytes k.moment h k.coap b
    → h ≡ asked ask request → k.exposed.site ≡ site → Answers request o (observed_target e.site e.state ask) sent b c → NetShows n m (did (act.Datagram from sent) ∷ [])
    → Refines StandsFor Shows (Each Delivers e.pending) (record k { exposed = e; coap = c }) l (outside m after) v
    → Refines StandsFor Shows (HearsDatagram site from bytes) k l (outside n before) v
heard_asked site from bytes sent ask request o k l e b c n m before after v h made short hears is same answers shows delivers =
    receives_heard site from bytes k l b (outside n before) v h short hears
    (subst (λ (x : Heard). Refines StandsFor Shows (AnswersDatagram site from x) (record k { coap = b }) l (outside n before) v) (sym is)
    (responds_asked site from ask request sent (record k { coap = b }) l e c made.done n m before after v
    (subst (λ (x : Site). Makes RackShows (Acts x ask.request made.done) k.exposed.state e.state before after) same made.made)
    (subst (λ (x : Site). Answers request made.done.outcome (observed_target x e.state ask) sent b c) (made.site ∙ same)
    (subst (λ (x : Outcome). Answers request x (observed_target e.site e.state ask) sent b c) (sym made.outcome) answers))
    shows
    (subst (λ (targets : List ℕ). Refines StandsFor Shows (Each Delivers targets) (record k { exposed = e; coap = c }) l (outside m after) v) made.pending delivers)))

-- ---- steps

-- moves at the greater moment are the step on an event
pub steps : (site : Site) (e : EventWithBytes) (k l m : Layers) (moment : ℕ) (w v u : Outside) → moment ≡ max k.moment e.event.moment
    → Refines StandsFor Shows (Follows site e.event.what e.bytes) (record k { moment = moment }) l w v → Refines StandsFor Shows EndsEvent l m v u
    → Refines StandsFor Shows (Step site e) k m w u
steps site e k l m moment w v u greater follows ends = λ s stands.
    let later = max s.moment e.event.moment in
    let at : later ≡ moment = ap (λ (n : ℕ). max n e.event.moment) stands.moment ∙ sym greater in
    let moved : StandsFor (record k { moment = moment }) (record s { moment = later }) = record {
      moment = at;
      http = stands.http;
      coap = stands.coap;
      thing = stands.thing;
      directory =
          same_later s.moment k.moment later s.directory k.directory (omega arith) (omega (arith, stands.moment)) stands.directory
          ∙ ap (λ (n : ℕ). standing_at n k.directory) at;
    } in
    let a = then_moves (Follows site e.event.what e.bytes) EndsEvent (record k { moment = moment }) l m w v u follows ends (record s { moment = later }) moved in
    (a.0, a.1, record { seen = a.2.seen; move = a.2.move; shows = a.2.shows })

-- ---- streams that are stood for

stream_of : Option Held → Option Connection
stream_of None = None
stream_of (Some h) = Some (record { stream = h.rest; taken = 0; continued = h.continued; owed = h.owed; active = h.active })

streams_of : Slots → Streams
streams_of b = record { places = map stream_of b.places; waits = b.waits }

holds_stream : (h : Option Held) → HoldsIfOpen h (stream_of h)
unfolding stream_of
holds_stream None = tt
holds_stream (Some h) = record { rest = refl; behind = λ some. refl; within = omega arith; continued = refl; owed = refl; active = refl }

hold_streams : (hs : List (Option Held)) → HoldAll hs (map stream_of hs)
hold_streams [] = tt
hold_streams (h ∷ hs) = (holds_stream h, hold_streams hs)

-- the state that the code keeps stands for some state of the machine
pub stands_for_some : (kept : Layers) → (s : State) × StandsFor kept s
unfolding streams_of
stands_for_some kept = (
  record { moment = kept.moment; http = streams_of kept.http; coap = kept.coap; thing = kept.exposed.state; directory = kept.directory },
  record { moment = refl; http = record { places = hold_streams kept.http.places; waits = refl }; coap = refl; thing = refl; directory = refl },
)

-- a state that stands for one does so too where only the emissions that wait to be handed out are others
pub refines_from : (P : Move) (k l m : Layers) (w v : Outside) → l.moment ≡ k.moment → l.http ≡ k.http → l.coap ≡ k.coap → l.exposed.state ≡ k.exposed.state → l.directory ≡ k.directory
    → Refines StandsFor Shows P l m w v → Refines StandsFor Shows P k m w v
refines_from P k l m w v moment http coap state directory p = λ s stands. p s (record {
  moment = stands.moment ∙ sym moment;
  http = subst (λ (x : Slots). ConnectionsStandFor x s.http) (sym http) stands.http;
  coap = stands.coap ∙ sym coap;
  thing = stands.thing ∙ sym state;
  directory = stands.directory ∙ sym (ap₂ standing_at moment directory);
})

-- a rack that fits before a move fits after it
pub fits_after : (P : Move) (k l : Layers) (site : Site) (w v : Outside) → Refines StandsFor Shows P k l w v → Fits site w.slots → Fits site v.slots
fits_after P k l site w v p fits =
    let from = stands_for_some k in
    let a = p from.0 from.1 in
    site_stays (turns_in (calls_in a.2.seen)) w.slots v.slots site a.2.shows.rack.turns fits

-- ---- one connection and the others

-- a fact of all others, and of the one that was changed, holds of each
at_place : (P : Option Held → Type 0) (c x : ℕ) (h : Option Held) (hs : List (Option Held)) → P (place_at x hs) → (x ≡ c → P (place_at c (with_place c h hs)))
    → P (place_at x (with_place c h hs))
at_place P c x h [] one other = one
at_place P zero zero h (g ∷ hs) one other = other refl
at_place P zero (suc x) h (g ∷ hs) one other = one
at_place P (suc c) zero h (g ∷ hs) one other = one
at_place P (suc c) (suc x) h (g ∷ hs) one other = at_place P c x h hs one (λ e. other (ap suc e))

-- each connection has room where one was changed that has
pub room_after : (c : ℕ) (b d : Slots) → ((x : ℕ) → HasRoom x b) → OthersStay c b d → HasRoom c d → (x : ℕ) → HasRoom x d
room_after c b d all stay room = λ x.
    subst (λ (hs : List (Option Held)). HasRoomFor longest_piece (place_at x hs)) (sym stay.places)
    (at_place (HasRoomFor longest_piece) c x stay.held b.places (all x)
    (λ e. subst (λ (hs : List (Option Held)). HasRoomFor longest_piece (place_at c hs)) stay.places room))

-- no more is left of each where no more is left of the one that was changed
pub others_left : (c : ℕ) (b d : Slots) → OthersStay c b d → left_at c d ≤ left_at c b → LeavesNoMore b d
others_left c b d stay less = λ x.
    subst (λ (hs : List (Option Held)). left_in (place_at x hs) ≤ left_at x b) (sym stay.places)
    (at_place (λ y. left_in y ≤ left_at x b) c x stay.held b.places (omega arith)
    (λ e. subst (λ (z : ℕ). left_in (place_at c (with_place c stay.held b.places)) ≤ left_at z b) (sym e)
    (subst (λ (hs : List (Option Held)). left_in (place_at c hs) ≤ left_at c b) stay.places less)))

pub others_keep : (c : ℕ) (b d : Slots) → OthersStay c b d → OthersKeep c b d
others_keep c b d stay = λ x other.
    subst (λ (hs : List (Option Held)). left_in (place_at x hs) ≤ left_at x b) (sym stay.places)
    (at_place (λ y. left_in y ≤ left_at x b) c x stay.held b.places (omega arith) (λ e. absurd (other e)))

-- where none is open each has room
none_held : (n c : ℕ) (hs : List (Option Held)) → HoldAll hs (replicate n None) → HasRoomFor longest_piece (place_at c hs)
none_held n c [] holds = tt
none_held zero c (h ∷ hs) holds = absurd holds
none_held (suc n) zero (None ∷ hs) holds = tt
none_held (suc n) (suc c) (None ∷ hs) holds = none_held n c hs holds.1
none_held (suc n) c (Some h ∷ hs) holds = absurd holds.0

pub none_have_room : (b : Slots) → ConnectionsStandFor b none_open → (c : ℕ) → HasRoom c b
none_have_room b stands = λ c. none_held 64 c b.places stands.places
