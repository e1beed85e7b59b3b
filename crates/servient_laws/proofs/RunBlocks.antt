-- The origin of each body and each part of the CoAP server, over a run.
use Rattle.std.proofs.Common.{◌≡◌, ◌-◌, ℕ, suc, List, [], ◌∷◌, ◌++◌, refl, sym, ap, subst, ◌∙◌, max, inl, inr, length, take, drop, append_assoc}
use Rattle.std.specs.Prelude.{◌⊎◌, ◌==◌, Bool, true, false, Option, Some, None, option_map, All, if◌then◌else◌}
use Rattle.std.proofs.lemmas.List.{append-nil}
use Rattle.std.proofs.lemmas.List.Elements.{All-nil, All-append, All-take, All-drop, All-push, All-weaker}
use Rattle.servient_base.proofs.MovesLaws.{each_more}
use Rattle.coap_msg.specs.declared.constants.TheConstants.{GET}
use Rattle.coap_msg.specs.declared.endpoint.Endpoint.{Endpoint}
use Rattle.coap_msg.specs.Grammar.{CoapMessage}
use Rattle.coap_blocks.specs.Bodies.{Body, most_bodies, other_bodies, without_place, with_body}
use Rattle.coap_blocks.specs.Laws.{Call, adds, clears, after_call, IsLeftOf, no_more, stays as stays_in, goes as goes_from, blocks_among, parts_after}
use Rattle.coap_blocks.specs.Parts.{Arrival as BlockArrival, Part}
use Rattle.coap_opts.specs.Reading.{AskSeen, asked as what_is_asked}
use Rattle.coap_bind.specs.declared.blocks.BlockUse.{BlockUse}
use Rattle.coap_bind.specs.declared.blocks.BlockUse.TheVariants as blocks
use Rattle.coap_bind.specs.declared.blocks.Giving.{Giving}
use Rattle.coap_bind.specs.Blocks.{block2_of, bodies_after, body_of, is_kept}
use Rattle.coap_bind.specs.Links.{bodies_with_links, is_text_kept, links_content, size_asked}
use Rattle.coap_bind.specs.declared.pending.PendingReply.{PendingReply}
use Rattle.coap_bind.specs.declared.server.Server.{Server}
use Rattle.coap_bind.specs.Server.{Heard, ignored, answered_at_once, asked, asks_links, observing_in, block_arrival, pending_of, pending_joined, with_whole_body}
use Rattle.thing_ops.specs.declared.outcome.Outcome.{Outcome}
use Rattle.thing_state.specs.State.{State as ThingState}
use Rattle.thing_core.specs.Thing.{Done, Acts}
use Rattle.servient_outside.specs.declared.net.EventWithBytes.{EventWithBytes}
use Rattle.servient_outside.specs.Network.{heard}
use Rattle.std.proofs.lemmas.List.Elements.{filter_map-append}
use Rattle.thing_handler.specs.Turns.{HandlerCall}
use Rattle.servient_trace.specs.Trace.{Sighting, at_network, call_in, calls_in}
use Rattle.servient_core.specs.Links.{segments_of, text_of_links}
use Rattle.servient_core.specs.Machine.{Site, State, start, AnswersDatagram, EndsEvent, EventAndStep, Run}
use Rattle.servient_core.proofs.MeaningLaws.{ends_quiet}
use Rattle.servient_laws.specs.Requests.{Brings, moment_of}
use Rattle.servient_laws.specs.Transfers.{ActsOnce, by_act, by_links, WasGiven, IsBlockIn, AreBlocksFrom}
use Rattle.servient_laws.proofs.KeptBlocks.{SameBlocks, same_state, ends_same, BringsDatagram, event_same}
use Rattle.servient_laws.proofs.HeardBlocks.{AreBlocksOf, no_block, one_block, HearsBodies, same_bodies, links_kept, HearsBlocks, hears_blocks, AsksFor, asks_nothing, asks_act, asks_whole, hears_asks, Answered, asked_is_answered}
use Rattle.servient_laws.proofs.RequestLaws.{Parts, parts_of}

-- ---- rows of blocks

-- the greatest moment after some events
abbrev moment_after : ℕ → List EventWithBytes → ℕ
moment_after moment [] = moment
moment_after moment (e ∷ es) = moment_after (max moment e.event.moment) es

moment_push : (moment : ℕ) (es : List EventWithBytes) (e : EventWithBytes) → moment_after moment (es ++ e ∷ []) ≡ max (moment_after moment es) e.event.moment
moment_push moment [] e = refl
moment_push moment (x ∷ es) e = moment_push (max moment x.event.moment) es e

-- the next event brings a block
row_more : (moment : ℕ) (took : List EventWithBytes) (row : List BlockArrival) (e : EventWithBytes) (a : BlockArrival) → AreBlocksFrom moment took row
    → IsBlockIn (max (moment_after moment took) e.event.moment) e a → AreBlocksFrom moment (took ++ e ∷ []) (row ++ a ∷ [])
row_more moment [] row e a none is = inr (a, [], is, refl, ap (λ (r : List BlockArrival). r ++ a ∷ []) none)
row_more moment (x ∷ took) row e a (inl later) is = inl (row_more (max moment x.event.moment) took row e a later is)
row_more moment (x ∷ took) row e a (inr (b, rest, here, later, same)) is =
    inr (b, rest ++ a ∷ [], here, row_more (max moment x.event.moment) took rest e a later is, ap (λ (r : List BlockArrival). r ++ a ∷ []) same)

-- or none
row_stays : (moment : ℕ) (took : List EventWithBytes) (row : List BlockArrival) (e : EventWithBytes) → AreBlocksFrom moment took row → AreBlocksFrom moment (took ++ e ∷ []) row
row_stays moment [] row e none = inl none
row_stays moment (x ∷ took) row e (inl later) = inl (row_stays (max moment x.event.moment) took row e later)
row_stays moment (x ∷ took) row e (inr (b, rest, here, later, same)) = inr (b, rest, here, row_stays (max moment x.event.moment) took rest e later, same)

-- the rest of none, and of some
left_of_none : (row blocks : List BlockArrival) → IsLeftOf row blocks → blocks ≡ [] → row ≡ []
left_of_none row blocks no_more none = refl
left_of_none row blocks (stays_in a row' blocks' h) none = absurd cc
left_of_none row blocks (goes_from a row' blocks' h) none = absurd cc

left_of_some : (a : BlockArrival) (rest row blocks : List BlockArrival) → IsLeftOf row blocks → blocks ≡ a ∷ rest
    → IsLeftOf row rest ⊎ ((fewer : List BlockArrival) × (row ≡ a ∷ fewer) × IsLeftOf fewer rest)
left_of_some a rest row blocks no_more some = absurd cc
left_of_some a rest row blocks (stays_in b fewer blocks' h) some =
    let first : b ≡ a = cc in
    let others : blocks' ≡ rest = cc in
    inr (fewer, ap (λ (x : BlockArrival). x ∷ fewer) first, subst (IsLeftOf fewer) others h)
left_of_some a rest row blocks (goes_from b row' blocks' h) some =
    let others : blocks' ≡ rest = cc in
    inl (subst (IsLeftOf row') others h)

-- the rest of a row of blocks of a run is one
pub row_left : (moment : ℕ) (took : List EventWithBytes) (row blocks : List BlockArrival) → IsLeftOf row blocks → AreBlocksFrom moment took blocks → AreBlocksFrom moment took row
row_left moment [] row blocks left none = left_of_none row blocks left none
row_left moment (e ∷ es) row blocks left (inl later) = inl (row_left (max moment e.event.moment) es row blocks left later)
row_left moment (e ∷ es) row blocks left (inr (a, rest, here, later, same)) =
    by (λ fewer h. row_left (max moment e.event.moment) es fewer rest h later) (left_of_some a rest row blocks left same)
  where
    by : ((fewer : List BlockArrival) → IsLeftOf fewer rest → AreBlocksFrom (max moment e.event.moment) es fewer)
        → IsLeftOf row rest ⊎ ((fewer : List BlockArrival) × (row ≡ a ∷ fewer) × IsLeftOf fewer rest) → AreBlocksFrom moment (e ∷ es) row
    by more (inl left') = inl (more row left')
    by more (inr (fewer, is, left')) = inr (a, fewer, here, more fewer left', is)

-- ---- calls

calls_append : (parts : List Part) (calls more : List Call) → parts_after parts (calls ++ more) ≡ parts_after (parts_after parts calls) more
calls_append parts [] more = refl
calls_append parts (c ∷ calls) more = calls_append (after_call c parts) calls more

blocks_append : (calls more : List Call) → blocks_among (calls ++ more) ≡ blocks_among calls ++ blocks_among more
blocks_append [] more = refl
blocks_append (adds a ∷ calls) more = ap (λ (row : List BlockArrival). a ∷ row) (blocks_append calls more)
blocks_append (clears place ∷ calls) more = blocks_append calls more

-- ---- bodies

all_without : (P : Body → Type 0) (place : Option ℕ) (bodies : List Body) → All P bodies → All P (without_place place bodies)
all_without P None bodies all = all
all_without P (Some i) bodies all = All-append P (take i bodies) (drop (suc i) bodies) (All-take P i bodies all) (All-drop P (suc i) bodies all)

all_with : (P : Body → Type 0) (b : Body) (bodies : List Body) → All P bodies → P b → All P (with_body b bodies)
all_with P b bodies all one =
    All-drop P (length (other_bodies b.from b.path bodies ++ b ∷ []) - most_bodies) (other_bodies b.from b.path bodies ++ b ∷ [])
    (All-push P (other_bodies b.from b.path bodies) b (all_without P _ bodies all) one)

all_after : (P : Body → Type 0) (u : BlockUse) (from : Endpoint) (o : Outcome) (bodies : List Body) → All P bodies
    → ((g : Giving) → u ≡ blocks.Gives g → P (body_of from g.path g.moment o)) → All P (bodies_after u from o bodies)
all_after P blocks.Whole from o bodies all one = all
all_after P (blocks.Joined b) from o bodies all one = all
all_after P (blocks.Gives g) from o bodies all one = by (is_kept g.szx o)
  where
    by : (kept : Bool) → All P (if kept then with_body (body_of from g.path g.moment o) bodies else bodies)
    by true = all_with P (body_of from g.path g.moment o) bodies all (one g refl)
    by false = all

-- the links are kept, if they are given in more than one block
all_links : (P : Body → Type 0) (from : Endpoint) (path : List (List ℕ)) (now : ℕ) (szx : Option ℕ) (text : List ℕ) (bodies : List Body) → All P bodies
    → P (record { from = from; path = path; content = links_content text; moment = now }) → All P (bodies_with_links from path now szx text bodies)
all_links P from path now szx text bodies all one = by (is_text_kept szx (length text))
  where
    it : Body
    it = record { from = from; path = path; content = links_content text; moment = now }

    by : (kept : Bool) → All P (if kept then with_body it bodies else bodies)
    by true = all_with P it bodies all one
    by false = all

-- ---- what is known after a run

pub record Past (site : Site) (exchanges : ℕ) (epoch : Option ℕ) (took : List EventWithBytes) (seen : List Sighting) (s : State) : Type 0 where
  pub run : Run site took (start site exchanges epoch) seen s
  pub moment : s.moment ≡ moment_after 0 took
  pub calls : List Call
  pub parts : s.coap.parts ≡ parts_after [] calls
  pub blocks : AreBlocksFrom 0 took (blocks_among calls)
  pub bodies : All (WasGiven site exchanges epoch took seen) s.coap.bodies
  pub links : s.coap.links ≡ text_of_links (segments_of site)

-- a body that was given in a run was given in a longer one
given_longer : (site : Site) (exchanges : ℕ) (epoch : Option ℕ) (took es : List EventWithBytes) (seen shown : List Sighting) (b : Body) → WasGiven site exchanges epoch took seen b
    → WasGiven site exchanges epoch (took ++ es) (seen ++ shown) b
given_longer site exchanges epoch took es seen shown b g = record {
  earlier = g.earlier;
  e = g.e;
  later = g.later ++ es;
  events = ap (λ (x : List EventWithBytes). x ++ es) g.events ∙ append_assoc g.earlier (g.e ∷ g.later) es;
  before = g.before;
  during = g.during;
  after = g.after ++ shown;
  trace = ap (λ (x : List Sighting). x ++ shown) g.trace
      ∙ (append_assoc g.before (g.during ++ g.after) shown ∙ ap (λ (x : List Sighting). g.before ++ x) (append_assoc g.during g.after shown));
  s = g.s;
  t = g.t;
  run = g.run;
  step = g.step;
  m = g.m;
  brings = g.brings;
  path = g.path;
  gave = g.gave;
  moment = g.moment;
}

-- a request is answered, and the event ends: one act is made
pub acts_once : (site : Site) (what : AskSeen) (ask : PendingReply) (e : EventWithBytes) (u middle t : State) (answer rest seen : List Sighting)
    (done : Done) → Answered site what ask done u answer middle → seen ≡ at_network (heard e) ∷ answer ++ rest → EndsEvent middle rest t → ActsOnce site what.request done u seen t
acts_once site what ask e u middle t answer rest seen done a all ends =
    let quiet = ends_quiet middle t rest ends in
    let calls_are : calls_in answer ≡ calls_in seen =
    sym (ap calls_in all ∙ filter_map-append call_in answer rest ∙ ap (λ (x : List HandlerCall). calls_in answer ++ x) quiet.calls ∙ append-nil (calls_in answer)) in
    subst (λ (x : ThingState). Acts site what.request done u.thing (calls_in seen) x) (sym quiet.thing)
    (subst (λ (x : List HandlerCall). Acts site what.request done u.thing x middle.thing) calls_are a.acts)

-- a body that is given now
given_now : (site : Site) (exchanges : ℕ) (epoch : Option ℕ) (took : List EventWithBytes) (seen shown : List Sighting) (from : Endpoint) (m : CoapMessage) (e : EventWithBytes) (s t : State) (done : Done) (b : Body)
    → Run site took (start site exchanges epoch) seen s → EventAndStep site e s shown t → Brings from m e → ActsOnce site (what_is_asked m).request done s shown t
    → b ≡ body_of from (what_is_asked m).request.path (moment_of s e) done.outcome → WasGiven site exchanges epoch (took ++ e ∷ []) (seen ++ shown) b
given_now site exchanges epoch took seen shown from m e s t done b run step brings once is = record {
  earlier = took;
  e = e;
  later = [];
  events = refl;
  before = seen;
  during = shown;
  after = [];
  trace = ap (λ (x : List Sighting). seen ++ x) (sym (append-nil shown));
  s = s;
  t = t;
  run = run;
  step = step;
  m = m;
  brings = subst (λ (f : Endpoint). Brings f m e) (sym (ap (λ (x : Body). x.from) is)) brings;
  path = sym (ap (λ (x : Body). x.path) is);
  gave = by_act done once (ap (λ (x : Body). x.content.bytes) is);
  moment = ap (λ (x : Body). x.moment) is;
}

-- the links that are given now
links_now : (site : Site) (exchanges : ℕ) (epoch : Option ℕ) (took : List EventWithBytes) (seen shown : List Sighting) (from : Endpoint) (m : CoapMessage) (e : EventWithBytes) (s t : State)
    → Past site exchanges epoch took seen s → EventAndStep site e s shown t → Brings from m e → asks_links m ≡ true
    → WasGiven site exchanges epoch (took ++ e ∷ []) (seen ++ shown) (record { from = from; path = (what_is_asked m).request.path; content = links_content s.coap.links; moment = moment_of s e })
links_now site exchanges epoch took seen shown from m e s t past step brings of_links = record {
  earlier = took;
  e = e;
  later = [];
  events = refl;
  before = seen;
  during = shown;
  after = [];
  trace = ap (λ (x : List Sighting). seen ++ x) (sym (append-nil shown));
  s = s;
  t = t;
  run = past.run;
  step = step;
  m = m;
  brings = brings;
  path = refl;
  gave = by_links of_links past.links;
  moment = refl;
}

-- ---- an event more

-- nothing comes to the parts and the bodies
past_same : (site : Site) (exchanges : ℕ) (epoch : Option ℕ) (took : List EventWithBytes) (seen shown : List Sighting) (e : EventWithBytes) (s t : State) → Past site exchanges epoch took seen s
    → EventAndStep site e s shown t → SameBlocks (record s { moment = max s.moment e.event.moment }) t → Past site exchanges epoch (took ++ e ∷ []) (seen ++ shown) t
past_same site exchanges epoch took seen shown e s t past step same = record {
  run = each_more (EventAndStep site) took e (start site exchanges epoch) s t seen shown past.run step;
  moment = same.moment ∙ (ap (λ (n : ℕ). max n e.event.moment) past.moment ∙ sym (moment_push 0 took e));
  calls = past.calls;
  parts = same.parts ∙ past.parts;
  blocks = row_stays 0 took (blocks_among past.calls) e past.blocks;
  bodies = subst (All (WasGiven site exchanges epoch (took ++ e ∷ []) (seen ++ shown))) (sym same.bodies)
      (All-weaker (WasGiven site exchanges epoch took seen) (WasGiven site exchanges epoch (took ++ e ∷ []) (seen ++ shown)) (given_longer site exchanges epoch took (e ∷ []) seen shown) s.coap.bodies past.bodies);
  links = same.links ∙ past.links;
}

-- the blocks of a datagram are those of its event
row_heard : (took : List EventWithBytes) (calls more : List Call) (e : EventWithBytes) (now : ℕ) (d : BringsDatagram e) → now ≡ max (moment_after 0 took) e.event.moment
    → AreBlocksFrom 0 took (blocks_among calls) → AreBlocksOf d.from e.bytes now (blocks_among more) → AreBlocksFrom 0 (took ++ e ∷ []) (blocks_among (calls ++ more))
row_heard took calls more e now d at row (no_block none) =
    subst (AreBlocksFrom 0 (took ++ e ∷ [])) (sym (blocks_append calls more ∙ (ap (λ (r : List BlockArrival). blocks_among calls ++ r) none ∙ append-nil (blocks_among calls))))
    (row_stays 0 took (blocks_among calls) e row)
row_heard took calls more e now d at row (one_block m b spells request wants is) =
    subst (AreBlocksFrom 0 (took ++ e ∷ [])) (sym (blocks_append calls more ∙ ap (λ (r : List BlockArrival). blocks_among calls ++ r) is))
    (row_more 0 took (blocks_among calls) e (block_arrival d.from now m b) row
    (subst (λ (n : ℕ). IsBlockIn n e (block_arrival d.from now m b)) at
    (record {
      from = d.from;
      m = m;
      b = b;
      brings = record { size = d.size; datagram = d.datagram; short = d.short; spells = spells; request = request };
      wants = wants;
      is = refl;
    })))

-- The bodies after a datagram was answered: those before, and one that was given now at most.
record AfterAnswer (site : Site) (exchanges : ℕ) (epoch : Option ℕ) (took : List EventWithBytes) (seen : List Sighting) (server : Server) (middle : State) (now : ℕ) : Type 0 where
  parts : middle.coap.parts ≡ server.parts
  links : middle.coap.links ≡ server.links
  moment : middle.moment ≡ now
  bodies : All (WasGiven site exchanges epoch took seen) middle.coap.bodies

-- a request that is asked as it is gives a body at most
one_given : (P : Body → Type 0) (now : ℕ) (m : CoapMessage) (slot : ℕ) (from : Endpoint) (o : Outcome) (bodies : List Body) → All P bodies
    → P (body_of from (what_is_asked m).request.path now o) → All P (bodies_after (pending_of from now m slot).blocks from o bodies)
one_given P now m slot from o bodies all one = by (m.code == GET)
  where
    giving : Giving
    giving = record { path = (what_is_asked m).request.path; szx = option_map (λ z. z.szx) (block2_of (observing_in m) (what_is_asked m)); moment = now }

    GivesSo : BlockUse → Type 0
    GivesSo (blocks.Gives g) = P (body_of from g.path g.moment o)
    GivesSo blocks.Whole = Unit {0}
    GivesSo (blocks.Joined b) = Unit {0}

    by : (b : Bool) → All P (bodies_after (if b then blocks.Gives giving else blocks.Whole) from o bodies)
    by true = all_after P (blocks.Gives giving) from o bodies all (λ g is. subst GivesSo is one)
    by false = all

answered_past : (site : Site) (exchanges : ℕ) (epoch : Option ℕ) (took : List EventWithBytes) (seen shown : List Sighting) (e : EventWithBytes) (s t : State) (past : Past site exchanges epoch took seen s)
    → EventAndStep site e s shown t → (d : BringsDatagram e) (p : Parts site d.from e.bytes e s shown t) → HearsBlocks d.from e.bytes (moment_of s e) s.coap p.server
    → AsksFor d.from e.bytes (moment_of s e) p.what → AfterAnswer site exchanges epoch (took ++ e ∷ []) (seen ++ shown) p.server p.middle (moment_of s e)
answered_past site exchanges epoch took seen shown e s t past step d p hears asks =
    by_heard p.what refl asks
  where
    u : State
    u = record s { moment = moment_of s e; coap = p.server }

    Given : Body → Type 0
    Given = WasGiven site exchanges epoch (took ++ e ∷ []) (seen ++ shown)

    old : All Given s.coap.bodies
    old = All-weaker (WasGiven site exchanges epoch took seen) Given (given_longer site exchanges epoch took (e ∷ []) seen shown) s.coap.bodies past.bodies

    heard_bodies : HearsBodies d.from e.bytes (moment_of s e) s.coap p.server → All Given p.server.bodies
    heard_bodies (same_bodies is) = subst (All Given) (sym is) old
    heard_bodies (links_kept m spells request of_links is) =
        subst (All Given) (sym is)
        (all_links Given d.from (what_is_asked m).request.path (moment_of s e) (size_asked (observing_in m) (what_is_asked m)) s.coap.links s.coap.bodies old
        (links_now site exchanges epoch took seen shown d.from m e s t past step
        (record { size = d.size; datagram = d.datagram; short = d.short; spells = spells; request = request }) of_links))

    before : All Given p.server.bodies
    before = heard_bodies hears.bodies

    same : SameBlocks u p.middle → AfterAnswer site exchanges epoch (took ++ e ∷ []) (seen ++ shown) p.server p.middle (moment_of s e)
    same still = record { parts = still.parts; links = still.links; moment = still.moment; bodies = subst (All Given) (sym still.bodies) before }

    answers_as : (h : Heard) → p.what ≡ h → AnswersDatagram site d.from h u p.answer p.middle
    answers_as h is = subst (λ (x : Heard). AnswersDatagram site d.from x u p.answer p.middle) is p.answers

    after : (what : AskSeen) (ask : PendingReply) → AnswersDatagram site d.from (asked what ask) u p.answer p.middle
        → ((done : Done) → Answered site what ask done u p.answer p.middle → All Given (bodies_after ask.blocks ask.from done.outcome p.server.bodies))
        → AfterAnswer site exchanges epoch (took ++ e ∷ []) (seen ++ shown) p.server p.middle (moment_of s e)
    after what ask answers given =
        let a = asked_is_answered site d.from what ask u p.middle p.answer answers in
        record { parts = a.parts; links = a.links; moment = a.moment; bodies = subst (All Given) (sym a.bodies) (given answers.0 a) }

    by_heard : (h : Heard) → p.what ≡ h → AsksFor d.from e.bytes (moment_of s e) p.what → AfterAnswer site exchanges epoch (took ++ e ∷ []) (seen ++ shown) p.server p.middle (moment_of s e)
    by_heard ignored is asks = same (same_state u p.middle (answers_as ignored is).next)
    by_heard (answered_at_once bytes) is asks = same (same_state u p.middle (answers_as (answered_at_once bytes) is).next)
    by_heard (asked what ask) is (asks_nothing none) = absurd (none what ask is)
    by_heard (asked what ask) is (asks_act m slot spells request asks_it) =
        after (what_is_asked m) (pending_of d.from (moment_of s e) m slot) (answers_as (asked (what_is_asked m) (pending_of d.from (moment_of s e) m slot)) asks_it)
        (λ done a. one_given Given (moment_of s e) m slot d.from done.outcome p.server.bodies before
        (given_now site exchanges epoch took seen shown d.from m e s t done (body_of d.from (what_is_asked m).request.path (moment_of s e) done.outcome) past.run step
        (record { size = d.size; datagram = d.datagram; short = d.short; spells = spells; request = request })
        (acts_once site (what_is_asked m) (pending_of d.from (moment_of s e) m slot) e u p.middle t p.answer p.rest shown done a p.whole p.ends) refl))
    by_heard (asked what ask) is (asks_whole m slot b body asks_it) =
        after (with_whole_body body (what_is_asked m)) (pending_joined d.from m slot b) (answers_as (asked (with_whole_body body (what_is_asked m)) (pending_joined d.from m slot b)) asks_it)
        (λ done a. before)

past_heard : (site : Site) (exchanges : ℕ) (epoch : Option ℕ) (took : List EventWithBytes) (seen shown : List Sighting) (e : EventWithBytes) (s t : State) → Past site exchanges epoch took seen s
    → EventAndStep site e s shown t → BringsDatagram e → Past site exchanges epoch (took ++ e ∷ []) (seen ++ shown) t
past_heard site exchanges epoch took seen shown e s t past step d =
    let p = parts_of site d.from d.size e s t shown d.datagram d.short step in
    let hears = hears_blocks d.from e.bytes (moment_of s e) p.what s.coap p.server p.hears in
    let after = answered_past site exchanges epoch took seen shown e s t past step d p hears (hears_asks d.from e.bytes (moment_of s e) p.what s.coap p.server p.hears) in
    let ends = ends_same p.middle t p.rest p.ends in
    let at : moment_of s e ≡ max (moment_after 0 took) e.event.moment = ap (λ (n : ℕ). max n e.event.moment) past.moment in
    record {
      run = each_more (EventAndStep site) took e (start site exchanges epoch) s t seen shown past.run step;
      moment = ends.moment ∙ (after.moment ∙ (at ∙ sym (moment_push 0 took e)));
      calls = past.calls ++ hears.calls;
      parts = ends.parts ∙ (after.parts ∙ (hears.parts ∙ (ap (λ (ps : List Part). parts_after ps hears.calls) past.parts ∙ sym (calls_append [] past.calls hears.calls))));
      blocks = row_heard took past.calls hears.calls e (moment_of s e) d at past.blocks hears.blocks;
      bodies = subst (All (WasGiven site exchanges epoch (took ++ e ∷ []) (seen ++ shown))) (sym ends.bodies) after.bodies;
      links = ends.links ∙ (after.links ∙ (hears.links ∙ past.links));
    }

past_event : (site : Site) (exchanges : ℕ) (epoch : Option ℕ) (took : List EventWithBytes) (seen shown : List Sighting) (e : EventWithBytes) (s t : State) → Past site exchanges epoch took seen s
    → EventAndStep site e s shown t → Past site exchanges epoch (took ++ e ∷ []) (seen ++ shown) t
past_event site exchanges epoch took seen shown e s t past step = by (event_same site e s t shown step)
  where
    by : SameBlocks (record s { moment = max s.moment e.event.moment }) t ⊎ BringsDatagram e → Past site exchanges epoch (took ++ e ∷ []) (seen ++ shown) t
    by (inl same) = past_same site exchanges epoch took seen shown e s t past step same
    by (inr d) = past_heard site exchanges epoch took seen shown e s t past step d

-- ---- runs

past_events : (site : Site) (exchanges : ℕ) (epoch : Option ℕ) (took es : List EventWithBytes) (seen shown : List Sighting) (s t : State) → Past site exchanges epoch took seen s → Run site es s shown t
    → Past site exchanges epoch (took ++ es) (seen ++ shown) t
past_events site exchanges epoch took [] seen shown s t past still =
    subst (λ (x : State). Past site exchanges epoch (took ++ []) (seen ++ shown) x) (sym still.next)
    (subst (λ (x : List Sighting). Past site exchanges epoch (took ++ []) (seen ++ x) s) (sym still.saw)
    (subst (λ (x : List Sighting). Past site exchanges epoch (took ++ []) x s) (sym (append-nil seen))
    (subst (λ (x : List EventWithBytes). Past site exchanges epoch x seen s) (sym (append-nil took)) past)))
past_events site exchanges epoch took (e ∷ es) seen shown s t past w =
    let more = past_events site exchanges epoch (took ++ e ∷ []) es (seen ++ w.first) w.second w.mid t (past_event site exchanges epoch took seen w.first e s w.mid past w.one) w.other in
    subst (λ (x : List EventWithBytes). Past site exchanges epoch x (seen ++ shown) t) (append_assoc took (e ∷ []) es)
    (subst (λ (x : List Sighting). Past site exchanges epoch ((took ++ e ∷ []) ++ es) x t) (append_assoc seen w.first w.second ∙ ap (λ (x : List Sighting). seen ++ x) (sym w.whole)) more)

-- the past of each run from the start
pub past_of : (site : Site) (exchanges : ℕ) (epoch : Option ℕ) (took : List EventWithBytes) (seen : List Sighting) (t : State) → Run site took (start site exchanges epoch) seen t → Past site exchanges epoch took seen t
past_of site exchanges epoch took seen t run =
    past_events site exchanges epoch [] took [] seen (start site exchanges epoch) t (record {
      run = record { next = refl; saw = refl };
      moment = refl;
      calls = [];
      parts = refl;
      blocks = refl;
      bodies = All-nil (WasGiven site exchanges epoch [] []);
      links = refl;
    }) run
