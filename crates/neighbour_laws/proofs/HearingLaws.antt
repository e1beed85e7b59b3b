-- The effect of a datagram, with its answer, on the exchanges, the bodies and the parts of a server.
use Rattle.std.proofs.Common.{◌≡◌, ◌∙◌, ℕ, Bool, true, false, cond, List, [], ◌∷◌, ◌++◌, map, find, refl, sym, ap, subst}
use Rattle.std.specs.Prelude.{Option, Some, None, ◌==◌}
use Rattle.std.specs.List.{remove}
use Rattle.std.proofs.lemmas.List.{map-append}
use Rattle.coap_msg.specs.declared.block.Block.{Block}
use Rattle.coap_msg.specs.declared.endpoint.Endpoint.{Endpoint}
use Rattle.coap_msg.specs.declared.message.RequestType.{RequestType}
use Rattle.coap_msg.specs.declared.message.RequestType.TheVariants.{Confirmable, NonConfirmable}
use Rattle.coap_msg.specs.Grammar.{CoapMessage}
use Rattle.coap_msg.specs.Requests.{request_type}
use Rattle.coap_msg.specs.Empty.{empty_reply, rejection_of}
use Rattle.coap_exchange.specs.Table.{Exchange, Table, at_moment, exchange_in, answered as with_answer}
use Rattle.coap_exchange.specs.declared.met.Met.TheVariants.{Fresh}
use Rattle.coap_blocks.specs.Bodies.{Body, with_body}
use Rattle.coap_blocks.specs.Parts.{Part, Arrival, living, after_block}
use Rattle.coap_blocks.specs.declared.added.Added.{Added}
use Rattle.coap_blocks.specs.declared.added.Added.TheVariants.{Complete}
use Rattle.thing_ops.specs.declared.outcome.Outcome.{Outcome}
use Rattle.coap_opts.specs.Reading.{AskSeen, asked as what_is_asked}
use Rattle.coap_bind.specs.declared.blocks.BlockUse.{BlockUse}
use Rattle.coap_bind.specs.declared.blocks.BlockUse.TheVariants as blocks
use Rattle.coap_bind.specs.declared.pending.PendingReply.{PendingReply}
use Rattle.coap_bind.specs.declared.server.Server.{Server}
use Rattle.coap_bind.specs.Blocks.{bodies_after, body_of, is_kept}
use Rattle.coap_bind.specs.Links.{is_text_kept, links_content, size_asked}
use Rattle.coap_bind.specs.Writing.{Reply}
use Rattle.coap_bind.specs.Server.{Heard, ignored, answered_at_once, asked, Hears, settled, admitted, malformed, no_request, duplicate, full, IsMet, Reads, replied, bad_option_ignored, gives_links, asks, asks_whole, IsAnsweredAtOnce, bad_option, bad_block, for_proxy, no_memory, later_block, joined, takes_no_other_verb, takes_no_body, Adds, block_arrival, with_id_used, with_kept, with_parts, with_bodies, with_observers, links_given, observing_in, with_whole_body, pending_of, pending_joined}
use Rattle.neighbour_laws.specs.Converging.{Deed}
use Rattle.neighbour_laws.proofs.EventParts.{Hearing, is_passed, is_heard, is_answered}
use Rattle.neighbour_laws.proofs.HeardParts.{same_pending, never_sent, never_repeated, asked_from}

-- ---- exchanges

-- an exchange came to those that live, of this endpoint, in a slot that was free
pub record Admitted (from : Endpoint) (now slot : ℕ) (s t : Table) : Type 0 where
  pub one : Exchange
  pub free : exchange_in slot (at_moment now s) ≡ None
  pub slot_is : one.slot ≡ slot
  pub from_is : one.arrival.from ≡ from
  pub whole : t.exchanges ≡ (at_moment now s).exchanges ++ one ∷ []

pub data Meeting (from : Endpoint) (now : ℕ) (s t : Table) : Type 0 where
  meets_none : t ≡ s → Meeting from now s t
  meets_some : t ≡ at_moment now s → Meeting from now s t
  has_admitted : (slot : ℕ) → Admitted from now slot s t → Meeting from now s t

answer_same : (slot : ℕ) (bytes : List ℕ) (e : Exchange) → ((with_answer slot bytes e).slot ≡ e.slot) × ((with_answer slot bytes e).arrival ≡ e.arrival)
answer_same slot bytes e = by (e.slot == slot)
  where
    by : (b : Bool) → ((cond b (record e { reply = Some bytes }) e).slot ≡ e.slot) × ((cond b (record e { reply = Some bytes }) e).arrival ≡ e.arrival)
    by true = (refl, refl)
    by false = (refl, refl)

-- a reply goes to none of those in other slots
no_answer : (slot : ℕ) (bytes : List ℕ) (es : List Exchange) → find (λ e. e.slot == slot) es ≡ None → map (with_answer slot bytes) es ≡ es
no_answer slot bytes [] none = refl
no_answer slot bytes (e ∷ es) none = by (e.slot == slot) none (λ is. no_answer slot bytes es is)
  where
    by : (b : Bool) → cond b (Some e) (find (λ x. x.slot == slot) es) ≡ None → (find (λ x. x.slot == slot) es ≡ None → map (with_answer slot bytes) es ≡ es)
        → cond b (record e { reply = Some bytes }) e ∷ map (with_answer slot bytes) es ≡ e ∷ es
    by true is rest = absurd (let f : Some e ≡ None = is in cc)
    by false is rest = ap (λ (l : List Exchange). e ∷ l) (rest is)

answer_admitted : (from : Endpoint) (now slot : ℕ) (bytes : List ℕ) (s u t : Table) → Admitted from now slot s u → t.exchanges ≡ map (with_answer slot bytes) u.exchanges → Admitted from now slot s t
answer_admitted from now slot bytes s u t a is =
    let same = answer_same slot bytes a.one in
    record {
      one = with_answer slot bytes a.one;
      free = a.free;
      slot_is = same.0 ∙ a.slot_is;
      from_is = ap (λ x. x.from) same.1 ∙ a.from_is;
      whole = is ∙ (ap (λ (l : List Exchange). map (with_answer slot bytes) l) a.whole
          ∙ (map-append (with_answer slot bytes) (at_moment now s).exchanges (a.one ∷ [])
          ∙ ap (λ (l : List Exchange). l ++ with_answer slot bytes a.one ∷ []) (no_answer slot bytes (at_moment now s).exchanges a.free)));
    }

kept_admitted : (from : Endpoint) (now : ℕ) (s : Table) (k : RequestType) (slot : ℕ) (bytes : List ℕ) (u t : Server) → t ≡ with_kept k slot bytes (with_id_used k u) → Admitted from now slot s u.exchanges
    → Admitted from now slot s t.exchanges
kept_admitted from now s Confirmable slot bytes u t after a = answer_admitted from now slot bytes s u.exchanges t.exchanges a (ap (λ (x : Server). x.exchanges.exchanges) after)
kept_admitted from now s NonConfirmable slot bytes u t after a = subst (λ (x : Server). Admitted from now slot s x.exchanges) (sym after) a

fresh_admitted : (from : Endpoint) (bytes : List ℕ) (now : ℕ) (m : CoapMessage) (slot : ℕ) (s u : Server) → IsMet from bytes now m (Fresh slot) s u → Admitted from now slot s.exchanges u.exchanges
fresh_admitted from bytes now m slot s u met = record {
  one = _;
  free = met.meets.1.1;
  slot_is = refl;
  from_is = refl;
  whole = ap (λ (x : Table). x.exchanges) met.meets.1.2;
}

-- ---- bodies, and parts

pub data Puts (from : Endpoint) (old new : List Body) : Type 0 where
  puts_none : new ≡ old → Puts from old new
  puts_one : (b : Body) → b.from ≡ from → new ≡ with_body b old → Puts from old new

pub data Joins (from : Endpoint) (now : ℕ) (old new : List Part) : Type 0 where
  joins_none : new ≡ old → Joins from now old new
  joins_one : (a : Arrival) → a.origin.from ≡ from → new ≡ (after_block a (living now old)).1 → Joins from now old new
  takes_whole : (a : Arrival) (place : ℕ) → a.origin.from ≡ from → (after_block a (living now old)).0 ≡ Complete place → new ≡ remove (after_block a (living now old)).1 place → Joins from now old new

kept_bodies : (k : RequestType) (slot : ℕ) (bytes : List ℕ) (s : Server) → (with_kept k slot bytes (with_id_used k s)).bodies ≡ s.bodies
kept_bodies Confirmable slot bytes s = refl
kept_bodies NonConfirmable slot bytes s = refl

kept_parts : (k : RequestType) (slot : ℕ) (bytes : List ℕ) (s : Server) → (with_kept k slot bytes (with_id_used k s)).parts ≡ s.parts
kept_parts Confirmable slot bytes s = refl
kept_parts NonConfirmable slot bytes s = refl

if_put : (from : Endpoint) (b : Body) (c : Bool) (old new : List Body) → b.from ≡ from → new ≡ cond c (with_body b old) old → Puts from old new
if_put from b true old new of is = puts_one b of is
if_put from b false old new of is = puts_none is

answer_puts : (from : Endpoint) (u : BlockUse) (o : Outcome) (old new : List Body) → new ≡ bodies_after u from o old → Puts from old new
answer_puts from blocks.Whole o old new is = puts_none is
answer_puts from (blocks.Gives g) o old new is = if_put from (body_of from g.path g.moment o) (is_kept g.szx o) old new refl is
answer_puts from (blocks.Joined b) o old new is = puts_none is

adds_joins : (from : Endpoint) (now : ℕ) (m : CoapMessage) (b : Block) (s : Server) (added : Added) (parts : List Part) → Adds from now m b s added parts → Joins from now s.parts parts
adds_joins from now m b s added parts adds = joins_one (block_arrival from now m b) refl adds.parts_are

takes_joins : (from : Endpoint) (now : ℕ) (m : CoapMessage) (b : Block) (s : Server) (place : ℕ) (parts new : List Part) → Adds from now m b s (Complete place) parts → new ≡ remove parts place → Joins from now s.parts new
takes_joins from now m b s place parts new adds is =
    takes_whole (block_arrival from now m b) place refl (sym adds.answer_is) (is ∙ ap (λ (l : List Part). remove l place) adds.parts_are)

at_once_joins : (from : Endpoint) (now : ℕ) (m : CoapMessage) (r : Reply) (s : Server) (parts : List Part) → IsAnsweredAtOnce from now m r s parts → Joins from now s.parts parts
at_once_joins from now m r s parts (bad_option number a b c is) = joins_none is
at_once_joins from now m r s parts (bad_block a b is) = joins_none is
at_once_joins from now m r s parts (for_proxy a b is) = joins_none is
at_once_joins from now m r s parts (no_memory a b is) = joins_none is
at_once_joins from now m r s parts (later_block b a c d is) = joins_none is
at_once_joins from now m r s parts (joined b added a c adds d) = adds_joins from now m b s added parts adds
at_once_joins from now m r s parts (takes_no_other_verb a b c d e is) = joins_none is
at_once_joins from now m r s parts (takes_no_body b place joined_parts a c d adds e is) = takes_joins from now m b s place joined_parts parts adds is

-- ---- a request that is admitted

record ReadAll (from : Endpoint) (now slot : ℕ) (s : Table) (u t : Server) : Type 0 where
  exchanges : Admitted from now slot s t.exchanges
  bodies : Puts from u.bodies t.bodies
  parts : Joins from now u.parts t.parts

read_same : (from : Endpoint) (now slot : ℕ) (s : Table) (u t : Server) → Admitted from now slot s u.exchanges → t ≡ u → ReadAll from now slot s u t
read_same from now slot s u t a is = record {
  exchanges = subst (λ (x : Server). Admitted from now slot s x.exchanges) (sym is) a;
  bodies = puts_none (ap (λ (x : Server). x.bodies) is);
  parts = joins_none (ap (λ (x : Server). x.parts) is);
}

read_all : (from : Endpoint) (now : ℕ) (m : CoapMessage) (slot : ℕ) (h : Heard) (s : Table) (u t : Server) → Admitted from now slot s u.exchanges → Reads from now m slot h u t → ReadAll from now slot s u t
read_all from now m slot h s u t a (replied r parts bytes why replies is) = record {
  exchanges = kept_admitted from now s (request_type m.kind) slot bytes (with_parts parts u) t replies.after a;
  bodies = puts_none (ap (λ (x : Server). x.bodies) replies.after ∙ kept_bodies (request_type m.kind) slot bytes (with_parts parts u));
  parts = subst (Joins from now u.parts) (sym (ap (λ (x : Server). x.parts) replies.after ∙ kept_parts (request_type m.kind) slot bytes (with_parts parts u))) (at_once_joins from now m r u parts why);
}
read_all from now m slot h s u t a (bad_option_ignored number first non is after) = read_same from now slot s u t a after
read_all from now m slot h s u t a (gives_links bytes none acts links get replies is) =
    let given : Server = links_given from now m.token (observing_in m) (what_is_asked m) u in
    let szx : Option ℕ = size_asked (observing_in m) (what_is_asked m) in
    record {
      exchanges = kept_admitted from now s (request_type m.kind) slot bytes given t replies.after a;
      bodies = if_put from (record { from = from; path = (what_is_asked m).request.path; content = links_content u.links; moment = now }) (is_text_kept szx _) u.bodies t.bodies refl
          (ap (λ (x : Server). x.bodies) replies.after ∙ kept_bodies (request_type m.kind) slot bytes given);
      parts = joins_none (ap (λ (x : Server). x.parts) replies.after ∙ kept_parts (request_type m.kind) slot bytes given);
    }
read_all from now m slot h s u t a (asks none acts apart is after) = read_same from now slot s u t a after
read_all from now m slot h s u t a (asks_whole b place parts whole none joins apart adds there is after) = record {
  exchanges = subst (λ (x : Server). Admitted from now slot s x.exchanges) (sym after) a;
  bodies = puts_none (ap (λ (x : Server). x.bodies) after);
  parts = takes_joins from now m b u place parts t.parts adds (ap (λ (x : Server). x.parts) after);
}

-- ---- any datagram

pub record HeardAll (from : Endpoint) (now : ℕ) (s t : Server) : Type 0 where
  pub exchanges : Meeting from now s.exchanges t.exchanges
  pub bodies : Puts from s.bodies t.bodies
  pub parts : Joins from now s.parts t.parts

heard_same : (from : Endpoint) (now : ℕ) (s t : Server) → t.exchanges ≡ s.exchanges → t.bodies ≡ s.bodies → t.parts ≡ s.parts → HeardAll from now s t
heard_same from now s t exchanges bodies parts = record { exchanges = meets_none exchanges; bodies = puts_none bodies; parts = joins_none parts }

used_exchanges : (k : RequestType) (u : Server) → ((with_id_used k u).exchanges ≡ u.exchanges) × ((with_id_used k u).bodies ≡ u.bodies) × ((with_id_used k u).parts ≡ u.parts)
used_exchanges Confirmable u = (refl, refl, refl)
used_exchanges NonConfirmable u = (refl, refl, refl)

hears_all : (from : Endpoint) (bytes : List ℕ) (now : ℕ) (h : Heard) (s t : Server) → Hears from bytes now h s t → HeardAll from now s t
hears_all from bytes now h s t (settled (malformed f fault is after)) = heard_same from now s t (ap (λ (x : Server). x.exchanges) after) (ap (λ (x : Server). x.bodies) after) (ap (λ (x : Server). x.parts) after)
hears_all from bytes now h s t (settled (no_request m spells isnt is after)) = heard_same from now s t (ap (λ (x : Server). x.exchanges) after) (ap (λ (x : Server). x.bodies) after) (ap (λ (x : Server). x.parts) after)
hears_all from bytes now h s t (settled (duplicate m kept e met found is)) = record { exchanges = meets_some met.meets.1; bodies = puts_none met.same_bodies; parts = joins_none met.same_parts }
hears_all from bytes now h s t (settled (full m u met is after)) =
    let used = used_exchanges (request_type m.kind) u in
    record {
      exchanges = meets_some (ap (λ (x : Server). x.exchanges) after ∙ (used.0 ∙ met.meets.1.1));
      bodies = puts_none (ap (λ (x : Server). x.bodies) after ∙ (used.1 ∙ met.same_bodies));
      parts = joins_none (ap (λ (x : Server). x.parts) after ∙ (used.2 ∙ met.same_parts));
    }
hears_all from bytes now h s t (admitted m slot u met reads) =
    let r = read_all from now m slot h s.exchanges u t (fresh_admitted from bytes now m slot s u met) reads in
    record {
      exchanges = has_admitted slot r.exchanges;
      bodies = subst (λ (l : List Body). Puts from l t.bodies) met.same_bodies r.bodies;
      parts = subst (λ (l : List Part). Joins from now l t.parts) met.same_parts r.parts;
    }

-- one that is asked got the slot of its reply, and put no body
record AskedAll (from : Endpoint) (now slot : ℕ) (s u : Server) : Type 0 where
  exchanges : Admitted from now slot s.exchanges u.exchanges
  bodies : u.bodies ≡ s.bodies
  parts : Joins from now s.parts u.parts

read_asked : (from : Endpoint) (bytes : List ℕ) (now : ℕ) (m : CoapMessage) (slot : ℕ) (ask : AskSeen) (r : PendingReply) (s u t : Server) → IsMet from bytes now m (Fresh slot) s u
    → Reads from now m slot (asked ask r) u t → AskedAll from now r.slot s t
read_asked from bytes now m slot ask r s u t met (replied q parts reply why replies is) = absurd (let e : asked ask r ≡ answered_at_once reply = is in cc)
read_asked from bytes now m slot ask r s u t met (bad_option_ignored number first non is after) = absurd (let e : asked ask r ≡ ignored = is in cc)
read_asked from bytes now m slot ask r s u t met (gives_links reply none acts links get replies is) = absurd (let e : asked ask r ≡ answered_at_once reply = is in cc)
read_asked from bytes now m slot ask r s u t met (asks none acts apart is after) =
    let a = read_same from now slot s.exchanges u t (fresh_admitted from bytes now m slot s u met) after in
    let slot_is : r.slot ≡ slot = ap (λ (x : PendingReply). x.slot) (same_pending ask (what_is_asked m) r (pending_of from now m slot) is) in
    record {
      exchanges = subst (λ (n : ℕ). Admitted from now n s.exchanges t.exchanges) (sym slot_is) a.exchanges;
      bodies = ap (λ (x : Server). x.bodies) after ∙ met.same_bodies;
      parts = subst (λ (l : List Part). Joins from now l t.parts) met.same_parts a.parts;
    }
read_asked from bytes now m slot ask r s u t met (asks_whole b place parts whole none joins apart adds there is after) =
    let slot_is : r.slot ≡ slot = ap (λ (x : PendingReply). x.slot) (same_pending ask (with_whole_body whole.bytes (what_is_asked m)) r (pending_joined from m slot b) is) in
    record {
      exchanges = subst (λ (n : ℕ). Admitted from now n s.exchanges t.exchanges) (sym slot_is)
          (subst (λ (x : Server). Admitted from now slot s.exchanges x.exchanges) (sym after) (fresh_admitted from bytes now m slot s u met));
      bodies = ap (λ (x : Server). x.bodies) after ∙ met.same_bodies;
      parts = subst (λ (l : List Part). Joins from now l t.parts) met.same_parts (takes_joins from now m b u place parts t.parts adds (ap (λ (x : Server). x.parts) after));
    }

asked_all : (from : Endpoint) (bytes : List ℕ) (now : ℕ) (ask : AskSeen) (r : PendingReply) (s t : Server) → Hears from bytes now (asked ask r) s t → AskedAll from now r.slot s t
asked_all from bytes now ask r s t (settled (malformed f fault is after)) = absurd (never_sent (rejection_of bytes) ask r is)
asked_all from bytes now ask r s t (settled (no_request m spells isnt is after)) = absurd (never_sent (empty_reply m.kind m.id false) ask r is)
asked_all from bytes now ask r s t (settled (duplicate m kept e met found is)) = absurd (never_repeated (request_type m.kind) e.reply ask r is)
asked_all from bytes now ask r s t (settled (full m u met is after)) = absurd (let e : asked ask r ≡ answered_at_once _ = is in cc)
asked_all from bytes now ask r s t (admitted m slot u met reads) = read_asked from bytes now m slot ask r s u t met reads

pub hearing_all : (from : Endpoint) (bytes : List ℕ) (now : ℕ) (deeds : List Deed) (s t : Server) → Hearing from bytes now deeds s t → HeardAll from now s t
hearing_all from bytes now deeds s t (is_passed stays none) = heard_same from now s t (ap (λ (x : Server). x.exchanges) stays) (ap (λ (x : Server). x.bodies) stays) (ap (λ (x : Server). x.parts) stays)
hearing_all from bytes now deeds s t (is_heard h hears none) = hears_all from bytes now h s t hears
hearing_all from bytes now deeds s t (is_answered ask r o target reply u hears a none) =
    let all = asked_all from bytes now ask r s u hears in
    let ready : Server = with_bodies (bodies_after r.blocks r.from o u.bodies) (with_observers a.observers u) in
    let after = a.replies.after in
    record {
      exchanges = has_admitted r.slot (kept_admitted from now s.exchanges r.kind r.slot reply ready t after all.exchanges);
      bodies = subst (λ (l : List Body). Puts from l t.bodies) all.bodies (subst (λ (x : Endpoint). Puts x u.bodies t.bodies) (asked_from from bytes now ask r s u hears)
          (answer_puts r.from r.blocks o u.bodies t.bodies (ap (λ (x : Server). x.bodies) after ∙ kept_bodies r.kind r.slot reply ready)));
      parts = subst (Joins from now s.parts) (sym (ap (λ (x : Server). x.parts) after ∙ kept_parts r.kind r.slot reply ready)) all.parts;
    }
