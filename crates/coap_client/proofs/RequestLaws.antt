-- Laws of the requests that a client sends, over all that it did from its beginning.
use Rattle.std.proofs.Common.{◌≡◌, ◌≢◌, ℕ, ◌+◌, ◌%◌, ◌<◌, ◌≤◌, ◌∙◌, Bool, true, false, cond, Option, Some, None, List, [], ◌∷◌, ◌++◌, length, get_or, set, inl, inr, refl, sym, ap, subst, arith}
use Rattle.std.specs.Prelude.{All}
use Rattle.std.specs.Int.{to_be_bytes, w64}
use Rattle.std.proofs.lemmas.Bool.{cases_lt}
use Rattle.std.proofs.lemmas.Bool.Decides.{eqb_tells}
use Rattle.std.proofs.lemmas.List.{get_or-set_other, length-set, length_push, get_or_append_left, get_or_push}
use Rattle.std.proofs.lemmas.List.Elements.{All-head, All-tail, All-nil, All-push, All-contains}
use Rattle.std.proofs.lemmas.Option.{same_Some}
use Rattle.coap_msg.specs.declared.endpoint.Endpoint.{Endpoint}
use Rattle.coap_msg.specs.declared.block.Block.{Block}
use Rattle.coap_msg.specs.declared.constants.TheConstants.{URI_PATH, BLOCK1}
use Rattle.coap_msg.specs.Blocks.{block_number}
use Rattle.coap_msg.specs.Endpoints.{is_same_endpoint}
use Rattle.coap_msg.specs.Grammar.{AreInOrder, IsWellFormed}
use Rattle.coap_msg.proofs.NumberValues.{number_length}
use Rattle.coap_msg.specs.Opts.{segment_options}
use Rattle.coap_client.specs.declared.outstanding.Outstanding.{Outstanding}
use Rattle.coap_client.specs.declared.observation.Observation.{Observation}
use Rattle.coap_client.specs.declared.state.State.{State}
use Rattle.coap_client.specs.declared.meaning.Meaning.{Meaning}
use Rattle.coap_client.specs.declared.meaning.Meaning.TheVariants as meant
use Rattle.coap_client.specs.declared.due.Due.{Due}
use Rattle.coap_client.specs.declared.due.Due.TheVariants as due
use Rattle.coap_client.specs.Asking.{Asking, observe_option, format_option, block_option, both_blocks, message_for}
use Rattle.coap_client.specs.Exchange.{at_moment, request_for, token_for, Asks, ComesDue, Delivers, of_message, of_fault, after}
use Rattle.coap_client.specs.Answers.{meaning}
use Rattle.coap_client.specs.Names.{IsNextId, is_used, is_recent, kept_token, token_after}
use Rattle.coap_client.specs.Times.{transmission_end}
use Rattle.coap_client.specs.Laws.{Did, nothing, asked, refused, took, retransmitted}
use Rattle.coap_client.specs.Requests.{IsSameRequest, LastIsOutstanding, LastIsRetransmitted, IdsDiffer, AsksAreMessages}
use Rattle.coap_client.proofs.StepLaws.{Keeps, Follows, keeps_due}
use Rattle.coap_client.proofs.HistoryLaws.{keeps_delivered, follows, timeout_bound, before_last}

-- ---- the outstanding request is the last one that was sent

same_then : (a p o : Outstanding) → IsSameRequest a p → IsSameRequest p o → IsSameRequest a o
same_then a p o x y = record {
  peer = x.peer ∙ y.peer;
  id = x.id ∙ y.id;
  token = x.token ∙ y.token;
  first = x.first ∙ y.first;
  registers = x.registers ∙ y.registers;
  sent = x.sent ∙ y.sent;
}

-- the last request is this one, at another moment
record IsLast (sent : List Outstanding) (o : Outstanding) : Type 0 where
  before : List Outstanding
  request : Outstanding
  last : sent ≡ before ++ request ∷ []
  same : IsSameRequest request o

last_kept : (sent : List Outstanding) (s t : State) (o : Outstanding) → ((p : Outstanding) → s.outstanding ≡ Some p → IsLast sent p) → Keeps s t → t.outstanding ≡ Some o → IsLast sent o
last_kept sent s t o each keeps e =
    let p = keeps.outstanding o e in
    let l = each p.0 p.1 in
    record { before = l.before; request = l.request; last = l.last; same = same_then l.request p.0 o l.same p.2 }

last_asked : (sent : List Outstanding) (s t : State) (peer : Endpoint) (a : Asking) (n : ℕ) (old new : List ℕ) (asks : Asks s peer a n old new t) (o : Outstanding)
    → t.outstanding ≡ Some o → IsLast (sent ++ request_for s peer a asks.id ∷ []) o
last_asked sent s t peer a n old new asks o e =
    let is : Some (request_for s peer a asks.id) ≡ Some o = sym (ap (λ (x : State). x.outstanding) asks.after) ∙ e in
    let same : request_for s peer a asks.id ≡ o = same_Some (request_for s peer a asks.id) o is in
    record {
      before = sent;
      request = request_for s peer a asks.id;
      last = refl;
      same = record {
        peer = ap (λ (x : Outstanding). x.peer) same;
        id = ap (λ (x : Outstanding). x.id) same;
        token = ap (λ (x : Outstanding). x.token) same;
        first = ap (λ (x : Outstanding). x.first) same;
        registers = ap (λ (x : Outstanding). x.registers) same;
        sent = ap (λ (x : Outstanding). x.sent) same;
      };
    }

last_is : (sent : List Outstanding) (s : State) → Did sent s → (o : Outstanding) → s.outstanding ≡ Some o → IsLast sent o
last_is sent s (nothing first_id r new) o e = absurd (let none = new.outstanding in cc)
last_is sent s (asked before r t now peer a n old new did later ask) o e = last_asked before (at_moment now r) t peer a n old new ask o e
last_is sent s (refused before r now did later) o e = last_is before r did o e
last_is sent s (took before r t now from bytes told old new did later delivers) o e =
    last_kept before (at_moment now r) t o (λ p is. last_is before r did p is) (keeps_delivered (at_moment now r) t from bytes told old new delivers) e
last_is sent s (retransmitted before r t now due old new did later comes) o e =
    last_kept before (at_moment now r) t o (λ p is. last_is before r did p is) (keeps_due (at_moment now r) t due old new comes) e

pub last_is_outstanding : LastIsOutstanding
last_is_outstanding sent s o did e = let l = last_is sent s did o e in (l.before, l.request, l.last, l.same)

-- ---- it is the one that is sent again

pub last_is_retransmitted : LastIsRetransmitted
last_is_retransmitted sent s t now n old new did later comes =
    let o : Outstanding = comes.0 in
    let l = last_is sent s did comes.0 comes.1 in
    let last : now < transmission_end comes.0 = before_last now comes.0 comes.0.is_acknowledged refl comes.2 comes.3 in (
      l.before,
      l.request,
      l.last,
      comes.4.front ∙ sym l.same.sent,
      (let one : l.request.first ≡ comes.0.first = l.same.first in
          let bound = timeout_bound comes.0.id in
          omega arith),
    )

-- ---- ids differ

-- The ids that were used follow one another from the first, and the others weren't used.
record IsNumbered (first : ℕ) (sent : List Outstanding) (s : State) : Type 0 where
  ids : length s.uses ≡ 65536
  next : s.next_id % 65536 ≡ (first + length sent) % 65536
  unused : (j : ℕ) → length sent ≤ j → j < 65536 → get_or s.uses ((first + j) % 65536) None ≡ None
  numbered : (k : ℕ) (d : Outstanding) → k < length sent → (get_or sent k d).id ≡ (first + k) % 65536

numbered_kept : (first : ℕ) (sent : List Outstanding) (s t : State) → t.uses ≡ s.uses → t.next_id ≡ s.next_id → IsNumbered first sent s → IsNumbered first sent t
numbered_kept first sent s t uses next f = record {
  ids = ap length uses ∙ f.ids;
  next = ap (λ (k : ℕ). k % 65536) next ∙ f.next;
  unused = λ j from below. ap (λ (xs : List (Option ℕ)). get_or xs ((first + j) % 65536) None) uses ∙ f.unused j from below;
  numbered = f.numbered;
}

-- no id is passed over where the next isn't used
is_unused : (uses : List (Option ℕ)) (now id : ℕ) → get_or uses id None ≡ None → is_used uses now id ≡ false
is_unused uses now id e = ap (is_recent now) e

none_passed : (uses : List (Option ℕ)) (next now id : ℕ) → IsNextId uses next now id → get_or uses (next % 65536) None ≡ None → id ≡ next % 65536
none_passed uses next now id is unused =
    elim (eqb_tells is.ahead 0) [
      | inl none ↦ let at = is.id_is in let zero : is.ahead ≡ 0 = none.1 in omega arith
      | inr some ↦
          let more : 0 < is.ahead = let other : is.ahead ≢ 0 = some.1 in omega arith in
          let passed : is_used uses now ((next + 0) % 65536) ≡ true = is.passed 0 more in
          let same : (next + 0) % 65536 ≡ next % 65536 = omega arith in
          let free : is_used uses now ((next + 0) % 65536) ≡ false = is_unused uses now ((next + 0) % 65536) (ap (λ (k : ℕ). get_or uses k None) same ∙ unused) in
          absurd (cc)
    ]

different : (first i j : ℕ) → i < j → j < 65536 → (first + i) % 65536 ≢ (first + j) % 65536
different first i j h below e = absurd (omega arith)

numbered_asked : (first : ℕ) (sent : List Outstanding) (s t : State) (peer : Endpoint) (a : Asking) (n : ℕ) (old new : List ℕ) (asks : Asks s peer a n old new t)
    → length sent < 65536 → IsNumbered first sent s → IsNumbered first (sent ++ request_for s peer a asks.id ∷ []) t
numbered_asked first sent s t peer a n old new asks few f =
    let count : length (sent ++ request_for s peer a asks.id ∷ []) ≡ length sent + 1 = length_push sent (request_for s peer a asks.id) in
    let next : s.next_id % 65536 ≡ (first + length sent) % 65536 = f.next in
    let free : get_or s.uses (s.next_id % 65536) None ≡ None =
    ap (λ (k : ℕ). get_or s.uses k None) f.next ∙ f.unused (length sent) (omega arith) few in
    let id : asks.id ≡ s.next_id % 65536 = none_passed s.uses s.next_id s.moment asks.id asks.next free in
    let uses : t.uses ≡ set s.uses asks.id (Some s.moment) = ap (λ (x : State). x.uses) asks.after in
    let next_is : t.next_id ≡ (asks.id + 1) % 65536 = ap (λ (x : State). x.next_id) asks.after in
    record {
      ids = ap length uses ∙ length-set s.uses asks.id (Some s.moment) ∙ f.ids;
      next = omega arith;
      unused = λ j from below.
          let other : (first + j) % 65536 ≢ asks.id = λ e. different first (length sent) j (omega arith) below (omega arith) in
          ap (λ (xs : List (Option ℕ)). get_or xs ((first + j) % 65536) None) uses
          ∙ get_or-set_other s.uses asks.id ((first + j) % 65536) (Some s.moment) None other
          ∙ f.unused j (omega arith) below;
      numbered = λ k d within. elim (cases_lt k (length sent)) [
        | inl below ↦ ap (λ (x : Outstanding). x.id) (get_or_append_left sent (request_for s peer a asks.id ∷ []) d k below) ∙ f.numbered k d below
        | inr above ↦
            let is : length sent ≡ k = omega arith in
            ap (λ (x : Outstanding). x.id) (get_or_push sent (request_for s peer a asks.id) d k is) ∙ (omega arith)
      ];
    }

same_next_after : (s : State) (from : Endpoint) (token : List ℕ) (meaning : Meaning) → (after s from token meaning).next_id ≡ s.next_id
same_next_after s from token (meant.Value v) = refl
same_next_after s from token meant.Old = refl
same_next_after s from token meant.Response = refl
same_next_after s from token meant.Reset = refl
same_next_after s from token meant.Received = refl
same_next_after s from token meant.Foreign = refl

same_next_delivered : (s t : State) (from : Endpoint) (bytes : List ℕ) (told : _) (old new : List ℕ) → Delivers s from bytes told old new t → t.next_id ≡ s.next_id
same_next_delivered s t from bytes told old new (of_message m spells reply news is) = ap (λ (x : State). x.next_id) is ∙ same_next_after s from m.token (meaning s from m)
same_next_delivered s t from bytes told old new (of_fault f has reply news is) = ap (λ (x : State). x.next_id) is

same_next_due : (s t : State) (d : Due) (old new : List ℕ) → ComesDue s d old new t → t.next_id ≡ s.next_id
same_next_due s t due.TimedOut old new h = ap (λ (x : State). x.next_id) h.3
same_next_due s t (due.Send n) old new h = ap (λ (x : State). x.next_id) h.5
same_next_due s t due.Nothing old new h = ap (λ (x : State). x.next_id) h.1

numbered_from : (sent : List Outstanding) (s : State) → Did sent s → length sent ≤ 65536 → (first : ℕ) × IsNumbered first sent s
numbered_from sent s (nothing first_id r new) few = (
  first_id,
  record {
    ids = new.ids;
    next = let at = new.next_id in omega arith;
    unused = λ j from below. new.unused ((first_id + j) % 65536);
    numbered = λ k d within. absurd (omega arith);
  },
)
numbered_from sent s (asked before r t now peer a n old new did later ask) few =
    let count : length (before ++ request_for (at_moment now r) peer a ask.id ∷ []) ≡ length before + 1 = length_push before (request_for (at_moment now r) peer a ask.id) in
    let old_ones = numbered_from before r did (omega arith) in (
      old_ones.0,
      numbered_asked old_ones.0 before (at_moment now r) t peer a n old new ask (omega arith)
          (numbered_kept old_ones.0 before r (at_moment now r) refl refl old_ones.1),
    )
numbered_from sent s (refused before r now did later) few =
    let old_ones = numbered_from before r did few in (old_ones.0, numbered_kept old_ones.0 before r (at_moment now r) refl refl old_ones.1)
numbered_from sent s (took before r t now from bytes told old new did later delivers) few =
    let old_ones = numbered_from before r did few in (
      old_ones.0,
      numbered_kept old_ones.0 before r t (keeps_delivered (at_moment now r) t from bytes told old new delivers).uses
          (same_next_delivered (at_moment now r) t from bytes told old new delivers) old_ones.1,
    )
numbered_from sent s (retransmitted before r t now due old new did later comes) few =
    let old_ones = numbered_from before r did few in (
      old_ones.0,
      numbered_kept old_ones.0 before r t (keeps_due (at_moment now r) t due old new comes).uses
          (same_next_due (at_moment now r) t due old new comes) old_ones.1,
    )

pub ids_differ : IdsDiffer
ids_differ sent s did few =
    let n = numbered_from sent s did few in
    λ i j d before within e.
    let one : (get_or sent i d).id ≡ (n.0 + i) % 65536 = n.1.numbered i d (omega arith) in
    let two : (get_or sent j d).id ≡ (n.0 + j) % 65536 = n.1.numbered j d within in
    different n.0 i j before (omega arith) (sym one ∙ e ∙ two)

-- ---- options in order

-- a block takes three bytes at most
block1_in_order : (last : ℕ) (block : Option Block) → last ≤ 27 → AreInOrder last (block_option BLOCK1 block)
block1_in_order last None h = tt
block1_in_order last (Some b) h = let bound = number_length (block_number b) in (record { order = h; number = omega arith; value = omega arith }, tt)

blocks_in_order : (last : ℕ) (block2 block1 : Option Block) → last ≤ 23 → AreInOrder last (both_blocks block2 block1)
blocks_in_order last None block1 h = block1_in_order last block1 (omega arith)
blocks_in_order last (Some b) block1 h = let bound = number_length (block_number b) in (record { order = h; number = omega arith; value = omega arith }, block1_in_order 23 block1 (omega arith))

-- the options after the path: the format and the blocks
rest_in_order : (last : ℕ) (a : Asking) → last ≤ 12 → AreInOrder last (format_option a.format ++ both_blocks a.block2 a.block1)
rest_in_order last a h = format_in_order last a.format h
  where
    format_in_order : (last : ℕ) (format : Option ℕ) → last ≤ 12 → AreInOrder last (format_option format ++ both_blocks a.block2 a.block1)
    format_in_order last None h = blocks_in_order last a.block2 a.block1 (omega arith)
    format_in_order last (Some n) h = let bound = number_length n in (record { order = h; number = omega arith; value = omega arith }, blocks_in_order 12 a.block2 a.block1 (omega arith))

path_in_order : (last : ℕ) (path : List (List ℕ)) (a : Asking) → last ≤ 11 → All (λ segment. length segment ≤ 255) path
    → AreInOrder last (segment_options URI_PATH path ++ (format_option a.format ++ both_blocks a.block2 a.block1))
path_in_order last [] a h all = rest_in_order last a (omega arith)
path_in_order last (segment ∷ path) a h all =
    let bound : length segment ≤ 255 = All-head (λ (s : List ℕ). length s ≤ 255) segment path all in
    (record { order = h; number = omega arith; value = omega arith }, path_in_order 11 path a (omega arith) (All-tail (λ (s : List ℕ). length s ≤ 255) segment path all))

options_in_order : (observe : Option Bool) (a : Asking) → All (λ segment. length segment ≤ 255) a.path
    → AreInOrder 0 (observe_option observe ++ (segment_options URI_PATH a.path ++ (format_option a.format ++ both_blocks a.block2 a.block1)))
options_in_order None a all = path_in_order 0 a.path a (omega arith) all
options_in_order (Some true) a all =
    (record { order = omega arith; number = omega arith; value = omega arith }, path_in_order 6 a.path a (omega arith) all)
options_in_order (Some false) a all =
    (record { order = omega arith; number = omega arith; value = omega arith }, path_in_order 6 a.path a (omega arith) all)

-- ---- tokens

eight : (n : ℕ) → length (to_be_bytes w64 n) ≤ 8
eight n = omega arith

token_at : (token : List ℕ) (n : ℕ) (b : Bool) → length token ≤ 8 → length (token_after (cond b (Some token) None) n) ≤ 8
token_at token n true h = h
token_at token n false h = eight n

short_token : (x : Option Observation) (peer : Endpoint) (observe : Option Bool) (n : ℕ) → ((o : Observation) → x ≡ Some o → length o.token ≤ 8)
    → length (token_after (kept_token x peer observe) n) ≤ 8
short_token None peer None n h = eight n
short_token None peer (Some b) n h = eight n
short_token (Some o) peer None n h = eight n
short_token (Some o) peer (Some true) n h = eight n
short_token (Some o) peer (Some false) n h = token_at o.token n (is_same_endpoint peer o.peer) (h o refl)

-- the token of the observation is that of a request that was sent
observed_token : (sent : List Outstanding) (s : State) → Did sent s → All (λ a. length a.token ≤ 8) sent → (o : Observation) → s.observation ≡ Some o → length o.token ≤ 8
observed_token sent s did each o e =
    let f : Follows sent s = follows sent s did in
    let a = f.observed o e in
    subst (λ (t : List ℕ). length t ≤ 8) a.3 (All-contains (λ (x : Outstanding). length x.token ≤ 8) sent a.0 each a.1)

short_tokens : (sent : List Outstanding) (s : State) → Did sent s → All (λ a. length a.token ≤ 8) sent
short_tokens sent s (nothing first_id r new) = All-nil (λ (a : Outstanding). length a.token ≤ 8)
short_tokens sent s (asked before r t now peer a n old new did later ask) =
    All-push (λ (x : Outstanding). length x.token ≤ 8) before (request_for (at_moment now r) peer a ask.id) (short_tokens before r did)
    (short_token r.observation peer a.observe r.next_token (λ o e. observed_token before r did (short_tokens before r did) o e))
short_tokens sent s (refused before r now did later) = short_tokens before r did
short_tokens sent s (took before r t now from bytes told old new did later delivers) = short_tokens before r did
short_tokens sent s (retransmitted before r t now due old new did later comes) = short_tokens before r did

-- ---- the message

pub asks_are_messages : AsksAreMessages
asks_are_messages sent s t now peer a n old new did may asks =
    let code : a.code < 32 = may.class in
    let token = short_token s.observation peer a.observe s.next_token (λ o e. observed_token sent s did (short_tokens sent s did) o e) in
    let bounds : IsWellFormed (message_for a asks.id (token_for (at_moment now s) peer a.observe)) = record {
      code = omega arith;
      class = inl (omega arith);
      id = let is = asks.next.id_is in omega arith;
      token = token;
      options = options_in_order a.observe a may.segments;
      empty = λ e. absurd (may.code e);
    } in
    record {
      spells = record { bounds = bounds; bytes_are = refl };
      kind = refl;
      id = refl;
      token = refl;
      code = may.code;
      class = may.class;
    }
