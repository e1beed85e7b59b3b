-- The client stays orderly, and a request that may be sent is refused for want of room alone.
use Rattle.std.proofs.Common.{◌≡◌, ◌≤◌, ◌<◌, ◌+◌, ◌%◌, ℕ, zero, suc, Bool, true, false, List, [], ◌∷◌, ◌++◌, length, Option, Some, None, refl, sym, ap, ap₂, subst, ◌∙◌, arith, inl, inr}
use Rattle.std.specs.Prelude.{slice_index_or, slice_set, ◌==◌, ◌&&◌, ◌||◌, ◌≢◌, IfSome, IsSome, if◌then◌else◌}
use Rattle.std.specs.Str.{bytes_eq}
use Rattle.std.proofs.lemmas.List.{get_or-set_other, length-set}
use Rattle.std.proofs.lemmas.Option.{same_Some}
use Rattle.coap_msg.specs.declared.endpoint.Endpoint.{Endpoint}
use Rattle.coap_msg.specs.Endpoints.{is_same_endpoint}
use Rattle.coap_msg.specs.Grammar.{CoapMessage}
use Rattle.coap_client.specs.declared.outstanding.Outstanding.{Outstanding}
use Rattle.coap_client.specs.declared.observation.Observation.{Observation}
use Rattle.coap_client.specs.declared.state.State.{State}
use Rattle.coap_client.specs.declared.meaning.Meaning.{Meaning}
use Rattle.coap_client.specs.declared.meaning.Meaning.TheVariants as meant
use Rattle.coap_client.specs.declared.fault.ClientFault.{ClientFault}
use Rattle.coap_client.specs.declared.fault.ClientFault.TheVariants.{Busy, IdsUsed, NoRoom}
use Rattle.coap_client.specs.declared.news.News.{News}
use Rattle.coap_client.specs.declared.news.News.TheVariants as news
use Rattle.coap_client.specs.declared.news.Delivered.{Delivered}
use Rattle.coap_client.specs.declared.due.Due.{Due}
use Rattle.coap_client.specs.declared.due.Due.TheVariants as due
use Rattle.coap_client.specs.Asking.{Asking}
use Rattle.coap_client.specs.Names.{is_used, is_recent, IsNextId, kept_token}
use Rattle.coap_msg.specs.declared.message.Type4.{Type4}
use Rattle.coap_msg.specs.declared.message.Type4.TheVariants.{Con, Non, Ack, Rst}
use Rattle.coap_client.specs.Times.{retransmissions_by}
use Rattle.coap_client.specs.Answers.{is_response, may_carry, is_for_request, is_for_observation, is_from_server, takes, notified, meaning_taken, meaning_else, meaning, is_newer, latest_of}
use Rattle.coap_client.specs.Exchange.{at_moment, IsNew, request_for, is_registration, observation_with, begun, with_request, IsRefused, Asks, registers, age, ended, registered, with_latest, acknowledged, valued, answered, received, after, IsNews, Delivers, of_message, of_fault, ComesDue}
use Rattle.network_consumer.specs.Order.{IsOrderly, IsFreeAfter}

-- ---- the client's parts

-- what is outstanding and what is observed have one token
abbrev HaveOneToken : Option Outstanding → Option Observation → Type 0
HaveOneToken o b = IfSome o (λ x. IfSome b (λ y. (y.peer ≡ x.peer) × (y.token ≡ x.token)))

none_observed : (o : Option Outstanding) → HaveOneToken o None
none_observed None = tt
none_observed (Some x) = tt

-- both change so that each is as it was, or gone, or has other values but for peer and token
orderly_with : (observes : Bool) (s t : State) → IsOrderly observes s → HaveOneToken t.outstanding t.observation → (s.observation ≡ None → t.observation ≡ None) → t.uses ≡ s.uses → t.next_id ≡ s.next_id → IsOrderly observes t
orderly_with observes s t o token none uses next = record {
  one_token = token;
  unobserved = λ is. none (o.unobserved is);
  ids = ap (λ (l : List (Option ℕ)). length l) uses ∙ o.ids;
  unused = λ id above. ap (λ (l : List (Option ℕ)). slice_index_or l id None) uses ∙ o.unused id (subst (λ (n : ℕ). n ≤ id) next above);
}

if_none : {A : Type 0} (test : Bool) (o : Option A) → o ≡ None → (if test then None else o) ≡ None
if_none true o is = refl
if_none false o is = is

-- one or both are gone
token_left : (first second : Bool) (o : Option Outstanding) (b : Option Observation) → HaveOneToken o b → HaveOneToken (if first then None else o) (if second then None else b)
token_left true second o b same = tt
token_left false true o b same = none_observed o
token_left false false o b same = same

token_latest : (sequence now : ℕ) (first : Bool) (o : Option Outstanding) (b : Option Observation) → HaveOneToken o b → HaveOneToken (if first then None else o) (with_latest sequence now b)
token_latest sequence now true o b same = tt
token_latest sequence now false None b same = tt
token_latest sequence now false (Some x) None same = tt
token_latest sequence now false (Some x) (Some y) same = same

none_latest : (sequence now : ℕ) (b : Option Observation) → b ≡ None → with_latest sequence now b ≡ None
none_latest sequence now b is = ap (with_latest sequence now) is

token_acknowledged : (o : Option Outstanding) (b : Option Observation) → HaveOneToken o b → HaveOneToken (acknowledged o) b
token_acknowledged None b same = tt
token_acknowledged (Some x) b same = same

-- ---- datagrams

after_orderly : (observes : Bool) (s : State) (from : Endpoint) (token : List ℕ) (m : Meaning) → IsOrderly observes s → IsOrderly observes (after s from token m)
after_orderly observes s from token (meant.Value sequence) o =
    orderly_with observes s (valued s sequence) o (token_latest sequence s.moment (registers s.outstanding) s.outstanding s.observation o.one_token) (none_latest sequence s.moment s.observation) refl refl
after_orderly observes s from token meant.Old o = orderly_with observes s (registered s) o (token_left (registers s.outstanding) false s.outstanding s.observation o.one_token) (λ is. is) refl refl
after_orderly observes s from token meant.Response o =
    orderly_with observes s (answered s from token) o
    (token_left (is_for_request s.outstanding from token) (is_for_observation s.observation from token) s.outstanding s.observation o.one_token)
    (if_none (is_for_observation s.observation from token) s.observation) refl refl
after_orderly observes s from token meant.Reset o = orderly_with observes s (ended s) o tt (if_none (registers s.outstanding) s.observation) refl refl
after_orderly observes s from token meant.Received o = orderly_with observes s (received s) o (token_acknowledged s.outstanding s.observation o.one_token) (λ is. is) refl refl
after_orderly observes s from token meant.Foreign o = o

-- a response is for the request, if one is outstanding
for_request : (o : Option Outstanding) (b : Option Observation) (from : Endpoint) (token : List ℕ) → HaveOneToken o b → (is_for_request o from token || is_for_observation b from token) ≡ true
    → (if is_for_request o from token then None else o) ≡ None
for_request None b from token same is = if_none (is_for_request None from token) None refl
for_request (Some x) None from token same is = by (is_for_request (Some x) from token) is
  where
    by : (t : Bool) → (t || false) ≡ true → (if t then None else Some x) ≡ None
    by true e = refl
    by false e = absurd cc
for_request (Some x) (Some y) from token (peers, tokens) is =
    by (is_for_request (Some x) from token) is_so
  where
    like : is_for_observation (Some y) from token ≡ is_for_request (Some x) from token
    like = ap₂ (λ (p : Endpoint) (t : List ℕ). is_same_endpoint from p && bytes_eq token t) peers tokens

    is_so : (is_for_request (Some x) from token || is_for_request (Some x) from token) ≡ true
    is_so = ap (λ (t : Bool). is_for_request (Some x) from token || t) (sym like) ∙ is

    by : (t : Bool) → (t || t) ≡ true → (if t then None else Some x) ≡ None
    by true e = refl
    by false e = absurd cc

-- the three tests of a message that is taken
all_three : (a b c : Bool) → (a && b && c) ≡ true → c ≡ true
all_three true true c is = is
all_three true false c is = absurd cc
all_three false b c is = absurd cc

else_no_response : (s : State) (from : Endpoint) (m : CoapMessage) → meaning_else s from m m.kind ≡ meant.Response → ⊥
else_no_response s from m is = by m.kind is
  where
    chosen : (t : Bool) (x : Meaning) → (x ≡ meant.Response → ⊥) → (if t then x else meant.Foreign) ≡ meant.Response → ⊥
    chosen true x isnt e = isnt e
    chosen false x isnt e = cc

    by : (kind : Type4) → meaning_else s from m kind ≡ meant.Response → ⊥
    by Con e = cc
    by Non e = cc
    by Ack e = chosen (m.code == 0 && is_from_server s.outstanding from m.id) meant.Received (λ x. cc) e
    by Rst e = chosen (is_from_server s.outstanding from m.id) meant.Reset (λ x. cc) e

response_is_taken : (s : State) (from : Endpoint) (m : CoapMessage) → meaning s from m ≡ meant.Response → takes s from m ≡ true
response_is_taken s from m is = by (takes s from m) refl is
  where
    by : (t : Bool) → takes s from m ≡ t → (if t then meaning_taken s (notified s from m) else meaning_else s from m m.kind) ≡ meant.Response → takes s from m ≡ true
    by true e r = e
    by false e r = absurd (else_no_response s from m r)

free_after : (s : State) (from : Endpoint) (m : CoapMessage) (observes : Bool) (n : News) → IsOrderly observes s → IsNews (meaning s from m) m n → IsFreeAfter n (after s from m.token (meaning s from m))
free_after s from m observes (news.Answered code block payload) o is =
    let taken = response_is_taken s from m is.0 in
    let for_one = all_three (is_response m) (may_carry s.outstanding m.kind m.id) (is_for_request s.outstanding from m.token || is_for_observation s.observation from m.token) taken in
    ap (λ (x : Meaning). (after s from m.token x).outstanding) is.0 ∙ for_request s.outstanding s.observation from m.token o.one_token for_one
free_after s from m observes (news.Value payload) o is = tt
free_after s from m observes news.Old o is = tt
free_after s from m observes news.Reset o is = tt
free_after s from m observes news.Nothing o is = tt

-- A datagram leaves the client orderly, with the message IDs that it has used, and after an answer none is outstanding.
pub delivered_orderly : (observes : Bool) (s : State) (from : Endpoint) (bytes : List ℕ) (told : Delivered) (old new : List ℕ) (t : State) → IsOrderly observes s → Delivers s from bytes told old new t
    → IsOrderly observes t
delivered_orderly observes s from bytes told old new t o (of_message m spells replied is after_it) = subst (λ (x : State). IsOrderly observes x) (sym after_it) (after_orderly observes s from m.token (meaning s from m) o)
delivered_orderly observes s from bytes told old new t o (of_fault f has replied is after_it) = subst (λ (x : State). IsOrderly observes x) (sym after_it) o

after_ids : (s : State) (from : Endpoint) (token : List ℕ) (m : Meaning) → (after s from token m).next_id ≡ s.next_id
after_ids s from token (meant.Value sequence) = refl
after_ids s from token meant.Old = refl
after_ids s from token meant.Response = refl
after_ids s from token meant.Reset = refl
after_ids s from token meant.Received = refl
after_ids s from token meant.Foreign = refl

pub delivered_ids : (s : State) (from : Endpoint) (bytes : List ℕ) (told : Delivered) (old new : List ℕ) (t : State) → Delivers s from bytes told old new t → t.next_id ≡ s.next_id
delivered_ids s from bytes told old new t (of_message m spells replied is after_it) = ap (λ (x : State). x.next_id) after_it ∙ after_ids s from m.token (meaning s from m)
delivered_ids s from bytes told old new t (of_fault f has replied is after_it) = ap (λ (x : State). x.next_id) after_it

pub delivered_free : (observes : Bool) (s : State) (from : Endpoint) (bytes : List ℕ) (told : Delivered) (old new : List ℕ) (t : State) → IsOrderly observes s → Delivers s from bytes told old new t
    → IsFreeAfter told.news t
delivered_free observes s from bytes told old new t o (of_message m spells replied is after_it) = subst (λ (x : State). IsFreeAfter told.news x) (sym after_it) (free_after s from m observes told.news o is)
delivered_free observes s from bytes told old new t o (of_fault f has replied is after_it) = subst (λ (n : News). IsFreeAfter n t) (sym is) tt

-- ---- what falls due

pub due_orderly : (observes : Bool) (s : State) (d : Due) (old new : List ℕ) (t : State) → IsOrderly observes s → ComesDue s d old new t → IsOrderly observes t
due_orderly observes s due.TimedOut old new t o (x, is, late, after_it, same) =
    subst (λ (y : State). IsOrderly observes y) (sym after_it) (orderly_with observes s (ended s) o tt (if_none (registers s.outstanding) s.observation) refl refl)
due_orderly observes s (due.Send n) old new t o (x, is, young, more, written, after_it) =
    subst (λ (y : State). IsOrderly observes y) (sym after_it)
    (orderly_with observes s _ o (by s.observation (subst (λ (q : Option Outstanding). HaveOneToken q s.observation) is o.one_token)) (λ none. none) refl refl)
  where
    by : (b : Option Observation) → HaveOneToken (Some x) b → HaveOneToken (Some (record x { reached = retransmissions_by x (age s x) })) b
    by None same = tt
    by (Some y) same = same
due_orderly observes s due.Nothing old new t o (quiet, after_it, same) = subst (λ (y : State). IsOrderly observes y) (sym after_it) o

pub due_ids : (s : State) (d : Due) (old new : List ℕ) (t : State) → ComesDue s d old new t → t.next_id ≡ s.next_id
due_ids s due.TimedOut old new t (x, is, late, after_it, same) = ap (λ (y : State). y.next_id) after_it
due_ids s (due.Send n) old new t (x, is, young, more, written, after_it) = ap (λ (y : State). y.next_id) after_it
due_ids s due.Nothing old new t (quiet, after_it, same) = ap (λ (y : State). y.next_id) after_it

-- ---- a request

-- an ID that wasn't used may be
unused_is_free : (uses : List (Option ℕ)) (now id : ℕ) → slice_index_or uses id None ≡ None → is_used uses now id ≡ false
unused_is_free uses now id none = ap (λ (o : Option ℕ). is_recent now o) none

small : (n : ℕ) → n < 65536 → n % 65536 ≡ n
small n below = omega (arith, below)

-- the next one is the next that wasn't used
next_is_next : (uses : List (Option ℕ)) (next now id : ℕ) → next < 65536 → slice_index_or uses next None ≡ None → IsNextId uses next now id → id ≡ next
next_is_next uses next now id below none p = by p.ahead refl
  where
    first : (next + 0) % 65536 ≡ next
    first = omega (arith, below)

    by : (k : ℕ) → p.ahead ≡ k → id ≡ next
    by zero is = p.id_is ∙ ap (λ (k : ℕ). (next + k) % 65536) is ∙ first
    by (suc k) is =
        absurd (let e : false ≡ true = sym (unused_is_free uses now ((next + 0) % 65536) (ap (λ (i : ℕ). slice_index_or uses i None) first ∙ none)) ∙ p.passed 0 (omega (arith, is)) in cc)

none_is_some : (o : Option Outstanding) → o ≡ None → IsSome o → ⊥
none_is_some None is some = cc
none_is_some (Some x) is some = cc

pub refused_for_room : (observes : Bool) (s : State) (peer : Endpoint) (a : Asking) (f : ClientFault) → IsOrderly observes s → s.outstanding ≡ None → s.next_id < 65536 → IsRefused s peer a f → f ≡ NoRoom
refused_for_room observes s peer a Busy o free below refused = absurd (none_is_some s.outstanding free refused)
refused_for_room observes s peer a IdsUsed o free below refused =
    absurd (let e : false ≡ true = sym (unused_is_free s.uses s.moment s.next_id (o.unused s.next_id (omega arith))) ∙ refused.1 s.next_id below in cc)
refused_for_room observes s peer a NoRoom o free below refused = refl

-- the observation of a request that is sent, which registers or doesn't
observed_so : (observes : Bool) (s : State) (peer : Endpoint) (a : Asking) (id : ℕ) → IsOrderly observes s → is_registration a.observe ≡ observes
    → HaveOneToken (Some (request_for s peer a id)) (observation_with s.observation (request_for s peer a id)) × (observes ≡ false → observation_with s.observation (request_for s peer a id) ≡ None)
observed_so true s peer a id o is = (
  subst (λ (t : Bool). HaveOneToken (Some (request_for s peer a id)) (if t then Some (record { peer = peer; token = (request_for s peer a id).token; latest = None }) else s.observation)) (sym is) (refl, refl),
  λ isnt. absurd (let e : true ≡ false = isnt in cc),
)
observed_so false s peer a id o is =
    let none : observation_with s.observation (request_for s peer a id) ≡ None =
    ap (λ (t : Bool). if t then Some (record { peer = peer; token = (request_for s peer a id).token; latest = None }) else s.observation) is ∙ o.unobserved refl in
    (subst (λ (b : Option Observation). HaveOneToken (Some (request_for s peer a id)) b) (sym none) tt, λ isnt. none)

-- A request that is sent takes the next message ID.
pub asked_orderly : (observes : Bool) (s : State) (peer : Endpoint) (a : Asking) (n : ℕ) (old new : List ℕ) (t : State) → IsOrderly observes s → s.next_id + 1 < 65536 → is_registration a.observe ≡ observes
    → Asks s peer a n old new t → IsOrderly observes t × (t.next_id ≡ s.next_id + 1)
asked_orderly observes s peer a n old new t o below is asks =
    let id : asks.id ≡ s.next_id = next_is_next s.uses s.next_id s.moment asks.id (omega (arith, below)) (o.unused s.next_id (omega arith)) asks.next in
    let both = observed_so observes s peer a asks.id o is in
    let next : (asks.id + 1) % 65536 ≡ s.next_id + 1 = ap (λ (i : ℕ). (i + 1) % 65536) id ∙ small (s.next_id + 1) below in (
      subst (λ (x : State). IsOrderly observes x) (sym asks.after) (record {
        one_token = both.0;
        unobserved = both.1;
        ids = length-set s.uses asks.id (Some s.moment) ∙ o.ids;
        unused = λ i above.
            let higher : s.next_id + 1 ≤ i = subst (λ (k : ℕ). k ≤ i) next above in
            get_or-set_other s.uses asks.id i (Some s.moment) None (λ same. omega (arith, same, id, higher)) ∙ o.unused i (omega (arith, higher));
      }),
      ap (λ (x : State). x.next_id) asks.after ∙ next,
    )

pub new_orderly : (observes : Bool) (first : ℕ) (s : State) → IsNew first s → IsOrderly observes s
new_orderly observes first s is = record {
  one_token = subst (λ (o : Option Outstanding). HaveOneToken o s.observation) (sym is.outstanding) tt;
  unobserved = λ isnt. is.observation;
  ids = is.ids;
  unused = λ id above. is.unused id;
}
