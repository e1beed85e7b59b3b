-- Further facts on the world where no two asks have one id (`Exact`): the effects of the copies of asks, of which each
-- reply that is kept or was sent is one, and so is each response that ended an ask; and each notification is of an ask
-- that registered.
use Rattle.std.proofs.Common.{◌≡◌, ◌≢◌, ◌⊎◌, ℕ, ◌<◌, ◌^◌, ◌∙◌, true, false, Some, List, [], ◌++◌, get_or, inl, inr, sym, ap, subst, arith}
use Rattle.std.specs.Prelude.{All, AllPairs, Contains, slice_get}
use Rattle.std.proofs.lemmas.Bool.{cases_lt}
use Rattle.std.proofs.lemmas.List.{append-nil}
use Rattle.std.proofs.lemmas.List.Elements.{All-weaker, Contains-append_left}
use Rattle.std.proofs.lemmas.Option.{slice_get_within, get_or_from_slice_get}
use Rattle.coap_msg.specs.declared.message.Type4.TheVariants.{Ack, Rst}
use Rattle.coap_msg.specs.Grammar.{CoapMessage, Spells}
use Rattle.coap_exchange.specs.Table.{Exchange}
use Rattle.coap_client.specs.declared.outstanding.Outstanding.{Outstanding}
use Rattle.coap_client.specs.Answers.{sequence_of, block2_of}
use Rattle.coap_observe.specs.declared.notice.Notice.{Notice}
use Rattle.coap_observe.specs.Accounts.{token_of}
use Rattle.coap_bind.specs.Writing.{Reply, full_reply, reply_options, notification}
use Rattle.coap_bind.specs.Server.{is_request}
use Rattle.servient_world.specs.World.{client_place, server_place, Purpose, copy_of, reply_to, notification_for, other, Datagram, Act, End, answered, observed, reset, timed_out, AskEnd, WorldState}
use Rattle.servient_world.proofs.Places.{at_more}
use Rattle.servient_world.proofs.Ledger.{Entry, ComesFirst, AreFed, Ledger}
use Rattle.servient_world.proofs.Given.{Given}
use Rattle.servient_world.proofs.Joins.{Joins}

-- ---- the invariant

-- the cause for which the server replies so to an ask: the table is full, or the ask led to that once it was admitted
abbrev pub IsWhy : List Entry → ℕ → Reply → Type 0
IsWhy led k r = (r ≡ full_reply) ⊎ ((x : Entry) × Contains led x × (x.ask ≡ k) × (r ≡ x.reply))

-- these bytes are a reply to an ask
pub record IsReply (asks : List Outstanding) (led : List Entry) (k : ℕ) (bytes : List ℕ) : Type 0 where
  pub request : Outstanding
  pub ask : slice_get asks k ≡ Some request
  pub answer : CoapMessage
  pub spells : Spells answer bytes
  pub kind : answer.kind ≡ Ack
  pub id : answer.id ≡ request.id
  pub token : answer.token ≡ request.token
  pub reply : Reply
  pub code : answer.code ≡ reply.code
  pub payload : answer.payload ≡ reply.payload
  pub options : answer.options ≡ reply_options reply
  -- Observe is only in the reply to a registration, with the number 0
  pub shows : (q : ℕ) → sequence_of answer.options ≡ Some q → (q ≡ 0) × (request.registers ≡ true)
  pub why : IsWhy led k reply

-- an exchange of the client's is that of an ask, and its reply is one to that
pub record IsOfAsk (asks : List Outstanding) (led : List Entry) (e : Exchange) : Type 0 where
  pub place : ℕ
  pub request : Outstanding
  pub ask : slice_get asks place ≡ Some request
  pub id : e.arrival.id ≡ request.id
  pub kept : (bytes : List ℕ) → e.reply ≡ Some bytes → IsReply asks led place bytes

abbrev pub IsKept : List Outstanding → List Entry → Exchange → Type 0
IsKept asks led e = e.arrival.from ≡ client_place → IsOfAsk asks led e

-- a datagram that was sent back on a copy of an ask is a reply to it; one that was sent for anything else goes to
-- neither end
pub record IsSentBack (asks : List Outstanding) (led : List Entry) (k : ℕ) (d : Datagram) : Type 0 where
  pub from : d.from ≡ server_place
  pub to : d.to ≡ client_place
  pub reply : IsReply asks led k d.bytes

-- a notification of the target for which an ask registered, for which an act was made
pub record IsNotification (asks : List Outstanding) (acts : List Act) (k sequence : ℕ) (d : Datagram) : Type 0 where
  pub from : d.from ≡ server_place
  pub to : d.to ≡ client_place
  pub request : Outstanding
  pub ask : slice_get asks k ≡ Some request
  pub registers : request.registers ≡ true
  pub act : Act
  pub made : Contains acts act
  pub for_it : act.ask ≡ k
  pub notice : Notice
  pub value : List ℕ
  pub token : token_of notice ≡ request.token
  pub target : act.acted.target ≡ Some notice.target
  pub number : notice.sequence ≡ sequence
  pub low : notice.sequence < 2 ^ 24
  pub spells : Spells (notification notice value) d.bytes

-- an empty message of the client's
pub record IsEmpty (d : Datagram) : Type 0 where
  pub message : CoapMessage
  pub spells : Spells message d.bytes
  pub kind : (message.kind ≡ Ack) ⊎ (message.kind ≡ Rst)
  pub no_request : is_request message ≡ false

abbrev pub IsSaid : List Outstanding → List Act → List Entry → Datagram → Purpose → Type 0
IsSaid asks acts led d (copy_of k) = (d.to ≡ client_place) → ⊥
IsSaid asks acts led d (reply_to k) = IsSentBack asks led k d
IsSaid asks acts led d (notification_for k q e) = IsNotification asks acts k q d
IsSaid asks acts led d other = ((d.to ≡ client_place) → ⊥) × (((d.to ≡ server_place) → ⊥) ⊎ IsEmpty d)

-- the answer that ended an ask is a reply to it
abbrev pub IsEnd : List Act → List Entry → ℕ → End → Type 0
IsEnd acts led k (answered code block payload) = (r : Reply) × IsWhy led k r × (code ≡ r.code) × (block ≡ block2_of (reply_options r)) × (payload ≡ r.payload)
IsEnd acts led k observed = (x : Act) × Contains acts x × (x.ask ≡ k)
IsEnd acts led k reset = Unit {0}
IsEnd acts led k timed_out = Unit {0}

pub record Exact (w : WorldState) : Type 0 where
  pub led : List Entry
  pub ledger : Ledger led w.asks w.acts w.server w.moment
  pub given : Given led w.server
  pub joins : Joins led w.server
  pub fed : AreFed w.server.links led
  pub first : AllPairs (ComesFirst w.ends) led
  pub kept : All (IsKept w.asks led) w.server.exchanges.exchanges
  pub said : All (λ d. IsSaid w.asks w.acts led d d.purpose) w.sent
  pub ended : All (λ e. IsEnd w.acts led e.ask e.end) w.ends

-- ---- more asks, acts and entries

why_more : (led later : List Entry) (k : ℕ) (r : Reply) → IsWhy led k r → IsWhy (led ++ later) k r
why_more led later k r (inl full) = inl full
why_more led later k r (inr x) = inr (x.0, Contains-append_left led later x.0 x.1, x.2, x.3)

pub reply_more : (asks other_asks : List Outstanding) (led later : List Entry) (k : ℕ) (bytes : List ℕ) → IsReply asks led k bytes → IsReply (asks ++ other_asks) (led ++ later) k bytes
reply_more asks other_asks led later k bytes r = record {
  request = r.request;
  ask = at_more asks other_asks k r.request r.ask;
  answer = r.answer;
  spells = r.spells;
  kind = r.kind;
  id = r.id;
  token = r.token;
  reply = r.reply;
  code = r.code;
  payload = r.payload;
  options = r.options;
  shows = r.shows;
  why = why_more led later k r.reply r.why;
}

kept_more : (asks other_asks : List Outstanding) (led later : List Entry) (e : Exchange) → IsKept asks led e → IsKept (asks ++ other_asks) (led ++ later) e
kept_more asks other_asks led later e of from =
    let x = of from in
    record {
      place = x.place;
      request = x.request;
      ask = at_more asks other_asks x.place x.request x.ask;
      id = x.id;
      kept = λ bytes is. reply_more asks other_asks led later x.place bytes (x.kept bytes is);
    }

said_more : (asks other_asks : List Outstanding) (acts more : List Act) (led later : List Entry) (d : Datagram) (p : Purpose) → IsSaid asks acts led d p
    → IsSaid (asks ++ other_asks) (acts ++ more) (led ++ later) d p
said_more asks other_asks acts more led later d (copy_of k) is = is
said_more asks other_asks acts more led later d (reply_to k) is = record { from = is.from; to = is.to; reply = reply_more asks other_asks led later k d.bytes is.reply }
said_more asks other_asks acts more led later d (notification_for k q e) is = record {
  from = is.from;
  to = is.to;
  request = is.request;
  ask = at_more asks other_asks k is.request is.ask;
  registers = is.registers;
  act = is.act;
  made = Contains-append_left acts more is.act is.made;
  for_it = is.for_it;
  notice = is.notice;
  value = is.value;
  token = is.token;
  target = is.target;
  number = is.number;
  low = is.low;
  spells = is.spells;
}
said_more asks other_asks acts more led later d other is = is

end_more : (acts more : List Act) (led later : List Entry) (k : ℕ) (e : End) → IsEnd acts led k e → IsEnd (acts ++ more) (led ++ later) k e
end_more acts more led later k (answered code block payload) is = (is.0, why_more led later k is.0 is.1, is.2, is.3, is.4)
end_more acts more led later k observed is = (is.0, Contains-append_left acts more is.0 is.1, is.2)
end_more acts more led later k reset is = tt
end_more acts more led later k timed_out is = tt

pub all_kept_more : (asks other_asks : List Outstanding) (led later : List Entry) (es : List Exchange) → All (IsKept asks led) es → All (IsKept (asks ++ other_asks) (led ++ later)) es
all_kept_more asks other_asks led later es all = All-weaker (IsKept asks led) (IsKept (asks ++ other_asks) (led ++ later)) (λ e is. kept_more asks other_asks led later e is) es all

pub all_said_more : (asks other_asks : List Outstanding) (acts more : List Act) (led later : List Entry) (ds : List Datagram) → All (λ d. IsSaid asks acts led d d.purpose) ds
    → All (λ d. IsSaid (asks ++ other_asks) (acts ++ more) (led ++ later) d d.purpose) ds
all_said_more asks other_asks acts more led later ds all =
    All-weaker (λ (d : Datagram). IsSaid asks acts led d d.purpose) (λ (d : Datagram). IsSaid (asks ++ other_asks) (acts ++ more) (led ++ later) d d.purpose)
    (λ d is. said_more asks other_asks acts more led later d d.purpose is) ds all

pub all_ends_more : (acts more : List Act) (led later : List Entry) (es : List AskEnd) → All (λ e. IsEnd acts led e.ask e.end) es → All (λ e. IsEnd (acts ++ more) (led ++ later) e.ask e.end) es
all_ends_more acts more led later es all =
    All-weaker (λ (e : AskEnd). IsEnd acts led e.ask e.end) (λ (e : AskEnd). IsEnd (acts ++ more) (led ++ later) e.ask e.end)
    (λ e is. end_more acts more led later e.ask e.end is) es all

-- the same with as many asks, or as many acts and entries
pub kept_later : (asks : List Outstanding) (led later : List Entry) (es : List Exchange) → All (IsKept asks led) es → All (IsKept asks (led ++ later)) es
kept_later asks led later es all = subst (λ (l : List Outstanding). All (IsKept l (led ++ later)) es) (append-nil asks) (all_kept_more asks [] led later es all)

pub kept_asked : (asks other_asks : List Outstanding) (led : List Entry) (es : List Exchange) → All (IsKept asks led) es → All (IsKept (asks ++ other_asks) led) es
kept_asked asks other_asks led es all = subst (λ (l : List Entry). All (IsKept (asks ++ other_asks) l) es) (append-nil led) (all_kept_more asks other_asks led [] es all)

pub said_later : (asks : List Outstanding) (acts more : List Act) (led later : List Entry) (ds : List Datagram) → All (λ d. IsSaid asks acts led d d.purpose) ds
    → All (λ d. IsSaid asks (acts ++ more) (led ++ later) d d.purpose) ds
said_later asks acts more led later ds all =
    subst (λ (l : List Outstanding). All (λ d. IsSaid l (acts ++ more) (led ++ later) d d.purpose) ds) (append-nil asks) (all_said_more asks [] acts more led later ds all)

pub said_asked : (asks other_asks : List Outstanding) (acts : List Act) (led : List Entry) (ds : List Datagram) → All (λ d. IsSaid asks acts led d d.purpose) ds
    → All (λ d. IsSaid (asks ++ other_asks) acts led d d.purpose) ds
said_asked asks other_asks acts led ds all =
    subst (λ (l : List Entry). All (λ d. IsSaid (asks ++ other_asks) acts l d d.purpose) ds) (append-nil led)
    (subst (λ (l : List Act). All (λ d. IsSaid (asks ++ other_asks) l (led ++ []) d d.purpose) ds) (append-nil acts) (all_said_more asks other_asks acts [] led [] ds all))

pub reply_later : (asks : List Outstanding) (led later : List Entry) (k : ℕ) (bytes : List ℕ) → IsReply asks led k bytes → IsReply asks (led ++ later) k bytes
reply_later asks led later k bytes r = subst (λ (l : List Outstanding). IsReply l (led ++ later) k bytes) (append-nil asks) (reply_more asks [] led later k bytes r)

-- ---- ids

-- two asks with one id are one
pub same_ask : (asks : List Outstanding) (j k : ℕ) (a b : Outstanding) → AllPairs (λ x y. x.id ≢ y.id) asks → slice_get asks j ≡ Some a → slice_get asks k ≡ Some b → a.id ≡ b.id → j ≡ k
same_ask asks j k a b differ at_j at_k same =
    let in_j = slice_get_within asks j a at_j in
    let in_k = slice_get_within asks k b at_k in
    let one : get_or asks j a ≡ a = get_or_from_slice_get asks j a a at_j in
    let two : get_or asks k a ≡ b = get_or_from_slice_get asks k b a at_k in
    let ids : (get_or asks j a).id ≡ (get_or asks k a).id = ap (λ (x : Outstanding). x.id) one ∙ (same ∙ sym (ap (λ (x : Outstanding). x.id) two)) in
    elim (cases_lt j k) [
      | inl before ↦ absurd (differ j k a before in_k ids)
      | inr not_before ↦ elim (cases_lt k j) [
        | inl after ↦ absurd (differ k j a after in_j (sym ids))
        | inr not_after ↦ omega arith
      ]
    ]
