-- The history of the server's observers, as the world knows it: a registration with the client's endpoint is by an ask
-- for which an act was made, no token registered twice, and each notification to the client is noted.
use Rattle.std.proofs.Common.{◌≡◌, ◌≢◌, ◌⊎◌, ℕ, ◌<◌, ◌≤◌, ◌^◌, ◌∙◌, ◌&&◌, Bool, true, false, cond, Option, Some, None, List, [], ◌∷◌, ◌++◌, length, get_or, inl, inr, refl, sym, ap, subst, arith}
use Rattle.std.specs.Prelude.{◌==◌, All, AllPairs, Contains, slice_get}
use Rattle.std.specs.Str.{bytes_eq}
use Rattle.std.proofs.lemmas.Bool.{cases_lt, cases_Bool}
use Rattle.std.proofs.lemmas.Bool.Decides.{nat_tests}
use Rattle.std.proofs.lemmas.List.{append-nil, length_push, get_or_append_left, get_or_push}
use Rattle.std.proofs.lemmas.List.Elements.{All-weaker, All-contains, Contains-append_left, Contains-append_right, Contains-push}
use Rattle.std.proofs.lemmas.Option.{slice_get_within, get_or_from_slice_get}
use Rattle.coap_msg.specs.declared.endpoint.Endpoint.{Endpoint}
use Rattle.coap_msg.specs.declared.message.Type4.{Type4}
use Rattle.coap_msg.specs.declared.message.Type4.TheVariants.{Con, Non, Ack, Rst}
use Rattle.coap_msg.specs.declared.constants.TheConstants.{GET, EMPTY}
use Rattle.coap_msg.specs.Endpoints.{is_same_endpoint}
use Rattle.coap_msg.specs.Grammar.{CoapMessage, Spells}
use Rattle.coap_msg.proofs.SameEndpoints.{both, same_endpoint}
use Rattle.thing_ops.specs.declared.outcome.Outcome.{Outcome}
use Rattle.coap_opts.specs.Table.{observe}
use Rattle.coap_opts.specs.Reading.{number_under, asked as what_is_asked}
use Rattle.coap_client.specs.declared.outstanding.Outstanding.{Outstanding}
use Rattle.coap_client.proofs.TokenLaws.{registrations_differ}
use Rattle.coap_observe.specs.declared.notice.Registered.{Registered}
use Rattle.coap_observe.specs.declared.notice.Registered.TheVariants.{New, Replaced, Full}
use Rattle.coap_observe.specs.Watching.{Watching, Registers}
use Rattle.coap_observe.specs.Accounts.{Registration, SentNotification, Account, with_registration, Did as AccountDid, registered as was_registered, cancelled as was_cancelled, acknowledged as was_acknowledged, rejected as was_rejected, token_of, one_if, registrations_of, fresh_count}
use Rattle.coap_bind.specs.declared.observing.Observing.{Observing}
use Rattle.coap_bind.specs.declared.observing.Observing.TheVariants as observing
use Rattle.coap_bind.specs.declared.observing.Effect.{Effect}
use Rattle.coap_bind.specs.declared.observing.Effect.TheVariants as effect
use Rattle.coap_bind.specs.declared.server.Server.{Server}
use Rattle.coap_bind.specs.Observing.{observing_at, observing_of, may_notify, is_memory, registering, effect_of, Watches, leaves, cancels, registers}
use Rattle.coap_bind.specs.Writing.{Reply}
use Rattle.coap_bind.specs.Server.{observing_in, told_by_empty}
use Rattle.coap_bind.specs.Links.{observers_with_links}
use Rattle.coap_bind.specs.Treating.{Acted, IsReplied, faulty, memory, of_blocks, of_links, no_method, acted, acted_on_whole, IsTold, IsTreated, no_request, is_duplicate, finds_full, is_answered, is_ignored}
use Rattle.servient_world.specs.World.{client_place, server_place, Purpose, copy_of, reply_to, notification_for, other, Datagram, Act, WorldState, targets_of}
use Rattle.servient_world.proofs.Places.{at_more}
use Rattle.servient_world.proofs.Tokens.{same_token}
use Rattle.servient_world.proofs.Holds.{Holds}

-- ---- the invariant

-- an ask registered, and an act was made for it that was of this target
pub record IsRegistered (asks : List Outstanding) (acts : List Act) (r : Registration) : Type 0 where
  pub place : ℕ
  pub request : Outstanding
  pub ask : slice_get asks place ≡ Some request
  pub registers : request.registers ≡ true
  pub token : request.token ≡ r.token
  pub act : Act
  pub made : Contains acts act
  pub for_it : act.ask ≡ place
  pub target : act.acted.target ≡ Some r.target

-- the server itself doesn't register, and the client by such an ask
abbrev pub IsKnown : List Outstanding → List Act → Registration → Type 0
IsKnown asks acts r = (r.from ≡ server_place → ⊥) × (r.from ≡ client_place → IsRegistered asks acts r)

-- a notification to the client is in the account
pub record IsInAccount (asks : List Outstanding) (account : Account) (k q e : ℕ) : Type 0 where
  pub request : Outstanding
  pub ask : slice_get asks k ≡ Some request
  pub notice : SentNotification
  pub has : Contains account.sent notice
  pub to : notice.notice.to ≡ client_place
  pub token : token_of notice.notice ≡ request.token
  pub sequence : notice.notice.sequence ≡ q
  pub place : notice.place ≡ e

abbrev pub IsNoted : List Outstanding → Account → Purpose → Type 0
IsNoted asks account (notification_for k q e) = IsInAccount asks account k q e
IsNoted asks account (copy_of k) = Unit {0}
IsNoted asks account (reply_to k) = Unit {0}
IsNoted asks account other = Unit {0}

pub record Watched (observers : ℕ) (w : WorldState) : Type 0 where
  pub account : Account
  pub did : AccountDid observers account w.server.observers
  pub values : account.emitted ≡ targets_of w.emitted
  pub registered : All (IsKnown w.asks w.acts) account.registered
  pub once : (token : List ℕ) → registrations_of client_place token account.registered ≤ 1
  pub noted : All (λ d. IsNoted w.asks account d.purpose) w.sent
  pub fresh : fresh_count account.sent ≤ w.ids
  pub id : w.server.next_id < 2 ^ 16

-- ---- more asks and acts

registered_more : (asks other_asks : List Outstanding) (acts more : List Act) (r : Registration) → IsKnown asks acts r → IsKnown (asks ++ other_asks) (acts ++ more) r
registered_more asks other_asks acts more r known = (
  known.0,
  λ from.
      let x = known.1 from in
      record {
        place = x.place;
        request = x.request;
        ask = at_more asks other_asks x.place x.request x.ask;
        registers = x.registers;
        token = x.token;
        act = x.act;
        made = Contains-append_left acts more x.act x.made;
        for_it = x.for_it;
        target = x.target;
      },
)

pub all_registered_more : (asks other_asks : List Outstanding) (acts more : List Act) (rs : List Registration) → All (IsKnown asks acts) rs
    → All (IsKnown (asks ++ other_asks) (acts ++ more)) rs
all_registered_more asks other_asks acts more rs all = All-weaker (IsKnown asks acts) (IsKnown (asks ++ other_asks) (acts ++ more)) (λ r is. registered_more asks other_asks acts more r is) rs all

pub acts_more : (asks : List Outstanding) (acts more : List Act) (rs : List Registration) → All (IsKnown asks acts) rs → All (IsKnown asks (acts ++ more)) rs
acts_more asks acts more rs all = subst (λ (l : List Outstanding). All (IsKnown l (acts ++ more)) rs) (append-nil asks) (all_registered_more asks [] acts more rs all)

pub asks_more : (asks other_asks : List Outstanding) (acts : List Act) (rs : List Registration) → All (IsKnown asks acts) rs → All (IsKnown (asks ++ other_asks) acts) rs
asks_more asks other_asks acts rs all = subst (λ (l : List Act). All (IsKnown (asks ++ other_asks) l) rs) (append-nil acts) (all_registered_more asks other_asks acts [] rs all)

noted_more : (asks other_asks : List Outstanding) (account : Account) (p : Purpose) → IsNoted asks account p → IsNoted (asks ++ other_asks) account p
noted_more asks other_asks account (notification_for k q e) x = record {
  request = x.request;
  ask = at_more asks other_asks k x.request x.ask;
  notice = x.notice;
  has = x.has;
  to = x.to;
  token = x.token;
  sequence = x.sequence;
  place = x.place;
}
noted_more asks other_asks account (copy_of k) x = tt
noted_more asks other_asks account (reply_to k) x = tt
noted_more asks other_asks account other x = tt

pub all_noted_more : (asks other_asks : List Outstanding) (account : Account) (ds : List Datagram) → All (λ d. IsNoted asks account d.purpose) ds
    → All (λ d. IsNoted (asks ++ other_asks) account d.purpose) ds
all_noted_more asks other_asks account ds all =
    All-weaker (λ (d : Datagram). IsNoted asks account d.purpose) (λ (d : Datagram). IsNoted (asks ++ other_asks) account d.purpose)
    (λ d is. noted_more asks other_asks account d.purpose is) ds all

-- a notification that was sent before is in the account still
noted_account : (asks : List Outstanding) (a b : Account) (p : Purpose) → ((s : SentNotification) → Contains a.sent s → Contains b.sent s) → IsNoted asks a p → IsNoted asks b p
noted_account asks a b (notification_for k q e) more x = record {
  request = x.request;
  ask = x.ask;
  notice = x.notice;
  has = more x.notice x.has;
  to = x.to;
  token = x.token;
  sequence = x.sequence;
  place = x.place;
}
noted_account asks a b (copy_of k) more x = tt
noted_account asks a b (reply_to k) more x = tt
noted_account asks a b other more x = tt

pub all_noted_account : (asks : List Outstanding) (a b : Account) (ds : List Datagram) → ((s : SentNotification) → Contains a.sent s → Contains b.sent s)
    → All (λ d. IsNoted asks a d.purpose) ds → All (λ d. IsNoted asks b d.purpose) ds
all_noted_account asks a b ds more all =
    All-weaker (λ (d : Datagram). IsNoted asks a d.purpose) (λ (d : Datagram). IsNoted asks b d.purpose) (λ d is. noted_account asks a b d.purpose more is) ds all

-- ---- registrations of one token

-- a pair that registered is among the registrations
pub registration_there : (from : Endpoint) (token : List ℕ) (rs : List Registration) → 0 < registrations_of from token rs
    → (r : Registration) × Contains rs r × (r.from ≡ from) × (r.token ≡ token)
registration_there from token [] some = absurd (omega arith)
registration_there from token (r ∷ rs) some = elim (cases_Bool (is_same_endpoint from r.from && bytes_eq token r.token)) [
  | inl here ↦
      let h = both (is_same_endpoint from r.from) (bytes_eq token r.token) here in
      (r, Contains-append_left (r ∷ []) rs r (Contains-push [] r), sym (same_endpoint from r.from h.0), sym (same_token token r.token h.1))
  | inr not_here ↦
      let none : one_if (is_same_endpoint from r.from && bytes_eq token r.token) ≡ 0 = ap one_if not_here in
      let x = registration_there from token rs (omega arith) in
      (x.0, Contains-append_right (r ∷ []) rs x.0 x.1, x.2, x.3)
]

-- two registering asks with one token are one
pub same_registration : (asks : List Outstanding) (j k : ℕ) (a b : Outstanding) → AllPairs (λ x y. y.registers ≡ true → x.token ≢ y.token) asks
    → slice_get asks j ≡ Some a → slice_get asks k ≡ Some b → a.registers ≡ true → b.registers ≡ true → a.token ≡ b.token → j ≡ k
same_registration asks j k a b differ at_j at_k reg_a reg_b same =
    let in_j = slice_get_within asks j a at_j in
    let in_k = slice_get_within asks k b at_k in
    let one : get_or asks j a ≡ a = get_or_from_slice_get asks j a a at_j in
    let two : get_or asks k a ≡ b = get_or_from_slice_get asks k b a at_k in
    let tokens : (get_or asks j a).token ≡ (get_or asks k a).token = ap (λ (x : Outstanding). x.token) one ∙ (same ∙ sym (ap (λ (x : Outstanding). x.token) two)) in
    elim (cases_lt j k) [
      | inl before ↦ absurd (differ j k a before in_k (ap (λ (x : Outstanding). x.registers) two ∙ reg_b) tokens)
      | inr not_before ↦ elim (cases_lt k j) [
        | inl after_it ↦ absurd (differ k j a after_it in_j (ap (λ (x : Outstanding). x.registers) one ∙ reg_a) (sym tokens))
        | inr not_after ↦ omega arith
      ]
    ]

-- of two acts of which one is the last no two are for one ask
not_acted_before : (acts : List Act) (x y : Act) → AllPairs (λ x y. x.ask ≢ y.ask) (acts ++ y ∷ []) → Contains acts x → x.ask ≢ y.ask
not_acted_before acts x y differ has same =
    let n = length acts in
    let count = length_push acts y in
    let first : get_or (acts ++ y ∷ []) has.0 x ≡ x = get_or_append_left acts (y ∷ []) x has.0 has.1 ∙ has.2 in
    let last : get_or (acts ++ y ∷ []) (length acts) x ≡ y = get_or_push acts y x (length acts) refl in
    let within = has.1 in
    differ has.0 (length acts) x within (omega arith) (ap (λ (z : Act). z.ask) first ∙ (same ∙ sym (ap (λ (z : Act). z.ask) last)))

-- where an act is made for a registering ask its token didn't register before
pub none_registered : (capacity observers : ℕ) (w : WorldState) (k : ℕ) (request : Outstanding) (made : Act) → Holds capacity w → length w.asks ≤ 65536 → (x : Watched observers w)
    → slice_get w.asks k ≡ Some request → request.registers ≡ true → made.ask ≡ k → AllPairs (λ x y. x.ask ≢ y.ask) (w.acts ++ made ∷ [])
    → registrations_of client_place request.token x.account.registered ≡ 0
none_registered capacity observers w k request made h few x at reg for_it differ =
    elim (cases_lt 0 (registrations_of client_place request.token x.account.registered)) [
      | inl some ↦
          let r = registration_there client_place request.token x.account.registered some in
          let is = (All-contains (IsKnown w.asks w.acts) x.account.registered r.0 x.registered r.1).1 r.2 in
          let which : is.place ≡ k = same_registration w.asks is.place k is.request request (registrations_differ w.asks w.client h.did few) is.ask at is.registers reg (is.token ∙ r.3) in
          absurd (not_acted_before w.acts is.act made differ is.made (is.for_it ∙ (which ∙ sym for_it)))
      | inr none ↦ omega arith
    ]

-- ---- the effect of a request on the observers

abbrev target_in : Effect → Option ℕ
target_in effect.Nothing = None
target_in effect.Cancels = None
target_in (effect.Registers target) = Some target

registering_says : (target : Option ℕ) (n : ℕ) → registering target ≡ effect.Registers n → target ≡ Some n
registering_says None n e = absurd (cc)
registering_says (Some target) n e = ap target_in e

registers_at : (b : Bool) (target : Option ℕ) (n : ℕ) → cond b (registering target) effect.Nothing ≡ effect.Registers n → (b ≡ true) × (target ≡ Some n)
registers_at true target n e = (refl, registering_says target n e)
registers_at false target n e = absurd (cc)

cancels_at : (b : Bool) (n : ℕ) → cond b effect.Nothing effect.Cancels ≡ effect.Registers n → ⊥
cancels_at true n e = cc
cancels_at false n e = cc

-- one that registers wants to, may be notified and is for a target
pub effect_says : (wants : Observing) (o : Outcome) (target : Option ℕ) (n : ℕ) → effect_of wants o target ≡ effect.Registers n
    → (wants ≡ observing.Registers) × (may_notify o ≡ true) × (target ≡ Some n)
effect_says observing.Unchanged o target n e = absurd (cc)
effect_says observing.Registers o target n e = let h = registers_at (may_notify o) target n e in (refl, h.0, h.1)
effect_says observing.Deregisters o target n e = absurd (cancels_at (is_memory o) n e)

zero_at : (n : ℕ) (b c : Bool) → (n == 0) ≡ b → cond b observing.Registers (cond c observing.Deregisters observing.Unchanged) ≡ observing.Registers → (n == 0) ≡ true
zero_at n true c test e = test
zero_at n false true test e = absurd (cc)
zero_at n false false test e = absurd (cc)

observing_at_says : (observe : Option ℕ) → observing_at observe ≡ observing.Registers → observe ≡ Some 0
observing_at_says None e = absurd (cc)
observing_at_says (Some n) e = let test = zero_at n (n == 0) (n == 1) refl e in ap (λ (k : ℕ). Some k) (zero_is n test)
  where
    zero_is : (n : ℕ) → (n == 0) ≡ true → n ≡ 0
    zero_is n e' = grind (arith, nat_tests)

get_at : (b : Bool) (observe : Option ℕ) → cond b (observing_at observe) observing.Unchanged ≡ observing.Registers → observe ≡ Some 0
get_at true observe e = observing_at_says observe e
get_at false observe e = absurd (cc)

pub observing_says : (code : ℕ) (observe : Option ℕ) → observing_of code observe ≡ observing.Registers → observe ≡ Some 0
observing_says code observe e = get_at (code == GET) observe e

-- a registration by a request
pub record IsByRequest (bytes : List ℕ) (act : Option Acted) (r : Registration) : Type 0 where
  pub message : CoapMessage
  pub spells : Spells message bytes
  pub made : Acted
  pub acted_is : act ≡ Some made
  pub token : message.token ≡ r.token
  pub target : made.target ≡ Some r.target
  pub observes : number_under observe message.options ≡ Some 0

-- The account after a datagram: nothing else was done, or there is one more registration.
pub record GoesOn (observers : ℕ) (from : Endpoint) (bytes : List ℕ) (act : Option Acted) (a : Account) (t : Watching) : Type 0 where
  pub account : Account
  pub did : AccountDid observers account t
  pub emitted : account.emitted ≡ a.emitted
  pub sent : account.sent ≡ a.sent
  pub registered : (account.registered ≡ a.registered)
      ⊎ ((r : Registration) × (account.registered ≡ a.registered ++ r ∷ []) × (r.from ≡ from) × IsByRequest bytes act r)

same_account : (observers : ℕ) (from : Endpoint) (bytes : List ℕ) (act : Option Acted) (a : Account) (t : Watching) → AccountDid observers a t → GoesOn observers from bytes act a t
same_account observers from bytes act a t did = record { account = a; did = did; emitted = refl; sent = refl; registered = inl refl }

kept_account : (observers : ℕ) (from : Endpoint) (bytes : List ℕ) (act : Option Acted) (a : Account) (s t : Watching) → t ≡ s → AccountDid observers a s → GoesOn observers from bytes act a t
kept_account observers from bytes act a s t same did = same_account observers from bytes act a t (subst (AccountDid observers a) (sym same) did)

told_account : (observers : ℕ) (from : Endpoint) (a : Account) (s : Watching) (kind : Type4) (id : ℕ) → AccountDid observers a s → AccountDid observers a (told_by_empty from kind id s)
told_account observers from a s Con id did = did
told_account observers from a s Non id did = did
told_account observers from a s Ack id did = was_acknowledged a s (told_by_empty from Ack id s) from id did refl
told_account observers from a s Rst id did = was_rejected a s (told_by_empty from Rst id s) from id did refl

told_at : (observers : ℕ) (from : Endpoint) (a : Account) (s : Watching) (kind : Type4) (id : ℕ) (b : Bool) → AccountDid observers a s → AccountDid observers a (cond b (told_by_empty from kind id s) s)
told_at observers from a s kind id true did = told_account observers from a s kind id did
told_at observers from a s kind id false did = did

account_told : (observers : ℕ) (from : Endpoint) (bytes : List ℕ) (a : Account) (s t : Watching) → IsTold from bytes s t → AccountDid observers a s → AccountDid observers a t
account_told observers from bytes a s t (inl same) did = subst (AccountDid observers a) (sym same) did
account_told observers from bytes a s t (inr told) did =
    subst (AccountDid observers a) (sym told.2) (told_at observers from a s told.0.kind told.0.id (told.0.code == EMPTY) did)

-- the account after a registration
account_registered : (observers : ℕ) (from : Endpoint) (bytes : List ℕ) (act : Option Acted) (a : Account) (s t : Watching) (token : List ℕ) (target : ℕ) (o : Registered) → length token ≤ 8
    → Registers from token target s o t → IsByRequest bytes act (record { from = from; token = token; target = target }) → AccountDid observers a s → GoesOn observers from bytes act a t
account_registered observers from bytes act a s t token target (New n) short reg by did =
    let r : Registration = record { from = from; token = token; target = target } in
    record {
      account = with_registration (New n) r a;
      did = was_registered a s t from token target (New n) did short reg;
      emitted = refl;
      sent = refl;
      registered = inr (r, refl, refl, by);
    }
account_registered observers from bytes act a s t token target (Replaced n) short reg by did =
    let r : Registration = record { from = from; token = token; target = target } in
    record {
      account = with_registration (Replaced n) r a;
      did = was_registered a s t from token target (Replaced n) did short reg;
      emitted = refl;
      sent = refl;
      registered = inr (r, refl, refl, by);
    }
account_registered observers from bytes act a s t token target Full short reg by did =
    same_account observers from bytes act a t (was_registered a s t from token target Full did short reg)

account_watched : (observers : ℕ) (from : Endpoint) (bytes : List ℕ) (act : Option Acted) (a : Account) (s t : Watching) (m : CoapMessage) (made : Acted) (observe_said : Option ℕ)
    → Spells m bytes → act ≡ Some made → Watches (effect_of (observing_of m.code (what_is_asked m).observe) made.outcome made.target) from m.token s observe_said t
    → AccountDid observers a s → GoesOn observers from bytes act a t
account_watched observers from bytes act a s t m made observe_said spells is (leaves does none same) did = kept_account observers from bytes act a s t same did
account_watched observers from bytes act a s t m made observe_said spells is (cancels does none same) did =
    same_account observers from bytes act a t (was_cancelled a s t from m.token did same)
account_watched observers from bytes act a s t m made observe_said spells is (registers target o does reg said) did =
    let says = effect_says (observing_of m.code (what_is_asked m).observe) made.outcome made.target target does in
    account_registered observers from bytes act a s t m.token target o spells.bounds.token reg (record {
      message = m;
      spells = spells;
      made = made;
      acted_is = is;
      token = refl;
      target = says.2;
      observes = observing_says m.code (what_is_asked m).observe says.0;
    }) did

-- the links were given
account_links : (observers : ℕ) (from : Endpoint) (bytes : List ℕ) (act : Option Acted) (a : Account) (s t : Watching) (token : List ℕ) (wants : Observing) → t ≡ observers_with_links wants from token s
    → AccountDid observers a s → GoesOn observers from bytes act a t
account_links observers from bytes act a s t token observing.Unchanged same did = kept_account observers from bytes act a s t same did
account_links observers from bytes act a s t token observing.Registers same did = kept_account observers from bytes act a s t same did
account_links observers from bytes act a s t token observing.Deregisters same did = same_account observers from bytes act a t (was_cancelled a s t from token did same)

account_replied : (observers : ℕ) (from : Endpoint) (bytes : List ℕ) (now : ℕ) (act : Option Acted) (a : Account) (s t : Watching) (m : CoapMessage) (r : Reply)
    → Spells m bytes → IsReplied from now m act r s t → AccountDid observers a s → GoesOn observers from bytes act a t
account_replied observers from bytes now act a s t m r spells (faulty faults none same) did = kept_account observers from bytes act a s t same did
account_replied observers from bytes now act a s t m r spells (memory is none same) did = kept_account observers from bytes act a s t same did
account_replied observers from bytes now act a s t m r spells (of_blocks wants none same) did = kept_account observers from bytes act a s t same did
account_replied observers from bytes now act a s t m r spells (of_links text links none same is) did = account_links observers from bytes act a s t m.token (observing_in m) same did
account_replied observers from bytes now act a s t m r spells (no_method links none same is) did = kept_account observers from bytes act a s t same did
account_replied observers from bytes now act a s t m r spells (acted made observe_said is wants what code place watches reply) did =
    account_watched observers from bytes act a s t m made observe_said spells is watches did
account_replied observers from bytes now act a s t m r spells (acted_on_whole made observe_said b body is wants what code place watches reply) did =
    account_watched observers from bytes act a s t m made observe_said spells is watches did

pub account_goes_on : (observers : ℕ) (from : Endpoint) (bytes : List ℕ) (now : ℕ) (act : Option Acted) (back : List (List ℕ)) (a : Account) (s t : Server)
    → IsTreated from bytes now act back s t → AccountDid observers a s.observers → GoesOn observers from bytes act a t.observers
account_goes_on observers from bytes now act back a s t (no_request never quiet none same told) did =
    same_account observers from bytes act a t.observers (account_told observers from bytes a s.observers t.observers told did)
account_goes_on observers from bytes now act back a s t (is_duplicate m e spells request found none is same kept) did = kept_account observers from bytes act a s.observers t.observers kept did
account_goes_on observers from bytes now act back a s t (finds_full m spells request none is same kept) did = kept_account observers from bytes act a s.observers t.observers kept did
account_goes_on observers from bytes now act back a s t (is_answered m slot r reply spells request free why spelt is new) did =
    account_replied observers from bytes now act a s.observers t.observers m r spells why did
account_goes_on observers from bytes now act back a s t (is_ignored m slot spells request faults none silent new kept) did = kept_account observers from bytes act a s.observers t.observers kept did
