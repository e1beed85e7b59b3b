-- The meaning of a message to the client: messages that are taken, messages that are no values, and the ask of a
-- registration.
use Rattle.std.proofs.Common.{◌≡◌, ◌≢◌, ◌⊎◌, ℕ, ◌+◌, ◌-◌, ◌/◌, ◌<◌, ◌≤◌, ◌^◌, ◌∙◌, ◌&&◌, Bool, true, false, cond, Option, Some, None, List, [], ◌∷◌, ◌++◌, length, zero, suc, inl, inr, refl, sym, ap, subst, arith}
use Rattle.std.specs.Prelude.{◌==◌, ◌||◌, slice_get}
use Rattle.std.specs.Str.{bytes_eq}
use Rattle.std.proofs.lemmas.Bool.{cases_lt}
use Rattle.std.proofs.lemmas.Bool.Decides.{nat_tests}
use Rattle.std.proofs.lemmas.List.{length_push}
use Rattle.std.proofs.lemmas.Option.{slice_get_within}
use Rattle.std.proofs.lemmas.Slice.Eq.{bytes_eq-Decides}
use Rattle.coap_msg.specs.declared.endpoint.Endpoint.{Endpoint}
use Rattle.coap_msg.specs.declared.message.Type4.{Type4}
use Rattle.coap_msg.specs.declared.message.Type4.TheVariants.{Con, Non, Ack, Rst}
use Rattle.coap_msg.specs.Endpoints.{is_same_endpoint}
use Rattle.coap_msg.specs.Grammar.{CoapMessage}
use Rattle.coap_msg.proofs.SameEndpoints.{both}
use Rattle.coap_client.specs.declared.outstanding.Outstanding.{Outstanding}
use Rattle.coap_client.specs.declared.observation.Observation.{Observation}
use Rattle.coap_client.specs.declared.state.State.{State}
use Rattle.coap_client.specs.declared.meaning.Meaning.{Meaning}
use Rattle.coap_client.specs.declared.meaning.Meaning.TheVariants as meant
use Rattle.coap_client.specs.Laws.{Did as ClientDid}
use Rattle.coap_client.specs.Tokens.{IsObservedAs}
use Rattle.coap_client.specs.Answers.{takes as is_taken, may_carry, is_request_id, is_from_server, is_for_request, is_for_observation, meaning, meaning_taken, meaning_else, notified, sequence_of, is_newer, latest_of}
use Rattle.coap_client.specs.Exchange.{registers}
use Rattle.coap_client.proofs.RequestLaws.{last_is_outstanding}
use Rattle.coap_client.proofs.TokenLaws.{token_is_new_or_observed}
use Rattle.coap_observe.specs.declared.notice.Notice.{Notice}
use Rattle.coap_observe.specs.Accounts.{token_of}
use Rattle.coap_bind.specs.Writing.{notification}
use Rattle.servient_world.proofs.Places.{all_at, at_last, at_same}
use Rattle.servient_world.proofs.ReplyLaws.{notification_says}

-- ---- the client takes something

if_taken : (b : Bool) (x y : Meaning) → cond b x y ≡ meant.Response → (y ≡ meant.Response → ⊥) → b ≡ true
if_taken true x y e none = refl
if_taken false x y e none = absurd (none e)

no_answer_at : (b : Bool) (x : Meaning) → (x ≡ meant.Response → ⊥) → cond b x meant.Foreign ≡ meant.Response → ⊥
no_answer_at true x none e = none e
no_answer_at false x none e = cc

no_answer : (s : State) (from : Endpoint) (m : CoapMessage) (kind : Type4) → meaning_else s from m kind ≡ meant.Response → ⊥
no_answer s from m Rst e = no_answer_at (is_from_server s.outstanding from m.id) meant.Reset (λ h. cc) e
no_answer s from m Ack e = no_answer_at (m.code == 0 && is_from_server s.outstanding from m.id) meant.Received (λ h. cc) e
no_answer s from m Con e = cc
no_answer s from m Non e = cc

no_value_at : (b : Bool) (x : Meaning) (q : ℕ) → (x ≡ meant.Value q → ⊥) → cond b x meant.Foreign ≡ meant.Value q → ⊥
no_value_at true x q none e = none e
no_value_at false x q none e = cc

no_value : (s : State) (from : Endpoint) (m : CoapMessage) (q : ℕ) (kind : Type4) → meaning_else s from m kind ≡ meant.Value q → ⊥
no_value s from m q Rst e = no_value_at (is_from_server s.outstanding from m.id) meant.Reset q (λ h. cc) e
no_value s from m q Ack e = no_value_at (m.code == 0 && is_from_server s.outstanding from m.id) meant.Received q (λ h. cc) e
no_value s from m q Con e = cc
no_value s from m q Non e = cc

if_value : (b : Bool) (x y : Meaning) (q : ℕ) → cond b x y ≡ meant.Value q → (y ≡ meant.Value q → ⊥) → b ≡ true
if_value true x y q e none = refl
if_value false x y q e none = absurd (none e)

same_number : (m n : ℕ) → (m == n) ≡ true → m ≡ n
same_number m n e = grind (arith, nat_tests)

-- an acknowledgement that is taken has the id of the outstanding request
pub taken_id : (s : State) (from : Endpoint) (m : CoapMessage) (o : Outstanding) → is_taken s from m ≡ true → m.kind ≡ Ack → s.outstanding ≡ Some o → m.id ≡ o.id
taken_id s from m o taken kind is =
    let first = both _ _ taken in
    let carried : may_carry s.outstanding m.kind m.id ≡ true = (both _ _ first.0).1 in
    let by_ack : may_carry s.outstanding Ack m.id ≡ true = subst (λ (k : Type4). may_carry s.outstanding k m.id ≡ true) kind carried in
    let by_id : is_request_id (Some o) m.id ≡ true = subst (λ (x : Option Outstanding). is_request_id x m.id ≡ true) is by_ack in
    same_number m.id o.id by_id

pub answer_taken : (s : State) (from : Endpoint) (m : CoapMessage) → meaning s from m ≡ meant.Response → is_taken s from m ≡ true
answer_taken s from m e = if_taken (is_taken s from m) _ _ e (no_answer s from m m.kind)

pub value_taken : (s : State) (from : Endpoint) (m : CoapMessage) (q : ℕ) → meaning s from m ≡ meant.Value q → is_taken s from m ≡ true
value_taken s from m q e = if_value (is_taken s from m) _ _ q e (no_value s from m q m.kind)

pub at_true : (b : Bool) (x y : Meaning) → b ≡ true → cond b x y ≡ x
at_true true x y e = refl
at_true false x y e = absurd (cc)

none_if : (b : Bool) (x : Option ℕ) → x ≡ None → cond b x None ≡ None
none_if true x e = e
none_if false x e = refl

-- a message that is taken and isn't a notification is no value
pub no_value_unless : (s : State) (from : Endpoint) (m : CoapMessage) (q : ℕ) → notified s from m ≡ None → meaning s from m ≡ meant.Value q → ⊥
no_value_unless s from m q none e =
    let taken : is_taken s from m ≡ true = value_taken s from m q e in
    let is : meaning s from m ≡ meant.Response = at_true (is_taken s from m) (meaning_taken s (notified s from m)) (meaning_else s from m m.kind) taken ∙ ap (meaning_taken s) none in
    let wrong : meant.Value q ≡ meant.Response = sym e ∙ is in
    cc

-- a message without Observe is none
pub no_value_without : (s : State) (from : Endpoint) (m : CoapMessage) (q : ℕ) → sequence_of m.options ≡ None → meaning s from m ≡ meant.Value q → ⊥
no_value_without s from m q none e =
    no_value_unless s from m q (none_if (m.code / 32 == 2 && is_for_observation s.observation from m.token) (sequence_of m.options) none) e

-- ---- the meaning of a notification

-- the number of a notification
pub notification_number : (s : State) (from : Endpoint) (n : Notice) (value : List ℕ) (b : Bool) → is_for_observation s.observation from (token_of n) ≡ b → n.sequence < 2 ^ 24
    → notified s from (notification n value) ≡ cond b (Some n.sequence) None
notification_number s from n value b is low =
    ap (λ (x : Bool). cond x (sequence_of (notification n value).options) None) is ∙ ap (λ (y : Option ℕ). cond b y None) (notification_says n value low)

newer_or_old : (b : Bool) (q : ℕ) → cond b (meant.Value q) meant.Old ≡ meant.Response → ⊥
newer_or_old true q e = cc
newer_or_old false q e = cc

-- one for the observation is no answer
pub notification_no_answer : (s : State) (from : Endpoint) (m : CoapMessage) (q : ℕ) → notified s from m ≡ Some q → meaning s from m ≡ meant.Response → ⊥
notification_no_answer s from m q number e =
    let taken = answer_taken s from m e in
    let is : meaning s from m ≡ meaning_taken s (Some q) = at_true (is_taken s from m) (meaning_taken s (notified s from m)) (meaning_else s from m m.kind) taken ∙ ap (meaning_taken s) number in
    newer_or_old (is_newer (latest_of s.observation) s.moment q) q (sym is ∙ e)

-- a message that is taken and not for the observation is for the request
pub for_request_else : (s : State) (from : Endpoint) (m : CoapMessage) → is_taken s from m ≡ true → is_for_observation s.observation from m.token ≡ false → is_for_request s.outstanding from m.token ≡ true
for_request_else s from m taken none = one_of (is_for_request s.outstanding from m.token) (is_for_observation s.observation from m.token) (both _ _ taken).1 none
  where
    one_of : (b c : Bool) → (b || c) ≡ true → c ≡ false → b ≡ true
    one_of true c e h = refl
    one_of false c e h = absurd (cc)

pub request_token : (o : Outstanding) (from : Endpoint) (token : List ℕ) → is_for_request (Some o) from token ≡ true → token ≡ o.token
request_token o from token e = (bytes_eq-Decides token o.token).0 (both _ _ e).1

pub observation_token : (x : Observation) (from : Endpoint) (token : List ℕ) → is_for_observation (Some x) from token ≡ true → token ≡ x.token
observation_token x from token e = (bytes_eq-Decides token x.token).0 (both _ _ e).1

-- a message for a request that is observed is for the observation
pub for_both : (s : State) (o : Outstanding) (from : Endpoint) (token : List ℕ) → IsObservedAs s o → is_for_request (Some o) from token ≡ true → is_for_observation s.observation from token ≡ true
for_both s o from token x e =
    let same : is_for_observation (Some x.observation) from token ≡ is_for_request (Some o) from token
    = ap (λ (p : Endpoint). is_same_endpoint from p && bytes_eq token x.observation.token) x.peer ∙ ap (λ (t : List ℕ). is_same_endpoint from o.peer && bytes_eq token t) x.token in
    subst (λ (y : Option Observation). is_for_observation y from token ≡ true) (sym x.is) (same ∙ e)

at_front : (xs ys : List Outstanding) (k : ℕ) → k < length xs → slice_get (xs ++ ys) k ≡ slice_get xs k
at_front [] ys k h = absurd (omega arith)
at_front (x ∷ xs) ys zero h = refl
at_front (x ∷ xs) ys (suc k) h = at_front xs ys k (omega arith)

-- a registration with the token of the outstanding request is that one, or the observation has that token
pub latest_or_observed : (asks : List Outstanding) (s : State) (o : Outstanding) (k : ℕ) (request : Outstanding) → ClientDid asks s → length asks ≤ 65536 → s.outstanding ≡ Some o
    → slice_get asks k ≡ Some request → request.registers ≡ true → request.token ≡ o.token
    → ((k ≡ length asks - 1) × (o.registers ≡ true)) ⊎ (IsObservedAs s o × (o.registers ≡ false))
latest_or_observed asks s o k request did few is at registers_it same =
    let last = last_is_outstanding asks s o did is in
    let count : length (last.0 ++ last.1 ∷ []) ≡ length last.0 + 1 = length_push last.0 last.1 in
    let total : length asks ≡ length (last.0 ++ last.1 ∷ []) = ap length last.2 in
    let did_all : ClientDid (last.0 ++ last.1 ∷ []) s = subst (λ (l : List Outstanding). ClientDid l s) last.2 did in
    let new = token_is_new_or_observed last.0 last.1 s o did_all (omega arith) is in
    let at_all : slice_get (last.0 ++ last.1 ∷ []) k ≡ Some request = subst (λ (l : List Outstanding). slice_get l k ≡ Some request) last.2 at in
    elim new [
      | inr was_observed ↦ inr was_observed
      | inl each ↦ elim (cases_lt k (length last.0)) [
        | inl before ↦ absurd (all_at (λ (x : Outstanding). x.token ≢ o.token) last.0 k request each (sym (at_front last.0 (last.1 ∷ []) k before) ∙ at_all) same)
        | inr not_before ↦
            let within = slice_get_within asks k request at in
            let place : k ≡ length last.0 = omega arith in
            let one : request ≡ last.1 = at_same (last.0 ++ last.1 ∷ []) k request last.1 at_all (ap (λ (n : ℕ). slice_get (last.0 ++ last.1 ∷ []) n) place ∙ at_last last.0 last.1) in
            inl (omega arith, sym last.3.registers ∙ (sym (ap (λ (x : Outstanding). x.registers) one) ∙ registers_it))
      ]
    ]

-- a request that a value ended was a registration
pub ended_registration : (x : Option Outstanding) (o : Outstanding) → x ≡ Some o → cond (registers x) None x ≡ None → o.registers ≡ true
ended_registration x o is e = at_some o o.registers refl (subst (λ (y : Option Outstanding). cond (registers y) None y ≡ None) is e)
  where
    at_some : (o : Outstanding) (b : Bool) → o.registers ≡ b → cond b None (Some o) ≡ None → b ≡ true
    at_some o true h e = refl
    at_some o false h e = absurd (cc)
