-- Laws of the client, over all that it did from its beginning.
use Rattle.std.proofs.Common.{◌≡◌, ◌⊎◌, ℕ, ◌*◌, ◌-◌, ◌<◌, ◌≤◌, ◌||◌, ◌∙◌, Bool, true, false, Option, Some, None, List, [], ◌∷◌, ◌++◌, inl, inr, refl, sym, ap, subst, arith}
use Rattle.std.specs.Str.{bytes_eq}
use Rattle.std.proofs.lemmas.Slice.Eq.{bytes_eq-Decides}
use Rattle.coap_msg.specs.declared.endpoint.Endpoint.{Endpoint}
use Rattle.coap_client.specs.declared.outstanding.Outstanding.{Outstanding}
use Rattle.coap_client.specs.declared.observation.Observation.{Observation}
use Rattle.coap_client.specs.declared.state.State.{State}
use Rattle.coap_client.specs.Exchange.{at_moment, IsNew, request_for, Delivers, of_message, of_fault}
use Rattle.coap_client.specs.Answers.{meaning, is_for_request, is_for_observation}
use Rattle.coap_msg.specs.Endpoints.{is_same_endpoint}
use Rattle.coap_msg.specs.Transmission.{first_timeout}
use Rattle.coap_msg.proofs.SameEndpoints.{both, same_endpoint}
use Rattle.coap_client.specs.Times.{transmission_end, deadline, retransmissions_by}
use Rattle.coap_client.specs.Laws.{Did, nothing, asked, refused, took, retransmitted, RetransmissionsEnd, TakenFromTheAsked, TakenFromAPeer, IdsRest}
use Rattle.coap_client.specs.Requests.{IsSameRequest}
use Rattle.coap_client.proofs.StepLaws.{Follows, Keeps, keeps_self, keeps_after, keeps_due, follows_kept, follows_later, follows_asked}

-- ---- all that a client did

pub keeps_delivered : (s t : State) (from : Endpoint) (bytes : List ℕ) (told : _) (old new : List ℕ) → Delivers s from bytes told old new t → Keeps s t
keeps_delivered s t from bytes told old new (of_message m spells reply news is) = subst (Keeps s) (sym is) (keeps_after s from m.token (meaning s from m))
keeps_delivered s t from bytes told old new (of_fault f has reply news is) = subst (Keeps s) (sym is) (keeps_self s)

follows_new : (first_id : ℕ) (s : State) → IsNew first_id s → Follows [] s
follows_new first_id s new = record {
  ids = new.ids;
  remembered = λ a has. absurd (let within = has.1 in omega arith);
  past = λ a has. absurd (let within = has.1 in omega arith);
  outstanding = λ o e. absurd (let none = new.outstanding in cc);
  observed = λ o e. absurd (let none = new.observation in cc);
  rested = λ i j d before within. absurd (omega arith);
}

pub follows : (sent : List Outstanding) (s : State) → Did sent s → Follows sent s
follows sent s (nothing first_id r new) = follows_new first_id r new
follows sent s (asked before r t now peer a n old new did later ask) =
    subst (Follows (before ++ request_for (at_moment now r) peer a ask.id ∷ [])) (sym ask.after)
    (follows_asked before (at_moment now r) peer a ask.id (follows_later before r now (follows before r did) later) ask.next)
follows sent s (refused before r now did later) = follows_later before r now (follows before r did) later
follows sent s (took before r t now from bytes told old new did later delivers) =
    follows_kept before (at_moment now r) t (follows_later before r now (follows before r did) later) (keeps_delivered (at_moment now r) t from bytes told old new delivers)
follows sent s (retransmitted before r t now due old new did later comes) =
    follows_kept before (at_moment now r) t (follows_later before r now (follows before r did) later) (keeps_due (at_moment now r) t due old new comes)

-- ---- the laws

pub ids_rest : IdsRest
ids_rest sent s did = (follows sent s did).rested

-- a request that is retransmitted isn't acknowledged
not_acknowledged : (b : Bool) (k n : ℕ) (old new : ℕ) → (old ≡ (elim b as (λ _. ℕ) [ true ↦ 100000 | false ↦ k ])) → n < (elim b as (λ _. ℕ) [ true ↦ 0 | false ↦ new ]) → old ≡ k
not_acknowledged true k n old new e h = absurd (omega arith)
not_acknowledged false k n old new e h = e

pub timeout_bound : (id : ℕ) → 31 * first_timeout id ≤ 93000
timeout_bound id = omega arith

pub before_last : (now : ℕ) (o : Outstanding) (b : Bool) → o.is_acknowledged ≡ b → now - o.first < deadline o → o.reached < retransmissions_by o (now - o.first) → now < transmission_end o
before_last now o true e h g = let zero : retransmissions_by o (now - o.first) ≡ 0 = rw e refl in absurd (omega arith)
before_last now o false e h g = let is : deadline o ≡ 31 * first_timeout o.id = rw e refl in omega arith

pub retransmissions_end : RetransmissionsEnd
retransmissions_end sent s t now n old new did later comes =
    let f : Follows sent s = follows sent s did in
    let o : Outstanding = comes.0 in
    let a = f.outstanding comes.0 comes.1 in
    let same : IsSameRequest a.0 comes.0 = a.2 in
    let last : now < transmission_end comes.0 = before_last now comes.0 comes.0.is_acknowledged refl comes.2 comes.3 in (
      a.0,
      a.1,
      comes.4.front ∙ sym same.sent,
      (let one : a.0.first ≡ comes.0.first = same.first in
          let two : first_timeout a.0.id ≡ first_timeout comes.0.id = ap first_timeout same.id in
          omega arith),
      (let bound = timeout_bound a.0.id in omega arith),
    )

-- facts from tests
either : (b c : Bool) → (b || c) ≡ true → (b ≡ true) ⊎ (c ≡ true)
either true c e = inl refl
either false c e = inr e

for_request : (x : Option Outstanding) (from : Endpoint) (token : List ℕ) → is_for_request x from token ≡ true
    → (o : Outstanding) × (x ≡ Some o) × (from ≡ o.peer) × (token ≡ o.token)
for_request None from token e = cc
for_request (Some o) from token e =
    let h = both (is_same_endpoint from o.peer) (bytes_eq token o.token) e in
    (o, refl, same_endpoint from o.peer h.0, (bytes_eq-Decides token o.token).0 h.1)

for_observation : (x : Option Observation) (from : Endpoint) (token : List ℕ) → is_for_observation x from token ≡ true
    → (o : Observation) × (x ≡ Some o) × (from ≡ o.peer) × (token ≡ o.token)
for_observation None from token e = cc
for_observation (Some o) from token e =
    let h = both (is_same_endpoint from o.peer) (bytes_eq token o.token) e in
    (o, refl, same_endpoint from o.peer h.0, (bytes_eq-Decides token o.token).0 h.1)

pub taken_from_a_peer : TakenFromAPeer
taken_from_a_peer s from m e =
    let h = both _ _ e in
    elim (either (is_for_request s.outstanding from m.token) (is_for_observation s.observation from m.token) h.1) [
      | inl one ↦ inl (for_request s.outstanding from m.token one)
      | inr one ↦ inr (for_observation s.observation from m.token one)
    ]

pub taken_from_the_asked : TakenFromTheAsked
taken_from_the_asked sent s from m did e =
    let f : Follows sent s = follows sent s did in
    elim (taken_from_a_peer s from m e) [
      | inl o ↦ let a = f.outstanding o.0 o.1 in (a.0, a.1, o.2 ∙ sym a.2.peer, o.3 ∙ sym a.2.token)
      | inr o ↦ let a = f.observed o.0 o.1 in (a.0, a.1, o.2 ∙ sym a.2, o.3 ∙ sym a.3)
    ]
