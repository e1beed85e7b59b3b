-- A notification is for the ask that registered with its token.
use Rattle.std.proofs.Common.{◌≡◌, ℕ, ◌+◌, ◌≤◌, ◌∙◌, ◌&&◌, Bool, true, false, cond, Option, Some, List, [], ◌∷◌, length, zero, suc, inl, inr, refl, sym, ap, subst, arith}
use Rattle.std.specs.Prelude.{slice_get}
use Rattle.std.specs.Str.{bytes_eq}
use Rattle.std.proofs.lemmas.Bool.{cases_Bool}
use Rattle.std.proofs.lemmas.Option.{same_Some}
use Rattle.coap_msg.specs.declared.endpoint.Endpoint.{Endpoint}
use Rattle.coap_msg.specs.Endpoints.{is_same_endpoint}
use Rattle.coap_msg.proofs.SameEndpoints.{both, itself}
use Rattle.coap_client.specs.declared.outstanding.Outstanding.{Outstanding}
use Rattle.coap_client.proofs.TokenLaws.{registrations_differ}
use Rattle.coap_observe.specs.declared.notice.Notice.{Notice}
use Rattle.coap_observe.specs.Accounts.{token_of, last_place}
use Rattle.servient_world.specs.World.{Emission, client_place, notification_for, other, WorldState, targets_of, registration_from, purpose_at, purpose_of}
use Rattle.servient_world.proofs.Tokens.{same_token, own_token}
use Rattle.servient_world.proofs.Holds.{Holds, both_true}
use Rattle.servient_world.proofs.WatchLaws.{IsRegistered, same_registration}

-- ---- the server notifies

-- the ask that registered with a token
abbrev IsFound : ℕ → List ℕ → List Outstanding → Type 0
IsFound k token asks =
    (i : ℕ) × (b : Outstanding) × (registration_from k token asks ≡ Some (k + i)) × (slice_get asks i ≡ Some b) × (b.registers ≡ true) × (b.token ≡ token)

found_here : (k : ℕ) (token : List ℕ) (x : Outstanding) (asks : List Outstanding) → (x.registers && bytes_eq token x.token) ≡ true → IsFound k token (x ∷ asks)
found_here k token x asks here =
    let h = both x.registers (bytes_eq token x.token) here in
    (0, x, ap (λ (b : Bool). cond b (Some k) (registration_from (k + 1) token asks)) here ∙ ap (λ (n : ℕ). Some n) (none_more k), refl, h.0, sym (same_token token x.token h.1))
  where
    none_more : (n : ℕ) → n ≡ n + 0
    none_more n = omega arith

found_later : (k : ℕ) (token : List ℕ) (x : Outstanding) (asks : List Outstanding) → (x.registers && bytes_eq token x.token) ≡ false → IsFound (k + 1) token asks → IsFound k token (x ∷ asks)
found_later k token x asks not_here r =
    (suc r.0, r.1, ap (λ (b : Bool). cond b (Some k) (registration_from (k + 1) token asks)) not_here ∙ (r.2 ∙ ap (λ (n : ℕ). Some n) (one_more k r.0)), r.3, r.4, r.5)
  where
    one_more : (n i : ℕ) → n + 1 + i ≡ n + suc i
    one_more n i = omega arith

found_at : (k : ℕ) (token : List ℕ) (x : Outstanding) (asks : List Outstanding) (j : ℕ) (a : Outstanding) → slice_get (x ∷ asks) j ≡ Some a → a.registers ≡ true → a.token ≡ token
    → (x.registers && bytes_eq token x.token) ≡ false → ((i : ℕ) → slice_get asks i ≡ Some a → IsFound (k + 1) token asks) → IsFound k token (x ∷ asks)
found_at k token x asks zero a at reg same not_here more =
    let one : x ≡ a = same_Some x a at in
    let yes_it : (x.registers && bytes_eq token x.token) ≡ true
    = subst (λ (z : Outstanding). (z.registers && bytes_eq token z.token) ≡ true) (sym one)
    (both_true a.registers (bytes_eq token a.token) reg (subst (λ (t : List ℕ). bytes_eq t a.token ≡ true) same (own_token a.token))) in
    absurd (cc)
found_at k token x asks (suc j) a at reg same not_here more = found_later k token x asks not_here (more j at)

registration_found : (k : ℕ) (token : List ℕ) (asks : List Outstanding) (j : ℕ) (a : Outstanding) → slice_get asks j ≡ Some a → a.registers ≡ true → a.token ≡ token → IsFound k token asks
registration_found k token [] j a at reg same = absurd (cc)
registration_found k token (x ∷ asks) j a at reg same = elim (cases_Bool (x.registers && bytes_eq token x.token)) [
  | inl here ↦ found_here k token x asks here
  | inr not_here ↦ found_at k token x asks j a at reg same not_here (λ i is. registration_found (k + 1) token asks i a is reg same)
]

-- a notification to the client is of an ask that registered
pub record IsOfAsk (w : WorldState) (n : Notice) (registered_is : IsRegistered w.asks w.acts (record { from = n.to; token = token_of n; target = n.target })) : Type 0 where
  pub purpose : purpose_of n w.asks w.emitted ≡ notification_for registered_is.place n.sequence (last_place n.target (targets_of w.emitted))

pub purpose_is : (capacity : ℕ) (w : WorldState) (n : Notice) → Holds capacity w → length w.asks ≤ 65536 → n.to ≡ client_place
    → (r : IsRegistered w.asks w.acts (record { from = n.to; token = token_of n; target = n.target })) → IsOfAsk w n r
purpose_is capacity w n h few to r =
    let found = registration_found 0 (token_of n) w.asks r.place r.request r.ask r.registers r.token in
    let which : found.0 ≡ r.place = same_registration w.asks found.0 r.place found.1 r.request (registrations_differ w.asks w.client h.did few) found.3 r.ask found.4 r.registers (found.5 ∙ sym r.token) in
    let here : is_same_endpoint n.to client_place ≡ true = ap (λ (e : Endpoint). is_same_endpoint e client_place) to ∙ itself client_place in
    let place_now : ℕ = last_place n.target (targets_of w.emitted) in
    let at : registration_from 0 (token_of n) w.asks ≡ Some r.place = found.2 ∙ ap (λ (k : ℕ). Some k) (zero_more found.0 ∙ which) in
    record {
      purpose = ap (λ (b : Bool). cond b (purpose_at (registration_from 0 (token_of n) w.asks) n.sequence (last_place n.target (targets_of w.emitted))) other) here
          ∙ ap (λ (o : Option ℕ). purpose_at o n.sequence (last_place n.target (targets_of w.emitted))) at;
    }
  where
    zero_more : (k : ℕ) → 0 + k ≡ k
    zero_more k = omega arith

pub not_client_purpose : (n : Notice) (asks : List Outstanding) (emitted : List Emission) → is_same_endpoint n.to client_place ≡ false → purpose_of n asks emitted ≡ other
not_client_purpose n asks emitted e =
    ap (λ (b : Bool). cond b (purpose_at (registration_from 0 (token_of n) asks) n.sequence (last_place n.target (targets_of emitted))) other) e

-- an endpoint that isn't a place
pub not_place : (from place : Endpoint) → is_same_endpoint from place ≡ false → from ≡ place → ⊥
not_place from place none e = let one : is_same_endpoint from place ≡ true = subst (λ (x : Endpoint). is_same_endpoint from x ≡ true) e (itself from) in cc
