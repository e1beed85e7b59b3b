-- The facts on the course of a client that each call keeps.
use Rattle.std.proofs.Common.{◌≡◌, ◌⊎◌, ℕ, ◌+◌, ◌-◌, ◌<◌, ◌≤◌, ◌∙◌, Bool, true, false, cond, Option, Some, None, List, [], ◌∷◌, ◌++◌, length, get_or, set, inl, inr, refl, sym, ap, subst, arith}
use Rattle.std.specs.Prelude.{Contains, AllPairs, nat_le}
use Rattle.std.proofs.lemmas.Bool.Decides.{nat_tests, eqb_tells}
use Rattle.std.proofs.lemmas.List.{get_or-set_same, get_or-set_other, length-set, get_or_default}
use Rattle.std.proofs.lemmas.List.Elements.{Contains-append_left, Contains-append_right, Contains-append_cases}
use Rattle.std.proofs.lemmas.List.Quantifiers.{all_pairs_push}
use Rattle.std.proofs.lemmas.Option.{same_Some}
use Rattle.coap_msg.specs.declared.endpoint.Endpoint.{Endpoint}
use Rattle.coap_client.specs.declared.outstanding.Outstanding.{Outstanding}
use Rattle.coap_client.specs.declared.observation.Observation.{Observation}
use Rattle.coap_client.specs.declared.state.State.{State}
use Rattle.coap_client.specs.declared.meaning.Meaning.{Meaning}
use Rattle.coap_client.specs.declared.meaning.Meaning.TheVariants as meant
use Rattle.coap_client.specs.declared.due.Due.{Due}
use Rattle.coap_client.specs.declared.due.Due.TheVariants as due
use Rattle.coap_client.specs.Asking.{Asking}
use Rattle.coap_client.specs.Exchange.{at_moment, request_for, with_request, registers, ended, ComesDue, with_latest, acknowledged, after}
use Rattle.coap_client.specs.Names.{IsNextId, is_recent}
use Rattle.coap_client.specs.Requests.{IsSameRequest}
use Rattle.coap_client.specs.Answers.{is_for_request, is_for_observation}

-- of two requests with one id the later is sent long after the earlier
abbrev pub IsRested : Outstanding → Outstanding → Type 0
IsRested a b = a.id ≡ b.id → a.first + 400000 < b.first

-- facts on a client that sent these requests
pub record Follows (sent : List Outstanding) (s : State) : Type 0 where
  pub ids : length s.uses ≡ 65536
  pub remembered : (a : Outstanding) → Contains sent a → (m : ℕ) × (get_or s.uses a.id None ≡ Some m) × (a.first ≤ m)
  pub past : (a : Outstanding) → Contains sent a → a.first ≤ s.moment
  pub outstanding : (o : Outstanding) → s.outstanding ≡ Some o → (a : Outstanding) × Contains sent a × IsSameRequest a o
  pub observed : (o : Observation) → s.observation ≡ Some o → (a : Outstanding) × Contains sent a × (a.peer ≡ o.peer) × (a.token ≡ o.token)
  pub rested : AllPairs IsRested sent

-- ---- steps that send no new request

-- nothing new is outstanding or observed, and no id was used
pub record Keeps (s t : State) : Type 0 where
  pub uses : t.uses ≡ s.uses
  pub moment : t.moment ≡ s.moment
  pub outstanding : (o : Outstanding) → t.outstanding ≡ Some o → (p : Outstanding) × (s.outstanding ≡ Some p) × IsSameRequest p o
  pub observed : (o : Observation) → t.observation ≡ Some o → (p : Observation) × (s.observation ≡ Some p) × (p.peer ≡ o.peer) × (p.token ≡ o.token)

same_self : (o : Outstanding) → IsSameRequest o o
same_self o = record { peer = refl; id = refl; token = refl; first = refl; registers = refl; sent = refl }

kept_request : (x : Option Outstanding) (b : Bool) (o : Outstanding) → cond b None x ≡ Some o → (p : Outstanding) × (x ≡ Some p) × IsSameRequest p o
kept_request x true o e = cc
kept_request x false o e = (o, e, same_self o)

kept_observation : (x : Option Observation) (b : Bool) (o : Observation) → cond b None x ≡ Some o
    → (p : Observation) × (x ≡ Some p) × (p.peer ≡ o.peer) × (p.token ≡ o.token)
kept_observation x true o e = cc
kept_observation x false o e = (o, e, refl, refl)

acknowledged_request : (x : Option Outstanding) (o : Outstanding) → acknowledged x ≡ Some o → (p : Outstanding) × (x ≡ Some p) × IsSameRequest p o
acknowledged_request None o e = cc
acknowledged_request (Some p) o e =
    (p, refl, subst (IsSameRequest p) (same_Some (record p { is_acknowledged = true }) o e) (record { peer = refl; id = refl; token = refl; first = refl; registers = refl; sent = refl }))

later_observation : (x : Option Observation) (v now : ℕ) (o : Observation) → with_latest v now x ≡ Some o
    → (p : Observation) × (x ≡ Some p) × (p.peer ≡ o.peer) × (p.token ≡ o.token)
later_observation None v now o e = cc
later_observation (Some p) v now o e =
    let same = same_Some (record p { latest = Some (record { sequence = v; moment = now }) }) o e in
    (p, refl, ap (λ (q : Observation). q.peer) same, ap (λ (q : Observation). q.token) same)

pub keeps_self : (s : State) → Keeps s s
keeps_self s = record { uses = refl; moment = refl; outstanding = λ o e. (o, e, same_self o); observed = λ o e. (o, e, refl, refl) }

keeps_ended : (s : State) → Keeps s (ended s)
keeps_ended s = record { uses = refl; moment = refl; outstanding = λ o e. absurd (cc); observed = λ o e. kept_observation s.observation (registers s.outstanding) o e }

pub keeps_after : (s : State) (from : Endpoint) (token : List ℕ) (meaning : Meaning) → Keeps s (after s from token meaning)
keeps_after s from token (meant.Value v) = record {
  uses = refl;
  moment = refl;
  outstanding = λ o e. kept_request s.outstanding (registers s.outstanding) o e;
  observed = λ o e. later_observation s.observation v s.moment o e;
}
keeps_after s from token meant.Old = record {
  uses = refl;
  moment = refl;
  outstanding = λ o e. kept_request s.outstanding (registers s.outstanding) o e;
  observed = λ o e. (o, e, refl, refl);
}
keeps_after s from token meant.Response = record {
  uses = refl;
  moment = refl;
  outstanding = λ o e. kept_request s.outstanding (is_for_request s.outstanding from token) o e;
  observed = λ o e. kept_observation s.observation (is_for_observation s.observation from token) o e;
}
keeps_after s from token meant.Reset = keeps_ended s
keeps_after s from token meant.Received = record {
  uses = refl;
  moment = refl;
  outstanding = λ o e. acknowledged_request s.outstanding o e;
  observed = λ o e. (o, e, refl, refl);
}
keeps_after s from token meant.Foreign = keeps_self s

keeps_retransmitted : (s : State) (o : Outstanding) (n : ℕ) → s.outstanding ≡ Some o → Keeps s (record s { outstanding = Some (record o { reached = n }) })
keeps_retransmitted s o n is = record {
  uses = refl;
  moment = refl;
  outstanding = λ p e. (o, is, subst (IsSameRequest o) (same_Some (record o { reached = n }) p e) (record { peer = refl; id = refl; token = refl; first = refl; registers = refl; sent = refl }));
  observed = λ p e. (p, e, refl, refl);
}

pub keeps_due : (s t : State) (d : Due) (old new : List ℕ) → ComesDue s d old new t → Keeps s t
keeps_due s t due.TimedOut old new h = subst (Keeps s) (sym h.3) (keeps_ended s)
keeps_due s t (due.Send n) old new h = subst (Keeps s) (sym h.5) (keeps_retransmitted s h.0 _ h.1)
keeps_due s t due.Nothing old new h = subst (Keeps s) (sym h.1) (keeps_self s)

pub follows_kept : (sent : List Outstanding) (s t : State) → Follows sent s → Keeps s t → Follows sent t
follows_kept sent s t f k = record {
  ids = ap length k.uses ∙ f.ids;
  remembered = λ a has. let old = f.remembered a has in (old.0, ap (λ (xs : List (Option ℕ)). get_or xs a.id None) k.uses ∙ old.1, old.2);
  past = λ a has. let old : a.first ≤ s.moment = f.past a has in let same : t.moment ≡ s.moment = k.moment in omega arith;
  outstanding = λ o e.
      let p = k.outstanding o e in
      let a = f.outstanding p.0 p.1 in
      let x : IsSameRequest a.0 p.0 = a.2 in
      let y : IsSameRequest p.0 o = p.2 in
      (a.0, a.1, record { peer = x.peer ∙ y.peer; id = x.id ∙ y.id; token = x.token ∙ y.token; first = x.first ∙ y.first; registers = x.registers ∙ y.registers; sent = x.sent ∙ y.sent });
  observed = λ o e.
      let p = k.observed o e in
      let a = f.observed p.0 p.1 in
      (a.0, a.1, a.2 ∙ p.2, a.3 ∙ p.3);
  rested = f.rested;
}

pub follows_later : (sent : List Outstanding) (s : State) (now : ℕ) → Follows sent s → s.moment ≤ now → Follows sent (at_moment now s)
follows_later sent s now f h = record {
  ids = f.ids;
  remembered = f.remembered;
  past = λ a has. let old : a.first ≤ s.moment = f.past a has in omega arith;
  outstanding = f.outstanding;
  observed = f.observed;
  rested = f.rested;
}

-- ---- a new request

in_one : {X : Type 0} (x y : X) → Contains (x ∷ []) y → y ≡ x
in_one x y has =
    let first : has.0 ≡ 0 = omega (arith, has.1) in
    sym has.2 ∙ ap (λ (k : ℕ). get_or (x ∷ []) k y) first

the_one : {X : Type 0} (x : X) → Contains (x ∷ []) x
the_one x = (0, omega arith, refl)

-- an id that isn't used was used long ago, if it was at all
long_ago : (now m : ℕ) (last : Option ℕ) → last ≡ Some m → is_recent now last ≡ false → m + 400000 < now
long_ago now m last e h = let free : nat_le (now - m) 400000 ≡ false = sym (ap (is_recent now) e) ∙ h in grind (arith, nat_tests)

observed_with : (before : Option Observation) (r : Outstanding) (b : Bool) (o : Observation)
    → cond b (Some (record { peer = r.peer; token = r.token; latest = None })) before ≡ Some o → ((r.peer ≡ o.peer) × (r.token ≡ o.token)) ⊎ (before ≡ Some o)
observed_with before r true o e =
    let same = same_Some (record { peer = r.peer; token = r.token; latest = None }) o e in
    inl (ap (λ (q : Observation). q.peer) same, ap (λ (q : Observation). q.token) same)
observed_with before r false o e = inr e

pub follows_asked : (sent : List Outstanding) (s : State) (peer : Endpoint) (a : Asking) (id : ℕ) → Follows sent s → IsNextId s.uses s.next_id s.moment id
    → Follows (sent ++ request_for s peer a id ∷ []) (with_request s peer a id)
follows_asked sent s peer a id f next =
    let r : Outstanding = request_for s peer a id in
    let within : id < length s.uses = let is = next.id_is in let count = f.ids in omega arith in
    record {
      ids = length-set s.uses id (Some s.moment) ∙ f.ids;
      remembered = λ x has. elim (Contains-append_cases sent (request_for s peer a id ∷ []) x has) [
        | inl h ↦
            let old = f.remembered x h in
            elim (eqb_tells x.id id) [
              | inl same ↦ (s.moment, ap (λ (k : ℕ). get_or (set s.uses id (Some s.moment)) k None) same.1 ∙ get_or-set_same s.uses id (Some s.moment) None within, f.past x h)
              | inr other ↦ (old.0, get_or-set_other s.uses id x.id (Some s.moment) None other.1 ∙ old.1, old.2)
            ]
        | inr h ↦
            let is : x ≡ request_for s peer a id = in_one (request_for s peer a id) x h in (
              s.moment,
              ap (λ (q : Outstanding). get_or (set s.uses id (Some s.moment)) q.id None) is ∙ get_or-set_same s.uses id (Some s.moment) None within,
              let at : x.first ≡ s.moment = ap (λ (q : Outstanding). q.first) is in omega arith,
            )
      ];
      past = λ x has. elim (Contains-append_cases sent (request_for s peer a id ∷ []) x has) [
        | inl h ↦ f.past x h
        | inr h ↦ let at : x.first ≡ s.moment = ap (λ (q : Outstanding). q.first) (in_one (request_for s peer a id) x h) in omega arith
      ];
      outstanding = λ o e. (
        request_for s peer a id,
        Contains-append_right sent (request_for s peer a id ∷ []) (request_for s peer a id) (the_one (request_for s peer a id)),
        subst (IsSameRequest (request_for s peer a id)) (same_Some (request_for s peer a id) o e) (same_self (request_for s peer a id)),
      );
      observed = λ o e. elim (observed_with s.observation (request_for s peer a id) (request_for s peer a id).registers o e) [
        | inl new ↦ (request_for s peer a id, Contains-append_right sent (request_for s peer a id ∷ []) (request_for s peer a id) (the_one (request_for s peer a id)), new.0, new.1)
        | inr old ↦ let p = f.observed o old in (p.0, Contains-append_left sent (request_for s peer a id ∷ []) p.0 p.1, p.2, p.3)
      ];
      rested = all_pairs_push IsRested sent (request_for s peer a id) f.rested (λ k d lt same.
          let x : Outstanding = get_or sent k d in
          let has : Contains sent (get_or sent k d) = (k, lt, get_or_default sent k (get_or sent k d) d lt) in
          let old = f.remembered (get_or sent k d) has in
          let last : get_or s.uses id None ≡ Some old.0 = sym (ap (λ (i : ℕ). get_or s.uses i None) same) ∙ old.1 in
          let gone : old.0 + 400000 < s.moment = long_ago s.moment old.0 (get_or s.uses id None) last next.free in
          let before : (get_or sent k d).first ≤ old.0 = old.2 in
          omega arith);
    }
