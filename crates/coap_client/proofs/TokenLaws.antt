-- Laws of tokens and of the observation, over all that a client did from its beginning.
use Rattle.std.proofs.Common.{◌≡◌, ◌≢◌, ◌⊎◌, ℕ, ◌+◌, ◌%◌, ◌^◌, ◌<◌, ◌≤◌, ◌&&◌, ◌∙◌, Bool, true, false, cond, Option, Some, None, List, [], ◌∷◌, ◌++◌, length, inl, inr, refl, sym, ap, subst, arith}
use Rattle.std.specs.Prelude.{◌==◌, All, is_some}
use Rattle.std.specs.Int.{to_be_bytes, from_be_bytes, w64}
use Rattle.std.proofs.lemmas.Bool.Decides.{nat_tests}
use Rattle.std.proofs.lemmas.List.{length_push, same_from_push}
use Rattle.std.proofs.lemmas.List.Elements.{All-nil, All-push, All-weaker}
use Rattle.std.proofs.lemmas.List.Quantifiers.{all_pairs_push}
use Rattle.std.proofs.lemmas.Nat.{from_be_bytes-to_be_bytes_8}
use Rattle.std.proofs.lemmas.Option.{same_Some}
use Rattle.coap_msg.specs.declared.endpoint.Endpoint.{Endpoint}
use Rattle.coap_client.specs.declared.outstanding.Outstanding.{Outstanding}
use Rattle.coap_client.specs.declared.observation.Observation.{Observation}
use Rattle.coap_client.specs.declared.state.State.{State}
use Rattle.coap_client.specs.declared.meaning.Meaning.{Meaning}
use Rattle.coap_client.specs.declared.meaning.Meaning.TheVariants as meant
use Rattle.coap_client.specs.declared.due.Due.{Due}
use Rattle.coap_client.specs.declared.due.Due.TheVariants as due
use Rattle.coap_client.specs.Asking.{Asking}
use Rattle.coap_msg.specs.Endpoints.{is_same_endpoint}
use Rattle.coap_client.specs.Names.{kept_token, token_after}
use Rattle.coap_client.specs.Answers.{meaning, is_for_request, is_for_observation}
use Rattle.coap_client.specs.Exchange.{at_moment, Asks, request_for, is_registration, registers, ComesDue, Delivers, of_message, of_fault, after}
use Rattle.coap_client.specs.Laws.{Did, nothing, asked, refused, took, retransmitted}
use Rattle.coap_client.proofs.StepLaws.{keeps_due}
use Rattle.coap_client.specs.Tokens.{IsObservedAs, TokenIsNewOrObserved, RegistrationsDiffer, NoValueYet}
use Rattle.coap_client.proofs.HistoryLaws.{keeps_delivered}
use Rattle.coap_client.proofs.RegistrationLaws.{Stays, kept_if, stays_after, stays_delivered, stays_due, registered_at}

-- ---- tokens are the numbers that were counted

abbrev IsToken : ℕ → List ℕ → Type 0
IsToken next token = (j : ℕ) × (j < next) × (token ≡ to_be_bytes w64 j)

record Tokens (sent : List Outstanding) (s : State) : Type 0 where
  next : s.next_token ≤ length sent
  each : All (λ a. IsToken s.next_token a.token) sent
  observed : (o : Observation) → s.observation ≡ Some o → IsToken s.next_token o.token

later_token : (m n : ℕ) (token : List ℕ) → m ≤ n → IsToken m token → IsToken n token
later_token m n token h is = (is.0, (let below = is.1 in omega arith), is.2)

new_token : (kept : Option (List ℕ)) (next : ℕ) → ((token : List ℕ) → kept ≡ Some token → IsToken next token) → next ≤ 65537
    → IsToken (cond (is_some kept) next ((next + 1) % 2 ^ 64)) (token_after kept next)
    × (next ≤ cond (is_some kept) next ((next + 1) % 2 ^ 64)) × (cond (is_some kept) next ((next + 1) % 2 ^ 64) ≤ next + 1)
new_token None next each few = ((next, omega arith, refl), omega arith, omega arith)
new_token (Some token) next each few = (each token refl, omega arith, omega arith)

both : (b c : Bool) → (b && c) ≡ true → (b ≡ true) × (c ≡ true)
both true c e = (refl, e)
both false c e = absurd (cc)

same_number : (m n : ℕ) → (m == n) ≡ true → m ≡ n
same_number m n e = grind (arith, nat_tests)

same_end : (a b : Endpoint) → is_same_endpoint a b ≡ true → a ≡ b
same_end a b e =
    let h = both (a.host == b.host) (a.port == b.port) e in
    let at : ℕ → ℕ → Endpoint = λ x y. record { host = x; port = y } in
    ap (λ (x : ℕ). at x a.port) (same_number a.host b.host h.0) ∙ ap (λ (y : ℕ). at b.host y) (same_number a.port b.port h.1)

-- a token that is kept is the observation's
record IsTakenOver (x : Option Observation) (peer : Endpoint) (observe : Option Bool) (token : List ℕ) : Type 0 where
  observation : Observation
  is : x ≡ Some observation
  token_is : token ≡ observation.token
  peer_is : peer ≡ observation.peer
  registers_not : is_registration observe ≡ false

taken_over_at : (o : Observation) (peer : Endpoint) (token : List ℕ) (b : Bool) → is_same_endpoint peer o.peer ≡ b → cond b (Some o.token) None ≡ Some token → IsTakenOver (Some o) peer (Some false) token
taken_over_at o peer token true same e = record { observation = o; is = refl; token_is = sym (same_Some o.token token e); peer_is = same_end peer o.peer same; registers_not = refl }
taken_over_at o peer token false same e = absurd (cc)

taken_over : (x : Option Observation) (peer : Endpoint) (observe : Option Bool) (token : List ℕ) → kept_token x peer observe ≡ Some token → IsTakenOver x peer observe token
taken_over None peer observe token e = absurd (cc)
taken_over (Some o) peer None token e = absurd (cc)
taken_over (Some o) peer (Some true) token e = absurd (cc)
taken_over (Some o) peer (Some false) token e = taken_over_at o peer token (is_same_endpoint peer o.peer) refl e

pub observed_at : (before : Option Observation) (r : Outstanding) (b : Bool) (o : Observation) → cond b (Some (record { peer = r.peer; token = r.token; latest = None })) before ≡ Some o
    → (r.token ≡ o.token) ⊎ (before ≡ Some o)
observed_at before r true o e = inl (ap (λ (q : Observation). q.token) (same_Some (record { peer = r.peer; token = r.token; latest = None }) o e))
observed_at before r false o e = inr e

tokens_asked : (sent : List Outstanding) (s t : State) (peer : Endpoint) (a : Asking) (n : ℕ) (old new : List ℕ) (asks : Asks s peer a n old new t) → length sent ≤ 65537 → Tokens sent s
    → Tokens (sent ++ request_for s peer a asks.id ∷ []) t
tokens_asked sent s t peer a n old new asks few tokens =
    let r : Outstanding = request_for s peer a asks.id in
    let kept : Option (List ℕ) = kept_token s.observation peer a.observe in
    let it = new_token (kept_token s.observation peer a.observe) s.next_token
    (λ token e. let o = taken_over s.observation peer a.observe token e in subst (IsToken s.next_token) (sym o.token_is) (tokens.observed o.observation o.is))
    (let h = tokens.next in omega arith) in
    let next : t.next_token ≡ cond (is_some (kept_token s.observation peer a.observe)) s.next_token ((s.next_token + 1) % 2 ^ 64) = ap (λ (x : State). x.next_token) asks.after in
    let mine : IsToken t.next_token r.token = subst (λ (k : ℕ). IsToken k r.token) (sym next) it.0 in
    let later : s.next_token ≤ t.next_token = let h = it.1 in omega arith in
    record {
      next = let count = length_push sent r in let h = tokens.next in let g = it.2 in omega arith;
      each = All-push (λ (x : Outstanding). IsToken t.next_token x.token) sent r
          (All-weaker (λ (x : Outstanding). IsToken s.next_token x.token) (λ (x : Outstanding). IsToken t.next_token x.token) (λ x is. later_token s.next_token t.next_token x.token later is) sent tokens.each) mine;
      observed = λ o e. elim (observed_at s.observation r r.registers o (sym (ap (λ (x : State). x.observation) asks.after) ∙ e)) [
        | inl same ↦ subst (IsToken t.next_token) same mine
        | inr was ↦ later_token s.next_token t.next_token o.token later (tokens.observed o was)
      ];
    }

same_token_after : (s : State) (from : Endpoint) (token : List ℕ) (m : Meaning) → (after s from token m).next_token ≡ s.next_token
same_token_after s from token (meant.Value v) = refl
same_token_after s from token meant.Old = refl
same_token_after s from token meant.Response = refl
same_token_after s from token meant.Reset = refl
same_token_after s from token meant.Received = refl
same_token_after s from token meant.Foreign = refl

same_token_delivered : (s t : State) (from : Endpoint) (bytes : List ℕ) (told : _) (old new : List ℕ) → Delivers s from bytes told old new t → t.next_token ≡ s.next_token
same_token_delivered s t from bytes told old new (of_message m spells reply news is) = ap (λ (x : State). x.next_token) is ∙ same_token_after s from m.token (meaning s from m)
same_token_delivered s t from bytes told old new (of_fault f has reply news is) = ap (λ (x : State). x.next_token) is

same_token_due : (s t : State) (d : Due) (old new : List ℕ) → ComesDue s d old new t → t.next_token ≡ s.next_token
same_token_due s t due.TimedOut old new h = ap (λ (x : State). x.next_token) h.3
same_token_due s t (due.Send n) old new h = ap (λ (x : State). x.next_token) h.5
same_token_due s t due.Nothing old new h = ap (λ (x : State). x.next_token) h.1

tokens_kept : (sent : List Outstanding) (s t : State) → t.next_token ≡ s.next_token
    → ((o : Observation) → t.observation ≡ Some o → (p : Observation) × (s.observation ≡ Some p) × (p.peer ≡ o.peer) × (p.token ≡ o.token)) → Tokens sent s → Tokens sent t
tokens_kept sent s t same observed tokens = record {
  next = let h = tokens.next in omega arith;
  each = subst (λ (k : ℕ). All (λ (x : Outstanding). IsToken k x.token) sent) (sym same) tokens.each;
  observed = λ o e.
      let p = observed o e in
      subst (λ (k : ℕ). IsToken k o.token) (sym same) (subst (IsToken s.next_token) p.3 (tokens.observed p.0 p.1));
}

tokens_of : (sent : List Outstanding) (s : State) → Did sent s → length sent ≤ 65538 → Tokens sent s
tokens_of sent s (nothing first_id r new) few = record {
  next = let h = new.next_token in omega arith;
  each = All-nil (λ (x : Outstanding). IsToken s.next_token x.token);
  observed = λ o e. absurd (let none = new.observation in cc);
}
tokens_of sent s (asked before r t now peer a n old new did later ask) few =
    let count = length_push before (request_for (at_moment now r) peer a ask.id) in
    let was = tokens_of before r did (omega arith) in
    tokens_asked before (at_moment now r) t peer a n old new ask (omega arith) (record { next = was.next; each = was.each; observed = was.observed })
tokens_of sent s (refused before r now did later) few = let was = tokens_of before r did few in record { next = was.next; each = was.each; observed = was.observed }
tokens_of sent s (took before r t now from bytes told old new did later delivers) few =
    tokens_kept before r t (same_token_delivered (at_moment now r) t from bytes told old new delivers)
    (λ o e. (keeps_delivered (at_moment now r) t from bytes told old new delivers).observed o e) (tokens_of before r did few)
tokens_of sent s (retransmitted before r t now d old new did later comes) few =
    tokens_kept before r t (same_token_due (at_moment now r) t d old new comes) (λ o e. (keeps_due (at_moment now r) t d old new comes).observed o e) (tokens_of before r did few)

-- ---- a token is new, or the observation's

same_bytes : (m n : ℕ) → m < 2 ^ 64 → n < 2 ^ 64 → to_be_bytes w64 m ≡ to_be_bytes w64 n → m ≡ n
same_bytes m n a b e = sym (from_be_bytes-to_be_bytes_8 m a) ∙ (ap (from_be_bytes w64) e ∙ from_be_bytes-to_be_bytes_8 n b)

record NewOrObserved (sent : List Outstanding) (s : State) (o : Outstanding) : Type 0 where
  before : List Outstanding
  request : Outstanding
  last : sent ≡ before ++ request ∷ []
  registers : request.registers ≡ o.registers
  token : All (λ x. x.token ≢ o.token) before ⊎ (IsObservedAs s o × (o.registers ≡ false))

not_registered : (before : Option Observation) (r : Outstanding) (b : Bool) → b ≡ false → cond b (Some (record { peer = r.peer; token = r.token; latest = None })) before ≡ before
not_registered before r true e = absurd (cc)
not_registered before r false e = refl

asked_new : (sent : List Outstanding) (s t : State) (peer : Endpoint) (a : Asking) (n : ℕ) (old new : List ℕ) (asks : Asks s peer a n old new t) (o : Outstanding) → length sent ≤ 65537 → Tokens sent s
    → request_for s peer a asks.id ≡ o → (kept : Option (List ℕ)) → kept_token s.observation peer a.observe ≡ kept → All (λ x. x.token ≢ o.token) sent ⊎ (IsObservedAs t o × (o.registers ≡ false))
asked_new sent s t peer a n old new asks o few tokens same None is =
    let token : o.token ≡ to_be_bytes w64 s.next_token = sym (ap (λ (x : Outstanding). x.token) same) ∙ ap (λ k. token_after k s.next_token) is in
    let bound : s.next_token ≤ 65537 = let h = tokens.next in omega arith in
    inl (All-weaker (λ (x : Outstanding). IsToken s.next_token x.token) (λ (x : Outstanding). x.token ≢ o.token) (λ x it e.
    let below = it.1 in
    let numbers : it.0 ≡ s.next_token = same_bytes it.0 s.next_token (omega arith) (omega arith) (sym it.2 ∙ (e ∙ token)) in
    absurd (omega arith)) sent tokens.each)
asked_new sent s t peer a n old new asks o few tokens same (Some tok) is =
    let r : Outstanding = request_for s peer a asks.id in
    let over = taken_over s.observation peer a.observe tok is in
    let token : r.token ≡ tok = ap (λ k. token_after k s.next_token) is in
    inr (
      record {
        observation = over.observation;
        is = ap (λ (x : State). x.observation) asks.after ∙ (not_registered s.observation r r.registers over.registers_not ∙ over.is);
        token = sym over.token_is ∙ (sym token ∙ ap (λ (x : Outstanding). x.token) same);
        peer = sym over.peer_is ∙ ap (λ (x : Outstanding). x.peer) same;
      },
      sym (ap (λ (x : Outstanding). x.registers) same) ∙ over.registers_not,
    )

-- as it was for the same request before
new_stays : (sent : List Outstanding) (s t : State) (o : Outstanding) (st : Stays s t o) → NewOrObserved sent s st.before → NewOrObserved sent t o
new_stays sent s t o st x = record {
  before = x.before;
  request = x.request;
  last = x.last;
  registers = x.registers ∙ st.same.registers;
  token = elim x.token [
    | inl new ↦ inl (subst (λ (k : List ℕ). All (λ (y : Outstanding). y.token ≢ k) x.before) st.same.token new)
    | inr observed ↦ inr (st.observed observed.0, sym st.same.registers ∙ observed.1)
  ];
}

at_now : (sent : List Outstanding) (s : State) (now : ℕ) (o : Outstanding) → NewOrObserved sent s o → NewOrObserved sent (at_moment now s) o
at_now sent s now o x = record {
  before = x.before;
  request = x.request;
  last = x.last;
  registers = x.registers;
  token = elim x.token [
    | inl new ↦ inl new
    | inr observed ↦ inr (record { observation = observed.0.observation; is = observed.0.is; token = observed.0.token; peer = observed.0.peer }, observed.1)
  ];
}

new_or_observed : (sent : List Outstanding) (s : State) (o : Outstanding) → Did sent s → length sent ≤ 65538 → s.outstanding ≡ Some o → NewOrObserved sent s o
new_or_observed sent s o (nothing first_id r new) few e = absurd (let none = new.outstanding in cc)
new_or_observed sent s o (asked before r t now peer a n old new did later ask) few e =
    let is : Some (request_for (at_moment now r) peer a ask.id) ≡ Some o = sym (ap (λ (x : State). x.outstanding) ask.after) ∙ e in
    let same = same_Some (request_for (at_moment now r) peer a ask.id) o is in
    let count = length_push before (request_for (at_moment now r) peer a ask.id) in
    let was = tokens_of before r did (omega arith) in
    record {
      before = before;
      request = request_for (at_moment now r) peer a ask.id;
      last = refl;
      registers = ap (λ (x : Outstanding). x.registers) same;
      token = asked_new before (at_moment now r) t peer a n old new ask o (omega arith) (record { next = was.next; each = was.each; observed = was.observed }) same
          (kept_token r.observation peer a.observe) refl;
    }
new_or_observed sent s o (refused before r now did later) few e = at_now before r now o (new_or_observed before r o did few e)
new_or_observed sent s o (took before r t now from bytes told old new did later delivers) few e =
    let st = stays_delivered (at_moment now r) t from bytes told old new o delivers e in
    new_stays before (at_moment now r) t o st (at_now before r now st.before (new_or_observed before r st.before did few st.was))
new_or_observed sent s o (retransmitted before r t now d old new did later comes) few e =
    let st = stays_due (at_moment now r) t d old new o comes e in
    new_stays before (at_moment now r) t o st (at_now before r now st.before (new_or_observed before r st.before did few st.was))

pub token_is_new_or_observed : TokenIsNewOrObserved
token_is_new_or_observed before a s o did few e =
    let count = length_push before a in
    let x = new_or_observed (before ++ a ∷ []) s o did (omega arith) e in
    let same = same_from_push x.before before x.request a (sym x.last) in
    elim x.token [
      | inl new ↦ inl (subst (All (λ (y : Outstanding). y.token ≢ o.token)) same.0 new)
      | inr observed ↦ inr observed
    ]

-- ---- registrations have tokens of their own

pub registrations_differ : RegistrationsDiffer
registrations_differ sent s (nothing first_id r new) few = λ i j d before within. absurd (omega arith)
registrations_differ sent s (asked before r t now peer a n old new did later ask) few =
    let q : Outstanding = request_for (at_moment now r) peer a ask.id in
    let count = length_push before q in
    let was = tokens_of before r did (omega arith) in
    let it = asked_new before (at_moment now r) t peer a n old new ask q (omega arith) (record { next = was.next; each = was.each; observed = was.observed }) refl
    (kept_token r.observation peer a.observe) refl in
    all_pairs_push (λ (x y : Outstanding). y.registers ≡ true → x.token ≢ y.token) before q (registrations_differ before r did (omega arith)) (λ k d within reg. elim it [
      | inl each ↦ each k d within
      | inr old_one ↦ absurd (let no_one : q.registers ≡ false = old_one.1 in cc)
    ])
registrations_differ sent s (refused before r now did later) few = registrations_differ before r did few
registrations_differ sent s (took before r t now from bytes told old new did later delivers) few = registrations_differ before r did few
registrations_differ sent s (retransmitted before r t now d old new did later comes) few = registrations_differ before r did few

-- ---- no value came while a registration is outstanding

-- where it was outstanding before, and the observation was the same
record WasOpen (s : State) (o : Outstanding) (x : Observation) : Type 0 where
  before : Outstanding
  was : s.outstanding ≡ Some before
  registers_too : before.registers ≡ true
  observed_too : s.observation ≡ Some x

registers_some : (x : Option Outstanding) (o : Outstanding) → x ≡ Some o → registers x ≡ false → o.registers ≡ true → ⊥
registers_some x o is none reg = let no_one : registers (Some o) ≡ false = subst (λ (y : Option Outstanding). registers y ≡ false) is none in cc

pub kept_seen : (y : Option Observation) (b : Bool) (x : Observation) → cond b None y ≡ Some x → y ≡ Some x
kept_seen y true x e = absurd (cc)
kept_seen y false x e = e

was_open : (s : State) (from : Endpoint) (token : List ℕ) (m : Meaning) (o : Outstanding) (x : Observation) → (after s from token m).outstanding ≡ Some o → o.registers ≡ true
    → (after s from token m).observation ≡ Some x → WasOpen s o x
was_open s from token (meant.Value v) o x e reg f =
    let kept = kept_if s.outstanding (registers s.outstanding) o e in absurd (registers_some s.outstanding o kept.1 kept.0 reg)
was_open s from token meant.Old o x e reg f =
    let kept = kept_if s.outstanding (registers s.outstanding) o e in absurd (registers_some s.outstanding o kept.1 kept.0 reg)
was_open s from token meant.Response o x e reg f =
    let kept = kept_if s.outstanding (is_for_request s.outstanding from token) o e in
    record { before = o; was = kept.1; registers_too = reg; observed_too = kept_seen s.observation (is_for_observation s.observation from token) x f }
was_open s from token meant.Reset o x e reg f = absurd (cc)
was_open s from token meant.Received o x e reg f =
    let st = stays_after s from token meant.Received o e in record { before = st.before; was = st.was; registers_too = st.same.registers ∙ reg; observed_too = f }
was_open s from token meant.Foreign o x e reg f = record { before = o; was = e; registers_too = reg; observed_too = f }

pub same_seen_due : (s t : State) (d : Due) (old new : List ℕ) (x : Observation) → ComesDue s d old new t → t.observation ≡ Some x → s.observation ≡ Some x
same_seen_due s t due.TimedOut old new x h f = kept_seen s.observation (registers s.outstanding) x (sym (ap (λ (y : State). y.observation) h.3) ∙ f)
same_seen_due s t (due.Send n) old new x h f = sym (ap (λ (y : State). y.observation) h.5) ∙ f
same_seen_due s t due.Nothing old new x h f = sym (ap (λ (y : State). y.observation) h.1) ∙ f

pub no_value_yet : NoValueYet
no_value_yet sent s o x (nothing first_id r new) e reg f = absurd (let none = new.outstanding in cc)
no_value_yet sent s o x (asked before r t now peer a n old new did later ask) e reg f =
    let is : Some (request_for (at_moment now r) peer a ask.id) ≡ Some o = sym (ap (λ (y : State). y.outstanding) ask.after) ∙ e in
    let same : request_for (at_moment now r) peer a ask.id ≡ o = same_Some (request_for (at_moment now r) peer a ask.id) o is in
    let registers_it : (request_for (at_moment now r) peer a ask.id).registers ≡ true = ap (λ (y : Outstanding). y.registers) same ∙ reg in
    let seen = ap (λ (y : State). y.observation) ask.after ∙ registered_at r.observation (request_for (at_moment now r) peer a ask.id) (request_for (at_moment now r) peer a ask.id).registers registers_it in
    let begun_one : record { peer = (request_for (at_moment now r) peer a ask.id).peer; token = (request_for (at_moment now r) peer a ask.id).token; latest = None } ≡ x = same_Some _ x (sym seen ∙ f) in
    sym (ap (λ (y : Observation). y.latest) begun_one)
no_value_yet sent s o x (refused before r now did later) e reg f = no_value_yet before r o x did e reg f
no_value_yet sent s o x (took before r t now from bytes told old new did later (of_message m spells reply news is)) e reg f =
    let w = was_open (at_moment now r) from m.token (meaning (at_moment now r) from m) o x (sym (ap (λ (y : State). y.outstanding) is) ∙ e) reg (sym (ap (λ (y : State). y.observation) is) ∙ f) in
    no_value_yet before r w.before x did w.was w.registers_too w.observed_too
no_value_yet sent s o x (took before r t now from bytes told old new did later (of_fault fault has reply news is)) e reg f =
    no_value_yet before r o x did (sym (ap (λ (y : State). y.outstanding) is) ∙ e) reg (sym (ap (λ (y : State). y.observation) is) ∙ f)
no_value_yet sent s o x (retransmitted before r t now d old new did later comes) e reg f =
    let st = stays_due (at_moment now r) t d old new o comes e in
    no_value_yet before r st.before x did st.was (st.same.registers ∙ reg) (same_seen_due (at_moment now r) t d old new x comes f)
