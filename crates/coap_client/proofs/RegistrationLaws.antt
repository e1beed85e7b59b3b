-- While a request is outstanding, the observation with its token stays, and a registration is observed.
use Rattle.std.proofs.Common.{◌≡◌, ℕ, ◌&&◌, ◌∙◌, Bool, true, false, cond, Option, Some, None, List, refl, sym, ap, subst}
use Rattle.std.specs.Str.{bytes_eq}
use Rattle.std.proofs.lemmas.Option.{same_Some}
use Rattle.coap_msg.specs.declared.endpoint.Endpoint.{Endpoint}
use Rattle.coap_client.specs.declared.outstanding.Outstanding.{Outstanding}
use Rattle.coap_client.specs.declared.observation.Observation.{Observation}
use Rattle.coap_client.specs.declared.state.State.{State}
use Rattle.coap_client.specs.declared.meaning.Meaning.{Meaning}
use Rattle.coap_client.specs.declared.meaning.Meaning.TheVariants as meant
use Rattle.coap_client.specs.declared.due.Due.{Due}
use Rattle.coap_client.specs.declared.due.Due.TheVariants as due
use Rattle.coap_client.specs.Asking.{Asking}
use Rattle.coap_msg.specs.Endpoints.{is_same_endpoint}
use Rattle.coap_client.specs.Answers.{meaning, is_for_request, is_for_observation}
use Rattle.coap_client.specs.Exchange.{at_moment, Asks, request_for, registers, acknowledged, with_latest, ComesDue, Delivers, of_message, of_fault, after}
use Rattle.coap_client.specs.Laws.{nothing, asked, refused, took, retransmitted}
use Rattle.coap_client.specs.Tokens.{IsObservedAs, RegistrationIsObserved}

-- ---- while a request is outstanding, the observation with its token stays

-- the same request, with its registration
pub record IsSameOne (p o : Outstanding) : Type 0 where
  pub token : p.token ≡ o.token
  pub peer : p.peer ≡ o.peer
  pub registers : p.registers ≡ o.registers

-- from one state to another
pub record Stays (s t : State) (o : Outstanding) : Type 0 where
  pub before : Outstanding
  pub was : s.outstanding ≡ Some before
  pub same : IsSameOne before o
  pub observed : IsObservedAs s before → IsObservedAs t o

one_self : (o : Outstanding) → IsSameOne o o
one_self o = record { token = refl; peer = refl; registers = refl }

observed_same : (s t : State) (p o : Outstanding) → t.observation ≡ s.observation → p ≡ o → IsObservedAs s p → IsObservedAs t o
observed_same s t p o e same x = record {
  observation = x.observation;
  is = e ∙ x.is;
  token = x.token ∙ ap (λ (y : Outstanding). y.token) same;
  peer = x.peer ∙ ap (λ (y : Outstanding). y.peer) same;
}

stays_self : (s t : State) (o : Outstanding) → t.outstanding ≡ s.outstanding → t.observation ≡ s.observation → t.outstanding ≡ Some o → Stays s t o
stays_self s t o e f is = record { before = o; was = sym e ∙ is; same = one_self o; observed = λ x. observed_same s t o o f refl x }

pub kept_if : (x : Option Outstanding) (b : Bool) (o : Outstanding) → cond b None x ≡ Some o → (b ≡ false) × (x ≡ Some o)
kept_if x true o e = absurd (cc)
kept_if x false o e = (refl, e)

with_latest_same : (x : Option Observation) (v now : ℕ) (y : Observation) → x ≡ Some y → (z : Observation) × (with_latest v now x ≡ Some z) × (z.token ≡ y.token) × (z.peer ≡ y.peer)
with_latest_same None v now y e = absurd (cc)
with_latest_same (Some w) v now y e =
    let same : w ≡ y = same_Some w y e in
    (record w { latest = Some (record { sequence = v; moment = now }) }, refl, ap (λ (x : Observation). x.token) same, ap (λ (x : Observation). x.peer) same)

-- a response that isn't for the request isn't for the observation that has its token
not_for : (x : Observation) (o : Outstanding) (from : Endpoint) (token : List ℕ) → x.token ≡ o.token → x.peer ≡ o.peer → is_for_request (Some o) from token ≡ false
    → is_for_observation (Some x) from token ≡ false
not_for x o from token same_token same_peer no_request =
    ap (λ (p : Endpoint). is_same_endpoint from p && bytes_eq token x.token) same_peer ∙ (ap (λ (t : List ℕ). is_same_endpoint from o.peer && bytes_eq token t) same_token ∙ no_request)

if_false : (b : Bool) (x : Option Observation) → b ≡ false → cond b None x ≡ x
if_false true x e = absurd (cc)
if_false false x e = refl

pub stays_after : (s : State) (from : Endpoint) (token : List ℕ) (m : Meaning) (o : Outstanding) → (after s from token m).outstanding ≡ Some o → Stays s (after s from token m) o
stays_after s from token (meant.Value v) o e =
    let kept = kept_if s.outstanding (registers s.outstanding) o e in
    record {
      before = o;
      was = kept.1;
      same = one_self o;
      observed = λ x.
          let z = with_latest_same s.observation v s.moment x.observation x.is in
          record { observation = z.0; is = z.1; token = z.2 ∙ x.token; peer = z.3 ∙ x.peer };
    }
stays_after s from token meant.Old o e =
    let kept = kept_if s.outstanding (registers s.outstanding) o e in
    record { before = o; was = kept.1; same = one_self o; observed = λ x. record { observation = x.observation; is = x.is; token = x.token; peer = x.peer } }
stays_after s from token meant.Response o e =
    let kept = kept_if s.outstanding (is_for_request s.outstanding from token) o e in
    let no_request : is_for_request (Some o) from token ≡ false = subst (λ (y : Option Outstanding). is_for_request y from token ≡ false) kept.1 kept.0 in
    record {
      before = o;
      was = kept.1;
      same = one_self o;
      observed = λ x.
          let not_observed : is_for_observation s.observation from token ≡ false
          = subst (λ (y : Option Observation). is_for_observation y from token ≡ false) (sym x.is) (not_for x.observation o from token x.token x.peer no_request) in
          record { observation = x.observation; is = if_false (is_for_observation s.observation from token) s.observation not_observed ∙ x.is; token = x.token; peer = x.peer };
    }
stays_after s from token meant.Reset o e = absurd (cc)
stays_after s from token meant.Received o e = stays_acknowledged s o s.outstanding refl e
  where
    stays_acknowledged : (s : State) (o : Outstanding) (x : Option Outstanding) → s.outstanding ≡ x → acknowledged x ≡ Some o → Stays s (record s { outstanding = acknowledged s.outstanding }) o
    stays_acknowledged s o None is e = absurd (cc)
    stays_acknowledged s o (Some p) is e =
        let same : record p { is_acknowledged = true } ≡ o = same_Some (record p { is_acknowledged = true }) o e in
        record {
          before = p;
          was = is;
          same = record { token = ap (λ (y : Outstanding). y.token) same; peer = ap (λ (y : Outstanding). y.peer) same; registers = ap (λ (y : Outstanding). y.registers) same };
          observed = λ x. record {
            observation = x.observation;
            is = x.is;
            token = x.token ∙ ap (λ (y : Outstanding). y.token) same;
            peer = x.peer ∙ ap (λ (y : Outstanding). y.peer) same;
          };
        }
stays_after s from token meant.Foreign o e = stays_self s s o refl refl e

pub stays_delivered : (s t : State) (from : Endpoint) (bytes : List ℕ) (told : _) (old new : List ℕ) (o : Outstanding) → Delivers s from bytes told old new t → t.outstanding ≡ Some o → Stays s t o
stays_delivered s t from bytes told old new o (of_message m spells reply news is) e =
    subst (λ (x : State). Stays s x o) (sym is) (stays_after s from m.token (meaning s from m) o (sym (ap (λ (x : State). x.outstanding) is) ∙ e))
stays_delivered s t from bytes told old new o (of_fault f has reply news is) e = stays_self s t o (ap (λ (x : State). x.outstanding) is) (ap (λ (x : State). x.observation) is) e

pub stays_due : (s t : State) (d : Due) (old new : List ℕ) (o : Outstanding) → ComesDue s d old new t → t.outstanding ≡ Some o → Stays s t o
stays_due s t due.TimedOut old new o h e = let none : t.outstanding ≡ None = ap (λ (x : State). x.outstanding) h.3 in absurd (cc)
stays_due s t (due.Send n) old new o h e =
    let next : t.outstanding ≡ Some (record h.0 { reached = _ }) = ap (λ (x : State). x.outstanding) h.5 in
    let same : record h.0 { reached = _ } ≡ o = same_Some _ o (sym next ∙ e) in
    record {
      before = h.0;
      was = h.1;
      same = record { token = ap (λ (y : Outstanding). y.token) same; peer = ap (λ (y : Outstanding). y.peer) same; registers = ap (λ (y : Outstanding). y.registers) same };
      observed = λ x. record {
        observation = x.observation;
        is = ap (λ (y : State). y.observation) h.5 ∙ x.is;
        token = x.token ∙ ap (λ (y : Outstanding). y.token) same;
        peer = x.peer ∙ ap (λ (y : Outstanding). y.peer) same;
      };
    }
stays_due s t due.Nothing old new o h e = stays_self s t o (ap (λ (x : State). x.outstanding) h.1) (ap (λ (x : State). x.observation) h.1) e

-- ---- a registration is observed

pub registered_at : (before : Option Observation) (r : Outstanding) (b : Bool) → b ≡ true → cond b (Some (record { peer = r.peer; token = r.token; latest = None })) before ≡ Some (record { peer = r.peer; token = r.token; latest = None })
registered_at before r true e = refl
registered_at before r false e = absurd (cc)

asked_observed : (s t : State) (peer : Endpoint) (a : Asking) (n : ℕ) (old new : List ℕ) (asks : Asks s peer a n old new t) (o : Outstanding) → t.outstanding ≡ Some o → o.registers ≡ true → IsObservedAs t o
asked_observed s t peer a n old new asks o e reg =
    let r : Outstanding = request_for s peer a asks.id in
    let is : Some (request_for s peer a asks.id) ≡ Some o = sym (ap (λ (x : State). x.outstanding) asks.after) ∙ e in
    let same : request_for s peer a asks.id ≡ o = same_Some (request_for s peer a asks.id) o is in
    let registers_it : (request_for s peer a asks.id).registers ≡ true = ap (λ (x : Outstanding). x.registers) same ∙ reg in
    record {
      observation = record { peer = r.peer; token = r.token; latest = None };
      is = ap (λ (x : State). x.observation) asks.after ∙ registered_at s.observation (request_for s peer a asks.id) (request_for s peer a asks.id).registers registers_it;
      token = ap (λ (x : Outstanding). x.token) same;
      peer = ap (λ (x : Outstanding). x.peer) same;
    }

pub registration_is_observed : RegistrationIsObserved
registration_is_observed sent s o (nothing first_id r new) e reg = absurd (let none = new.outstanding in cc)
registration_is_observed sent s o (asked before r t now peer a n old new did later ask) e reg = asked_observed (at_moment now r) t peer a n old new ask o e reg
registration_is_observed sent s o (refused before r now did later) e reg =
    let x = registration_is_observed before r o did e reg in record { observation = x.observation; is = x.is; token = x.token; peer = x.peer }
registration_is_observed sent s o (took before r t now from bytes told old new did later delivers) e reg =
    let st = stays_delivered (at_moment now r) t from bytes told old new o delivers e in
    let x = registration_is_observed before r st.before did st.was (st.same.registers ∙ reg) in
    st.observed (record { observation = x.observation; is = x.is; token = x.token; peer = x.peer })
registration_is_observed sent s o (retransmitted before r t now d old new did later comes) e reg =
    let st = stays_due (at_moment now r) t d old new o comes e in
    let x = registration_is_observed before r st.before did st.was (st.same.registers ∙ reg) in
    st.observed (record { observation = x.observation; is = x.is; token = x.token; peer = x.peer })
