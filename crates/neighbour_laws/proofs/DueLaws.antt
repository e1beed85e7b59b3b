-- The observers of one endpoint, once a datagram of another came and the moment did to all what is due.
use Rattle.std.proofs.Common.{◌≡◌, ◌∙◌, ℕ, Bool, true, false, not, cond, List, [], ◌∷◌, ◌++◌, map, find, refl, sym, ap, subst}
use Rattle.std.specs.Prelude.{Option, Some, None, ◌==◌, ◌&&◌, All, option_and_then, is_some}
use Rattle.std.specs.Str.{bytes_eq}
use Rattle.std.proofs.lemmas.List.{append-nil}
use Rattle.std.proofs.lemmas.List.Elements.{All-weaker, filter_passes, filter-append}
use Rattle.std.proofs.lemmas.Option.{same_Some}
use Rattle.coap_msg.specs.declared.endpoint.Endpoint.{Endpoint}
use Rattle.coap_msg.specs.Endpoints.{is_same_endpoint}
use Rattle.coap_msg.proofs.SameEndpoints.{both, same_endpoint, itself}
use Rattle.coap_observe.specs.declared.observer.Observer.{Observer}
use Rattle.coap_observe.specs.declared.notice.Notice.{Notice}
use Rattle.coap_observe.specs.declared.notice.Registered.TheVariants.{New, Replaced, Full}
use Rattle.coap_observe.specs.Sending.{Sent}
use Rattle.coap_observe.specs.Watching.{Watching, where_so, is_due, is_sendable, is_busy, is_named, resent, renewed, notified, is_of_target, is_sent_as, is_pair, marked, acknowledged, replaced, newcomer, is_from, is_given_up, given_up_endpoint, hopeless, without, GivesUp, nobody, endpoint, Sends, same, newer, first, nothing}
use Rattle.coap_observe.proofs.Found.{found_filter}
use Rattle.coap_bind.specs.declared.observing.Effect.{Effect}
use Rattle.coap_bind.specs.declared.server.Server.{Server}
use Rattle.coap_bind.specs.Observing.{Watches, leaves, cancels, registers}
use Rattle.coap_bind.specs.Server.{with_emitted, SendsNext}
use Rattle.servient_ends.proofs.StepParts.{with_targets}
use Rattle.neighbour_laws.specs.Neighbours.{observers_of, with_new_values, DoesDue, none_is_due, is_given_up as gives_up, is_sent}
use Rattle.neighbour_laws.proofs.EventParts.{SendsEach}
use Rattle.neighbour_laws.proofs.HeardParts.{Told, leaves_all, acknowledges, rejects, cancels_one, next_observers}
use Rattle.neighbour_laws.proofs.Lists.{never, filter_apart, filter_commutes, filter_changed, filter_map, first_of_others, first_of_own, none_of_part, any_of_part, find_agrees, first_agrees}

-- ---- endpoints that are apart

-- an observer of one is none of the other
pub apart : (x from : Endpoint) (w : Observer) → is_same_endpoint x from ≡ false → is_same_endpoint from w.from ≡ true → is_from x w ≡ false
apart x from w test is = subst (λ (e : Endpoint). is_same_endpoint x e ≡ false) (same_endpoint from w.from is) test

sent_from : (from : Endpoint) (id : ℕ) (w : Observer) → is_sent_as from id w ≡ true → is_same_endpoint from w.from ≡ true
sent_from from id w is = by w.notification is
  where
    by : (o : Option Sent) → is_named from id w.from o ≡ true → is_same_endpoint from w.from ≡ true
    by None e = absurd (never false e refl)
    by (Some n) e = (both (is_same_endpoint from w.from) (id == n.id) e).0

pair_from : (from : Endpoint) (token : List ℕ) (w : Observer) → is_pair from token w ≡ true → is_same_endpoint from w.from ≡ true
pair_from from token w is = (both (is_same_endpoint from w.from) (bytes_eq token w.token) is).0

not_so : (b : Bool) → (b ≡ true → ⊥) → not b ≡ true
not_so true no_way = absurd (no_way refl)
not_so false no_way = refl

-- those of the one stay where others are taken away
stay_without : (x from : Endpoint) (test : Observer → Bool) → is_same_endpoint x from ≡ false → ((w : Observer) → test w ≡ true → is_same_endpoint from w.from ≡ true) → (ws : List Observer)
    → observers_of x (without test ws) ≡ observers_of x ws
stay_without x from test other of ws =
    filter_apart (is_from x) (λ w. not (test w)) (λ w mine. not_so (test w) (λ is. never (is_from x w) mine (apart x from w other (of w is)))) ws

stay_changed : (x from : Endpoint) (test : Observer → Bool) (change : Observer → Observer) → is_same_endpoint x from ≡ false → ((w : Observer) → test w ≡ true → is_same_endpoint from w.from ≡ true)
    → ((w : Observer) → is_from x (change w) ≡ is_from x w) → (ws : List Observer) → observers_of x (map (where_so test change) ws) ≡ observers_of x ws
stay_changed x from test change other of keeps ws = filter_changed (is_from x) test change (λ w is. apart x from w other (of w is)) keeps ws

pub told_leaves : (x from : Endpoint) (old new : Watching) → is_same_endpoint x from ≡ false → Told from old new → observers_of x new.list ≡ observers_of x old.list
told_leaves x from old new other (leaves_all is) = ap (λ (w : Watching). observers_of x w.list) is
told_leaves x from old new other (acknowledges id is) =
    ap (λ (w : Watching). observers_of x w.list) is ∙ stay_changed x from (is_sent_as from id) acknowledged other (sent_from from id) (λ w. refl) old.list
told_leaves x from old new other (rejects id is) = ap (λ (w : Watching). observers_of x w.list) is ∙ stay_without x from (is_sent_as from id) other (sent_from from id) old.list
told_leaves x from old new other (cancels_one token is) = ap (λ (w : Watching). observers_of x w.list) is ∙ stay_without x from (is_pair from token) other (pair_from from token) old.list

newcomer_apart : (b : Bool) (w : Observer) (l : List Observer) → b ≡ false → l ++ cond b (w ∷ []) [] ≡ l
newcomer_apart true w l is = absurd (never true refl is)
newcomer_apart false w l is = append-nil l

pub watches_leaves : (x : Endpoint) (does : Effect) (from : Endpoint) (token : List ℕ) (old : Watching) (o : Option ℕ) (new : Watching) → is_same_endpoint x from ≡ false → Watches does from token old o new
    → observers_of x new.list ≡ observers_of x old.list
watches_leaves x does from token old o new other (leaves is none stays) = ap (λ (w : Watching). observers_of x w.list) stays
watches_leaves x does from token old o new other (cancels is none gone) = ap (λ (w : Watching). observers_of x w.list) gone ∙ stay_without x from (is_pair from token) other (pair_from from token) old.list
watches_leaves x does from token old o new other (registers target (Replaced n) is at says) =
    ap (λ (w : Watching). observers_of x w.list) at.1 ∙ stay_changed x from (is_pair from token) (replaced target) other (pair_from from token) (λ w. refl) old.list
watches_leaves x does from token old o new other (registers target (New n) is at says) =
    ap (λ (w : Watching). observers_of x w.list) at.3
    ∙ (filter-append (is_from x) old.list (newcomer from token target ∷ []) ∙ newcomer_apart (is_same_endpoint x from) (newcomer from token target) (observers_of x old.list) other)
watches_leaves x does from token old o new other (registers target Full is at says) = ap (λ (w : Watching). observers_of x w.list) at.2

-- ---- new values

pub values_of_part : (x : Endpoint) (targets : List ℕ) (s : Server) → observers_of x (with_targets targets s).observers.list ≡ with_new_values targets (observers_of x s.observers.list)
values_of_part x [] s = refl
values_of_part x (target ∷ targets) s =
    values_of_part x targets (with_emitted target s)
    ∙ ap (λ (l : List Observer). with_new_values targets l) (filter_map (is_from x) (where_so (is_of_target target) marked) keeps s.observers.list)
  where
    keeps : (w : Observer) → is_from x (where_so (is_of_target target) marked w) ≡ is_from x w
    keeps w = by (is_of_target target w)
      where
        by : (b : Bool) → is_from x (cond b (marked w) w) ≡ is_from x w
        by true = refl
        by false = refl

-- ---- endpoints that are given up

endpoint_of_one : (w : Observer) (from : Endpoint) → given_up_endpoint w ≡ Some from → w.from ≡ from
endpoint_of_one w from is = by (is_given_up w) is
  where
    by : (b : Bool) → cond b (Some w.from) None ≡ Some from → w.from ≡ from
    by true e = same_Some w.from from e
    by false e = absurd (let f : None ≡ Some from = e in cc)

record IsHopeless (now : ℕ) (ws : List Observer) (from : Endpoint) : Type 0 where
  one : Observer
  found : find (is_due now) ws ≡ Some one
  gone : given_up_endpoint one ≡ Some from

who_is_hopeless : (now : ℕ) (ws : List Observer) (from : Endpoint) → hopeless now ws ≡ Some from → IsHopeless now ws from
who_is_hopeless now ws from is = by (find (is_due now) ws) refl is
  where
    by : (o : Option Observer) → find (is_due now) ws ≡ o → option_and_then given_up_endpoint o ≡ Some from → IsHopeless now ws from
    by None found e = absurd (let f : None ≡ Some from = e in cc)
    by (Some w) found e = record { one = w; found = found; gone = e }

-- those of one endpoint, where this is found among all, are as hopeless
hopeless_of_part : (x : Endpoint) (now : ℕ) (ws : List Observer) (w : Observer) → find (is_due now) ws ≡ Some w → is_from x w ≡ true → hopeless now (observers_of x ws) ≡ hopeless now ws
hopeless_of_part x now ws w found mine =
    ap (λ (o : Option Observer). option_and_then given_up_endpoint o) (found_filter (is_due now) (is_from x) ws w found mine) ∙ sym (ap (λ (o : Option Observer). option_and_then given_up_endpoint o) found)

given_up_of_part : (x : Endpoint) (now : ℕ) (ws us vs : List Observer) → GivesUp now ws us → DoesDue now (observers_of x us) vs → DoesDue now (observers_of x ws) vs
given_up_of_part x now ws us vs (nobody _ _ none is) due = subst (λ (l : List Observer). DoesDue now (observers_of x l) vs) is due
given_up_of_part x now ws us vs (endpoint from _ _ at rest) due = by (is_same_endpoint x from) refl (given_up_of_part x now (without (is_from from) ws) us vs rest due)
  where
    by : (b : Bool) → is_same_endpoint x from ≡ b → DoesDue now (observers_of x (without (is_from from) ws)) vs → DoesDue now (observers_of x ws) vs
    by true test more =
        let h = who_is_hopeless now ws from at in
        let mine : is_from x h.one ≡ true = subst (λ (e : Endpoint). is_same_endpoint x e ≡ true) (sym (endpoint_of_one h.one from h.gone)) test in
        gives_up from (observers_of x ws) vs (hopeless_of_part x now ws h.one h.found mine ∙ at)
        (subst (λ (l : List Observer). DoesDue now l vs) (filter_commutes (is_from x) (λ w. not (is_from from w)) ws) more)
    by false test more = subst (λ (l : List Observer). DoesDue now l vs) (stay_without x from (is_from from) test (λ w is. is) ws) more

none_hopeless : (now : ℕ) (ws us : List Observer) → GivesUp now ws us → hopeless now us ≡ None
none_hopeless now ws us (nobody _ _ none is) = ap (hopeless now) is ∙ none
none_hopeless now ws us (endpoint from _ _ at rest) = none_hopeless now (without (is_from from) ws) us rest

-- ---- one message

-- one is sendable among those of its endpoint as among all
sendable_of_part : (x : Endpoint) (ws : List Observer) → All (λ (w : Observer). is_sendable ws w ≡ is_sendable (observers_of x ws) w) (observers_of x ws)
sendable_of_part x ws = All-weaker (λ (w : Observer). is_from x w ≡ true) (λ (w : Observer). is_sendable ws w ≡ is_sendable (observers_of x ws) w) each (observers_of x ws) (filter_passes (is_from x) ws)
  where
    each : (w : Observer) → is_from x w ≡ true → is_sendable ws w ≡ is_sendable (observers_of x ws) w
    each w mine =
        ap (λ (b : Bool). w.is_marked && not b) (sym (any_of_part (is_busy w.from) (is_from x) (λ v busy.
        subst (λ (e : Endpoint). is_same_endpoint x e ≡ true) (same_endpoint x w.from mine ∙ same_endpoint w.from v.from (both (is_some v.notification) (is_same_endpoint w.from v.from) busy).1) (itself x)) ws))

found_sendable : (x : Endpoint) (ws : List Observer) (w : Observer) → find (is_sendable ws) ws ≡ Some w → is_from x w ≡ true → find (is_sendable (observers_of x ws)) (observers_of x ws) ≡ Some w
found_sendable x ws w found mine =
    sym (find_agrees (is_sendable ws) (is_sendable (observers_of x ws)) (observers_of x ws) (sendable_of_part x ws)) ∙ found_filter (is_sendable ws) (is_from x) ws w found mine

sent_of_part : (x : Endpoint) (now id : ℕ) (n : Notice) (ws us vs : List Observer) → hopeless now ws ≡ None → Sends now id ws (Some n) us → DoesDue now (observers_of x us) vs → DoesDue now (observers_of x ws) vs
sent_of_part x now id n ws us vs none_at (same w s _ _ found plain was notice is) due = by (is_from x w) refl
  where
    by : (b : Bool) → is_from x w ≡ b → DoesDue now (observers_of x ws) vs
    by true mine =
        is_sent id n (observers_of x ws) (observers_of x us) vs (hopeless_of_part x now ws w found mine ∙ none_at)
        (same w s n (observers_of x us) (found_filter (is_due now) (is_from x) ws w found mine) plain was notice
        (ap (observers_of x) is ∙ first_of_own (is_from x) (is_due now) (resent now) ws w found mine (λ v. refl))) due
    by false other = subst (λ (l : List Observer). DoesDue now l vs) (ap (observers_of x) is ∙ first_of_others (is_from x) (is_due now) (resent now) ws w found other (λ v. refl)) due
sent_of_part x now id n ws us vs none_at (newer w _ _ found marked_one notice is) due = by (is_from x w) refl
  where
    by : (b : Bool) → is_from x w ≡ b → DoesDue now (observers_of x ws) vs
    by true mine =
        is_sent id n (observers_of x ws) (observers_of x us) vs (hopeless_of_part x now ws w found mine ∙ none_at)
        (newer w n (observers_of x us) (found_filter (is_due now) (is_from x) ws w found mine) marked_one notice
        (ap (observers_of x) is ∙ first_of_own (is_from x) (is_due now) (renewed now id) ws w found mine (λ v. refl))) due
    by false other = subst (λ (l : List Observer). DoesDue now l vs) (ap (observers_of x) is ∙ first_of_others (is_from x) (is_due now) (renewed now id) ws w found other (λ v. refl)) due
sent_of_part x now id n ws us vs none_at (first w _ _ none found notice is) due = by (is_from x w) refl
  where
    by : (b : Bool) → is_from x w ≡ b → DoesDue now (observers_of x ws) vs
    by true mine =
        let none_of = none_of_part (is_due now) (is_from x) ws none in
        is_sent id n (observers_of x ws) (observers_of x us) vs (ap (λ (o : Option Observer). option_and_then given_up_endpoint o) none_of)
        (first w n (observers_of x us) none_of (found_sendable x ws w found mine) notice
        (ap (observers_of x) is ∙ (first_of_own (is_from x) (is_sendable ws) (notified now id) ws w found mine (λ v. refl)
        ∙ first_agrees (is_sendable ws) (is_sendable (observers_of x ws)) (notified now id) (observers_of x ws) (sendable_of_part x ws)))) due
    by false other = subst (λ (l : List Observer). DoesDue now l vs) (ap (observers_of x) is ∙ first_of_others (is_from x) (is_sendable ws) (notified now id) ws w found other (λ v. refl)) due

-- ---- the end of an event

next_of_part : (x : Endpoint) (now : ℕ) (n : Notice) (s t : Server) (vs : List Observer) → SendsNext now (Some n) s t → DoesDue now (observers_of x t.observers.list) vs → DoesDue now (observers_of x s.observers.list) vs
next_of_part x now n s t vs sends due =
    let gone = sends.notifies.gives_up in
    given_up_of_part x now s.observers.list sends.notifies.left vs gone
    (sent_of_part x now s.next_id n sends.notifies.left sends.observers.list vs (none_hopeless now s.observers.list sends.notifies.left gone) sends.notifies.sends
    (subst (λ (w : Watching). DoesDue now (observers_of x w.list) vs) (next_observers now (Some n) s t sends) due))

last_of_part : (x : Endpoint) (now id : ℕ) (ws us : List Observer) → Sends now id ws None us → DoesDue now (observers_of x ws) (observers_of x us)
last_of_part x now id ws us (nothing _ none free is) =
    none_is_due (observers_of x ws) (observers_of x us) (none_of_part (is_due now) (is_from x) ws none)
    (sym (find_agrees (is_sendable ws) (is_sendable (observers_of x ws)) (observers_of x ws) (sendable_of_part x ws)) ∙ none_of_part (is_sendable ws) (is_from x) ws free) (ap (observers_of x) is)

ends_of_part : (x : Endpoint) (now : ℕ) (s t : Server) → SendsNext now None s t → DoesDue now (observers_of x s.observers.list) (observers_of x t.observers.list)
ends_of_part x now s t sends =
    given_up_of_part x now s.observers.list sends.notifies.left (observers_of x t.observers.list) sends.notifies.gives_up
    (subst (λ (w : Watching). DoesDue now (observers_of x sends.notifies.left) (observers_of x w.list)) (sym (next_observers now None s t sends))
    (last_of_part x now s.next_id sends.notifies.left sends.observers.list sends.notifies.sends))

pub due_of_part : (x : Endpoint) (now : ℕ) (ns : List Notice) (s m t : Server) → SendsEach now ns s m → SendsNext now None m t → DoesDue now (observers_of x s.observers.list) (observers_of x t.observers.list)
due_of_part x now [] s m t is last = subst (λ (c : Server). DoesDue now (observers_of x c.observers.list) (observers_of x t.observers.list)) is (ends_of_part x now m t last)
due_of_part x now (n ∷ ns) s m t (u, one, more) last = next_of_part x now n s u (observers_of x t.observers.list) one (due_of_part x now ns u m t more last)
