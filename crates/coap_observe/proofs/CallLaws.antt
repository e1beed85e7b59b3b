-- The observers after one call and after all calls.
use Rattle.std.proofs.Common.{◌≡◌, ℕ, ◌≤◌, ◌&&◌, Bool, true, false, not, cond, List, [], ◌∷◌, ◌++◌, take, find, Option, Some, None, is_some, option_map, refl, sym, ap, subst, ◌∙◌, arith, inl, inr}
use Rattle.std.specs.List.{filter, list_any}
use Rattle.std.specs.Str.{bytes_eq}
use Rattle.std.proofs.lemmas.Bool.{cases_Bool}
use Rattle.coap_msg.specs.declared.endpoint.Endpoint.{Endpoint}
use Rattle.coap_msg.specs.Endpoints.{is_same_endpoint}
use Rattle.coap_observe.specs.declared.observer.Observer.{Observer}
use Rattle.coap_observe.specs.declared.notice.Registered.TheVariants.{New, Replaced, Full}
use Rattle.coap_observe.specs.declared.notice.Notice.{Notice}
use Rattle.coap_observe.specs.Sending.{Sent}
use Rattle.coap_observe.specs.Watching.{Watching, is_from, is_pair, is_busy, is_sent_as, is_of_target, is_due, is_sendable, newcomer, replaced, marked, acknowledged, resent, renewed, notified, where_so, with_reset, hopeless, GivesUp, nobody, endpoint, IsNotification, Sends, same, newer, first, nothing, Notifies}
use Rattle.coap_observe.specs.Laws.{Goes, registers, cancels, emits, acknowledges, rejects, sends, Any, Comes, begins, goes_on, count, IsAbsent, is_for}
use Rattle.coap_observe.proofs.Counts.{count_map, count_filter, count_push, count_push_other, none_counted, count_first, count_first_other, any_filter, any_without, any_map, any_first, any_push, found_fails, none_passes, found_passes, gone_once}
use Rattle.coap_msg.proofs.SameEndpoints.{both, same_endpoint, itself}
use Rattle.coap_observe.proofs.Tokens.{same_token, own_token}

-- ---- a change of those that pass a test

where_weaker : (q p : Observer → Bool) (f : Observer → Observer) (w : Observer) → (q (f w) ≡ true → q w ≡ true) → q (where_so p f w) ≡ true → q w ≡ true
where_weaker q p f w h = at (p w) h
  where
    at : (t : Bool) → (q (f w) ≡ true → q w ≡ true) → q (cond t (f w) w) ≡ true → q w ≡ true
    at true k = k
    at false k = λ e. e

pub where_same : (q p : Observer → Bool) (f : Observer → Observer) (w : Observer) → q (f w) ≡ q w → q (where_so p f w) ≡ q w
where_same q p f w h = at (p w) h
  where
    at : (t : Bool) → q (f w) ≡ q w → q (cond t (f w) w) ≡ q w
    at true k = k
    at false k = refl

-- nothing unacknowledged is of no endpoint
not_busy : (from : Endpoint) (w : Observer) → (false && is_same_endpoint from w.from) ≡ true → is_busy from w ≡ true
not_busy from w e = absurd (cc)

-- a notification is still there where it is sent again
some_kept : (g : Sent → Sent) (o : Option Sent) → is_some (option_map g o) ≡ is_some o
some_kept g None = refl
some_kept g (Some s) = refl

still_busy : (g : Sent → Sent) (from : Endpoint) (w : Observer) → (is_some (option_map g w.notification) && is_same_endpoint from w.from) ≡ true
    → is_busy from w ≡ true
still_busy g from w e = subst (λ (t : Bool). (t && is_same_endpoint from w.from) ≡ true) (some_kept g w.notification) e

-- ---- endpoints that are given up

pub fewer_after : (q : Observer → Bool) (now : ℕ) (ws us : List Observer) → GivesUp now ws us → count q us ≤ count q ws
fewer_after q now _ _ (nobody ws us none is) = subst (λ (vs : List Observer). count q vs ≤ count q ws) (sym is) (omega arith)
fewer_after q now _ _ (endpoint from ws us is rest) =
    let less = fewer_after q now (filter (λ w. not (is_from from w)) ws) us rest in
    let gone = count_filter q (λ w. not (is_from from w)) ws in
    omega (arith, less, gone)

pub absent_after : (q : Observer → Bool) (now : ℕ) (ws us : List Observer) → GivesUp now ws us → list_any q ws ≡ false → list_any q us ≡ false
absent_after q now _ _ (nobody ws us none is) absent = subst (λ (vs : List Observer). list_any q vs ≡ false) (sym is) absent
absent_after q now _ _ (endpoint from ws us is rest) absent =
    absent_after q now (filter (λ w. not (is_from from w)) ws) us rest (any_filter q (λ w. not (is_from from w)) ws absent)

pub given_up_is_gone : (now : ℕ) (from : Endpoint) (ws us : List Observer) → hopeless now ws ≡ Some from → GivesUp now ws us → list_any (is_from from) us ≡ false
given_up_is_gone now from _ _ is (nobody ws us none e) = absurd (cc)
given_up_is_gone now from _ _ is (endpoint other ws us e rest) =
    let one : Some other ≡ Some from = sym e ∙ is in
    let same_one : other ≡ from = (cc) in
    absent_after (is_from from) now (filter (λ w. not (is_from other w)) ws) us rest
    (subst (λ (end : Endpoint). list_any (is_from from) (filter (λ w. not (is_from end w)) ws) ≡ false) (sym same_one) (any_without (is_from from) ws))

-- ---- at most one notification to an endpoint is unacknowledged

busy_sends : (now id : ℕ) (ws us : List Observer) (n : Option Notice) → Sends now id ws n us → (from : Endpoint) → count (is_busy from) ws ≤ 1
    → count (is_busy from) us ≤ 1
busy_sends now id ws _ _ (same w s m us found plain was notice is) from most =
    let le = count_first_other (is_busy from) (is_due now) (resent now) ws w found (still_busy _ from w) in
    subst (λ (vs : List Observer). count (is_busy from) vs ≤ 1) (sym is) (omega (arith, le, most))
busy_sends now id ws _ _ (newer w m us found marked_one notice is) from most =
    let le = count_first_other (is_busy from) (is_due now) (renewed now id) ws w found (still_busy _ from w) in
    subst (λ (vs : List Observer). count (is_busy from) vs ≤ 1) (sym is) (omega (arith, le, most))
busy_sends now id ws _ _ (first w m us none_due found notice is) from most =
    subst (λ (vs : List Observer). count (is_busy from) vs ≤ 1) (sym is)
    (elim (cases_Bool (is_same_endpoint from w.from)) [
      | inl to_it ↦
          let end = same_endpoint from w.from to_it in
          let free = both w.is_marked (not (list_any (is_busy w.from) ws)) (found_passes (is_sendable ws) ws w found) in
          let idle = none_counted (is_busy from) ws (subst (λ (e : Endpoint). list_any (is_busy e) ws ≡ false) (sym end) (not_true (list_any (is_busy w.from) ws) free.1)) in
          let le = count_first (is_busy from) (is_sendable ws) (notified now id) ws in
          omega (arith, le, idle)
      | inr other ↦
          let le = count_first_other (is_busy from) (is_sendable ws) (notified now id) ws w found (λ e. absurd (other_end (is_same_endpoint from w.from) other e)) in
          omega (arith, le, most)
    ])
  where
    not_true : (t : Bool) → not t ≡ true → t ≡ false
    not_true true e = absurd (cc)
    not_true false e = refl

    other_end : (t : Bool) → t ≡ false → (true && t) ≡ true → ⊥
    other_end true e h = absurd (cc)
    other_end false e h = absurd (cc)
busy_sends now id ws _ _ (nothing us none_due none_free is) from most =
    subst (λ (vs : List Observer). count (is_busy from) vs ≤ 1) (sym is) most

pub busy_goes : (t u : Watching) → Goes Any t u → (from : Endpoint) → count (is_busy from) t.list ≤ 1 → count (is_busy from) u.list ≤ 1
busy_goes t u (registers f token target (Replaced n) may reg) from most =
    let le = count_map (is_busy from) (where_so (is_pair f token) (replaced target))
    (λ w. where_weaker (is_busy from) (is_pair f token) (replaced target) w (not_busy from w)) t.list in
    subst (λ (x : Watching). count (is_busy from) x.list ≤ 1) (sym reg.1) (omega (arith, le, most))
busy_goes t u (registers f token target (New n) may reg) from most =
    let le = count_push_other (is_busy from) t.list (newcomer f token target) refl in
    subst (λ (x : Watching). count (is_busy from) x.list ≤ 1) (sym reg.3) (omega (arith, le, most))
busy_goes t u (registers f token target Full may reg) from most = subst (λ (x : Watching). count (is_busy from) x.list ≤ 1) (sym reg.2) most
busy_goes t u (cancels f token is) from most =
    let le = count_filter (is_busy from) (λ w. not (is_pair f token w)) t.list in
    subst (λ (x : Watching). count (is_busy from) x.list ≤ 1) (sym is) (omega (arith, le, most))
busy_goes t u (emits target is) from most =
    let le = count_map (is_busy from) (where_so (is_of_target target) marked)
    (λ w. where_weaker (is_busy from) (is_of_target target) marked w (λ e. e)) t.list in
    subst (λ (x : Watching). count (is_busy from) x.list ≤ 1) (sym is) (omega (arith, le, most))
busy_goes t u (acknowledges f id is) from most =
    let le = count_map (is_busy from) (where_so (is_sent_as f id) acknowledged)
    (λ w. where_weaker (is_busy from) (is_sent_as f id) acknowledged w (not_busy from w)) t.list in
    subst (λ (x : Watching). count (is_busy from) x.list ≤ 1) (sym is) (omega (arith, le, most))
busy_goes t u (rejects f id is) from most =
    let le = count_filter (is_busy from) (λ w. not (is_sent_as f id w)) t.list in
    subst (λ (x : Watching). count (is_busy from) x.list ≤ 1) (sym is) (omega (arith, le, most))
busy_goes t u (sends now id n capacity notifies) from most =
    let le = fewer_after (is_busy from) now t.list notifies.left notifies.gives_up in
    busy_sends now id notifies.left u.list n notifies.sends from (omega (arith, le, most))

pub one_busy : (capacity : ℕ) (t : Watching) → Comes capacity t → (from : Endpoint) → count (is_busy from) t.list ≤ 1
one_busy capacity t (begins _ is) from = subst (λ (x : Watching). count (is_busy from) x.list ≤ 1) (sym is) (omega arith)
one_busy capacity u (goes_on t _ before goes) from = busy_goes t u goes from (one_busy capacity t before from)

-- ---- at most one observer has an endpoint and a token

pair_sends : (now id : ℕ) (ws us : List Observer) (n : Option Notice) → Sends now id ws n us → (from : Endpoint) (token : List ℕ)
    → count (is_pair from token) us ≤ count (is_pair from token) ws
pair_sends now id ws _ _ (same w s m us found plain was notice is) from token =
    subst (λ (vs : List Observer). count (is_pair from token) vs ≤ count (is_pair from token) ws) (sym is)
    (count_first_other (is_pair from token) (is_due now) (resent now) ws w found (λ e. e))
pair_sends now id ws _ _ (newer w m us found marked_one notice is) from token =
    subst (λ (vs : List Observer). count (is_pair from token) vs ≤ count (is_pair from token) ws) (sym is)
    (count_first_other (is_pair from token) (is_due now) (renewed now id) ws w found (λ e. e))
pair_sends now id ws _ _ (first w m us none_due found notice is) from token =
    subst (λ (vs : List Observer). count (is_pair from token) vs ≤ count (is_pair from token) ws) (sym is)
    (count_first_other (is_pair from token) (is_sendable ws) (notified now id) ws w found (λ e. e))
pair_sends now id ws _ _ (nothing us none_due none_free is) from token =
    subst (λ (vs : List Observer). count (is_pair from token) vs ≤ count (is_pair from token) ws) (sym is) (omega arith)

new_pair : (t : Watching) (f from : Endpoint) (name token : List ℕ) (target : ℕ) → find (is_pair f name) t.list ≡ None
    → count (is_pair from token) t.list ≤ 1 → count (is_pair from token) (t.list ++ newcomer f name target ∷ []) ≤ 1
new_pair t f from name token target absent most = elim (cases_Bool (is_pair from token (newcomer f name target))) [
  | inl is ↦
      let h = both (is_same_endpoint from f) (bytes_eq token name) is in
      let end = same_endpoint from f h.0 in
      let word = same_token token name h.1 in
      let nobody_is = none_passes (is_pair f name) t.list absent in
      let nobody_here : list_any (is_pair from token) t.list ≡ false =
      subst (λ (e : Endpoint). list_any (is_pair e token) t.list ≡ false) (sym end)
      (subst (λ (x : List ℕ). list_any (is_pair f x) t.list ≡ false) (sym word) nobody_is) in
      let zero_here = none_counted (is_pair from token) t.list nobody_here in
      let le = count_push (is_pair from token) t.list (newcomer f name target) in
      omega (arith, le, zero_here)
  | inr other ↦
      let le = count_push_other (is_pair from token) t.list (newcomer f name target) other in
      omega (arith, le, most)
]

pub pair_goes : (t u : Watching) → Goes Any t u → (from : Endpoint) (token : List ℕ) → count (is_pair from token) t.list ≤ 1
    → count (is_pair from token) u.list ≤ 1
pair_goes t u (registers f name target (Replaced n) may reg) from token most =
    let le = count_map (is_pair from token) (where_so (is_pair f name) (replaced target))
    (λ w. where_weaker (is_pair from token) (is_pair f name) (replaced target) w (λ e. e)) t.list in
    subst (λ (x : Watching). count (is_pair from token) x.list ≤ 1) (sym reg.1) (omega (arith, le, most))
pair_goes t u (registers f name target (New n) may reg) from token most =
    subst (λ (x : Watching). count (is_pair from token) x.list ≤ 1) (sym reg.3) (new_pair t f from name token target reg.0 most)
pair_goes t u (registers f name target Full may reg) from token most = subst (λ (x : Watching). count (is_pair from token) x.list ≤ 1) (sym reg.2) most
pair_goes t u (cancels f name is) from token most =
    let le = count_filter (is_pair from token) (λ w. not (is_pair f name w)) t.list in
    subst (λ (x : Watching). count (is_pair from token) x.list ≤ 1) (sym is) (omega (arith, le, most))
pair_goes t u (emits target is) from token most =
    let le = count_map (is_pair from token) (where_so (is_of_target target) marked)
    (λ w. where_weaker (is_pair from token) (is_of_target target) marked w (λ e. e)) t.list in
    subst (λ (x : Watching). count (is_pair from token) x.list ≤ 1) (sym is) (omega (arith, le, most))
pair_goes t u (acknowledges f id is) from token most =
    let le = count_map (is_pair from token) (where_so (is_sent_as f id) acknowledged)
    (λ w. where_weaker (is_pair from token) (is_sent_as f id) acknowledged w (λ e. e)) t.list in
    subst (λ (x : Watching). count (is_pair from token) x.list ≤ 1) (sym is) (omega (arith, le, most))
pair_goes t u (rejects f id is) from token most =
    let le = count_filter (is_pair from token) (λ w. not (is_sent_as f id w)) t.list in
    subst (λ (x : Watching). count (is_pair from token) x.list ≤ 1) (sym is) (omega (arith, le, most))
pair_goes t u (sends now id n capacity notifies) from token most =
    let le = fewer_after (is_pair from token) now t.list notifies.left notifies.gives_up in
    let kept = pair_sends now id notifies.left u.list n notifies.sends from token in
    omega (arith, le, kept, most)

pub one_pair : (capacity : ℕ) (t : Watching) → Comes capacity t → (from : Endpoint) (token : List ℕ) → count (is_pair from token) t.list ≤ 1
one_pair capacity t (begins _ is) from token = subst (λ (x : Watching). count (is_pair from token) x.list ≤ 1) (sym is) (omega arith)
one_pair capacity u (goes_on t _ before goes) from token = pair_goes t u goes from token (one_pair capacity t before from token)

-- ---- one that isn't registered

pub own_pair : (w : Observer) → is_pair w.from w.token w ≡ true
own_pair w = ap (λ (b : Bool). b && bytes_eq w.token w.token) (itself w.from) ∙ own_token w.token

pub forgotten : (capacity : ℕ) (t : Watching) (from : Endpoint) (id : ℕ) (w : Observer) → Comes capacity t → find (is_sent_as from id) t.list ≡ Some w
    → IsAbsent w.from w.token (with_reset from id t)
forgotten capacity t from id w comes found =
    gone_once (is_pair w.from w.token) (is_sent_as from id) t.list w found (own_pair w) (one_pair capacity t comes w.from w.token)

absent_sends : (now id : ℕ) (ws us : List Observer) (n : Option Notice) → Sends now id ws n us → (from : Endpoint) (token : List ℕ)
    → list_any (is_pair from token) ws ≡ false → list_any (is_pair from token) us ≡ false
absent_sends now id ws _ _ (same w s m us found plain was notice is) from token absent =
    subst (λ (vs : List Observer). list_any (is_pair from token) vs ≡ false) (sym is)
    (any_first (is_pair from token) (is_due now) (resent now) (λ v. refl) ws ∙ absent)
absent_sends now id ws _ _ (newer w m us found marked_one notice is) from token absent =
    subst (λ (vs : List Observer). list_any (is_pair from token) vs ≡ false) (sym is)
    (any_first (is_pair from token) (is_due now) (renewed now id) (λ v. refl) ws ∙ absent)
absent_sends now id ws _ _ (first w m us none_due found notice is) from token absent =
    subst (λ (vs : List Observer). list_any (is_pair from token) vs ≡ false) (sym is)
    (any_first (is_pair from token) (is_sendable ws) (notified now id) (λ v. refl) ws ∙ absent)
absent_sends now id ws _ _ (nothing us none_due none_free is) from token absent =
    subst (λ (vs : List Observer). list_any (is_pair from token) vs ≡ false) (sym is) absent

pub stays_absent : (from : Endpoint) (token : List ℕ) (t u : Watching) → IsAbsent from token t
    → Goes (λ end name. (is_same_endpoint from end && bytes_eq token name) ≡ false) t u → IsAbsent from token u
stays_absent from token t u absent (registers f name target (Replaced n) other reg) =
    subst (λ (x : Watching). IsAbsent from token x) (sym reg.1)
    (any_map (is_pair from token) (where_so (is_pair f name) (replaced target))
    (λ w. where_same (is_pair from token) (is_pair f name) (replaced target) w refl) t.list ∙ absent)
stays_absent from token t u absent (registers f name target (New n) other reg) =
    subst (λ (x : Watching). IsAbsent from token x) (sym reg.3) (any_push (is_pair from token) t.list (newcomer f name target) absent other)
stays_absent from token t u absent (registers f name target Full other reg) = subst (λ (x : Watching). IsAbsent from token x) (sym reg.2) absent
stays_absent from token t u absent (cancels f name is) =
    subst (λ (x : Watching). IsAbsent from token x) (sym is) (any_filter (is_pair from token) (λ w. not (is_pair f name w)) t.list absent)
stays_absent from token t u absent (emits target is) =
    subst (λ (x : Watching). IsAbsent from token x) (sym is)
    (any_map (is_pair from token) (where_so (is_of_target target) marked)
    (λ w. where_same (is_pair from token) (is_of_target target) marked w refl) t.list ∙ absent)
stays_absent from token t u absent (acknowledges f id is) =
    subst (λ (x : Watching). IsAbsent from token x) (sym is)
    (any_map (is_pair from token) (where_so (is_sent_as f id) acknowledged)
    (λ w. where_same (is_pair from token) (is_sent_as f id) acknowledged w refl) t.list ∙ absent)
stays_absent from token t u absent (rejects f id is) =
    subst (λ (x : Watching). IsAbsent from token x) (sym is) (any_filter (is_pair from token) (λ w. not (is_sent_as f id w)) t.list absent)
stays_absent from token t u absent (sends now id n capacity notifies) =
    absent_sends now id notifies.left u.list n notifies.sends from token
    (absent_after (is_pair from token) now t.list notifies.left notifies.gives_up absent)

not_for : (from : Endpoint) (token : List ℕ) (w : Observer) (id sequence : ℕ) (fresh : Bool) (n : Notice) → IsNotification w id sequence fresh n
    → is_pair from token w ≡ false → is_for from token n ≡ false
not_for from token w id sequence fresh n notice other =
    ap (λ (e : Endpoint). is_same_endpoint from e && bytes_eq token (take n.token_length n.token)) notice.to
    ∙ ap (λ (x : List ℕ). is_same_endpoint from w.from && bytes_eq token x) notice.token ∙ other

pub unsent : (now id : ℕ) (ws us : List Observer) (o : Option Notice) → Sends now id ws o us → (from : Endpoint) (token : List ℕ) (n : Notice)
    → list_any (is_pair from token) ws ≡ false → o ≡ Some n → is_for from token n ≡ false
unsent now id ws _ _ (same w s m us found plain was notice is) from token n absent e =
    let it : m ≡ n = (cc) in
    subst (λ (x : Notice). is_for from token x ≡ false) it
    (not_for from token w s.id w.sequence false m notice (found_fails (is_pair from token) (is_due now) ws w found absent))
unsent now id ws _ _ (newer w m us found marked_one notice is) from token n absent e =
    let it : m ≡ n = (cc) in
    subst (λ (x : Notice). is_for from token x ≡ false) it
    (not_for from token w id _ true m notice (found_fails (is_pair from token) (is_due now) ws w found absent))
unsent now id ws _ _ (first w m us none_due found notice is) from token n absent e =
    let it : m ≡ n = (cc) in
    subst (λ (x : Notice). is_for from token x ≡ false) it
    (not_for from token w id _ true m notice (found_fails (is_pair from token) (is_sendable ws) ws w found absent))
unsent now id ws _ _ (nothing us none_due none_free is) from token n absent e = absurd (cc)

pub nothing_for : (from : Endpoint) (token : List ℕ) (t : Watching) (now id : ℕ) (n : Notice) (us : List Observer) → IsAbsent from token t
    → Notifies now id t.list (Some n) us → is_for from token n ≡ false
nothing_for from token t now id n us absent notifies =
    unsent now id notifies.left us (Some n) notifies.sends from token n
    (absent_after (is_pair from token) now t.list notifies.left notifies.gives_up absent) refl
