-- The number of times that a notification is sent that nothing answers.
use Rattle.std.proofs.Common.{◌≡◌, ℕ, ◌+◌, ◌≤◌, ◌&&◌, Bool, true, false, not, cond, List, [], ◌∷◌, ◌++◌, map, find, Option, Some, None, is_some, option_map, refl, sym, ap, subst, ◌∙◌, arith, inl, inr, ◌⊎◌}
use Rattle.std.specs.Prelude.{◌==◌, nat_le, option_and_then, if◌then◌else◌}
use Rattle.std.specs.List.{filter, list_any}
use Rattle.std.specs.Option.{option_or}
use Rattle.std.specs.Str.{bytes_eq}
use Rattle.std.proofs.lemmas.Bool.{cases_Bool}
use Rattle.std.proofs.lemmas.Bool.Decides.{nat_tests}
use Rattle.std.proofs.lemmas.List.Folds.{find-append}
use Rattle.coap_msg.specs.declared.endpoint.Endpoint.{Endpoint}
use Rattle.coap_msg.specs.Endpoints.{is_same_endpoint}
use Rattle.coap_msg.proofs.SameEndpoints.{both, same_endpoint, itself}
use Rattle.coap_observe.specs.declared.observer.Observer.{Observer}
use Rattle.coap_observe.specs.declared.notice.Registered.TheVariants.{New, Replaced, Full}
use Rattle.coap_observe.specs.declared.notice.Notice.{Notice}
use Rattle.coap_observe.specs.Sending.{Sent, sent_again}
use Rattle.coap_observe.specs.Watching.{Watching, next_sequence, is_from, is_pair, is_busy, is_named, is_sent_as, is_of_target, is_due, is_spent, is_given_up, given_up_endpoint, is_sendable, newcomer, replaced, marked, acknowledged, resent, renewed, notified, where_so, with_first, hopeless, GivesUp, nobody, endpoint, IsNotification, Sends, same, newer, first, nothing, Notifies}
use Rattle.coap_observe.specs.Laws.{Goes, registers, cancels, emits, acknowledges, rejects, sends, Any, Comes, goes_on, count, is_for, IsUnanswered, count_of, sendings_in, StaysUnanswered, starts, continues, AtMostFiveSendings, SendsTheSame, DueAreGone}
use Rattle.coap_observe.proofs.Counts.{count_filter, any_filter, found_passes, found_fails, none_passes, any_without}
use Rattle.coap_observe.proofs.Found.{past, found_filter, not_found, found_map, found_kept, found_beside, found_changed}
use Rattle.coap_observe.proofs.CallLaws.{where_same, absent_after, fewer_after, one_pair, unsent}
use Rattle.coap_observe.proofs.NumberLaws.{either, kept_after, kept_before}
use Rattle.coap_observe.proofs.Tokens.{same_token, own_token}

-- ---- one that was sent so often

-- its notification isn't acknowledged, and was sent again so often
abbrev HasSent : ℕ → Observer → Type 0
HasSent r w = (s : Sent) × (w.notification ≡ Some s) × (s.retransmissions ≡ r)

-- a fact on a pair: if it is there, its notification was sent again so often, and that is often enough
record Holds (from : Endpoint) (token : List ℕ) (r : ℕ) (ws : List Observer) : Type 0 where
  bound : r ≤ 4
  busy : (w : Observer) → find (is_pair from token) ws ≡ Some w → HasSent r w

pub same_one : (w v : Observer) → Some w ≡ Some v → w ≡ v
same_one w v e = cc

-- the pair is that of an observer
pub pair_is : (from : Endpoint) (token : List ℕ) (w : Observer) → is_pair from token w ≡ true → (from ≡ w.from) × (token ≡ w.token)
pair_is from token w e =
    let h = both (is_same_endpoint from w.from) (bytes_eq token w.token) e in
    (same_endpoint from w.from h.0, same_token token w.token h.1)

not_true : (t : Bool) → (t ≡ true → ⊥) → t ≡ false
not_true true no_way = absurd (no_way refl)
not_true false no_way = refl

-- another pair is another observer's
other_pair : (from end : Endpoint) (token name : List ℕ) (w : Observer) → is_pair from token w ≡ true → (is_same_endpoint from end && bytes_eq token name) ≡ false → is_pair end name w ≡ false
other_pair from end token name w mine other = not_true (is_pair end name w) (λ theirs.
    let a = pair_is from token w mine in
    let b = pair_is end name w theirs in
    let ends : from ≡ end = a.0 ∙ sym b.0 in
    let names : token ≡ name = a.1 ∙ sym b.1 in
    let one : (is_same_endpoint from end && bytes_eq token name) ≡ true
    = subst (λ (x : Endpoint). (is_same_endpoint from x && bytes_eq token name) ≡ true) ends
    (subst (λ (x : List ℕ). (is_same_endpoint from from && bytes_eq token x) ≡ true) names (ap (λ (b : Bool). b && bytes_eq token token) (itself from) ∙ own_token token)) in
    cc)

-- an answer of another endpoint is no answer of its
other_end : (from end : Endpoint) (token : List ℕ) (id : ℕ) (w : Observer) → is_pair from token w ≡ true → is_same_endpoint from end ≡ false → is_sent_as end id w ≡ false
other_end from end token id w mine other = at w.notification
  where
    apart : is_same_endpoint end w.from ≡ false
    apart = not_true (is_same_endpoint end w.from) (λ theirs.
        let a = (pair_is from token w mine).0 ∙ sym (same_endpoint end w.from theirs) in
        let one : is_same_endpoint from end ≡ true = subst (λ (x : Endpoint). is_same_endpoint from x ≡ true) a (itself from) in
        cc)

    at : (o : Option Sent) → is_named end id w.from o ≡ false
    at None = refl
    at (Some n) = false_first (is_same_endpoint end w.from) apart
      where
        false_first : (b : Bool) → b ≡ false → (b && id == n.id) ≡ false
        false_first true e = cc
        false_first false e = refl

-- ---- lists that are changed

unchanged_at : (t : Bool) (f : Observer → Observer) (w : Observer) → t ≡ false → cond t (f w) w ≡ w
unchanged_at true f w e = cc
unchanged_at false f w e = refl

-- a change of others
held_map : (from : Endpoint) (token : List ℕ) (r : ℕ) (p : Observer → Bool) (f : Observer → Observer) (ws : List Observer)
    → ((w : Observer) → is_pair from token (f w) ≡ is_pair from token w) → ((w : Observer) → is_pair from token w ≡ true → HasSent r w → HasSent r (where_so p f w))
    → Holds from token r ws → Holds from token r (map (where_so p f) ws)
held_map from token r p f ws keeps leaves h = record {
  bound = h.bound;
  busy = λ v found. at (find (is_pair from token) ws) refl v
      (sym (found_map (is_pair from token) (where_so p f) (λ w. where_same (is_pair from token) p f w (keeps w)) ws) ∙ found);
}
  where
    at : (o : Option Observer) → find (is_pair from token) ws ≡ o → (v : Observer) → option_map (where_so p f) o ≡ Some v → HasSent r v
    at None e v is = cc
    at (Some w) e v is = subst (HasSent r) (same_one (where_so p f w) v is) (leaves w (found_passes (is_pair from token) ws w e) (h.busy w e))

-- those that are taken away
held_filter : (from : Endpoint) (token : List ℕ) (r : ℕ) (p : Observer → Bool) (ws : List Observer) → count (is_pair from token) ws ≤ 1
    → Holds from token r ws → Holds from token r (filter p ws)
held_filter from token r p ws most h = record {
  bound = h.bound;
  busy = λ v found. elim (either (find (is_pair from token) ws)) [
    | inl some ↦ subst (HasSent r) (sym (found_kept (is_pair from token) p ws some.0 v most some.1 found)) (h.busy some.0 some.1)
    | inr none ↦ absurd (not_found (is_pair from token) (filter p ws) v (any_filter (is_pair from token) p ws (none_passes (is_pair from token) ws none)) found)
  ];
}

-- a newcomer that is another's
held_push : (from : Endpoint) (token : List ℕ) (r : ℕ) (ws : List Observer) (x : Observer) → is_pair from token x ≡ false → Holds from token r ws → Holds from token r (ws ++ x ∷ [])
held_push from token r ws x other h = record {
  bound = h.bound;
  busy = λ v found. at (find (is_pair from token) ws) refl v (sym (find-append (is_pair from token) ws (x ∷ [])) ∙ found);
}
  where
    at : (o : Option Observer) → find (is_pair from token) ws ≡ o → (v : Observer) → option_or o (find (is_pair from token) (x ∷ [])) ≡ Some v → HasSent r v
    at (Some w) e v is = h.busy v (e ∙ is)
    at None e v is = absurd (no_one (sym (past (is_pair from token) x [] other) ∙ is))
      where
        no_one : None ≡ Some v → ⊥
        no_one e' = cc

-- ---- messages that are sent

-- the last that is left isn't given up
served : (now : ℕ) (ws us : List Observer) → GivesUp now ws us → hopeless now us ≡ None
served now _ _ (nobody ws us none is) = ap (hopeless now) is ∙ none
served now _ _ (endpoint from ws us due rest) = served now (filter (λ w. not (is_from from w)) ws) us rest

few_at : (o : Option Observer) (c : Observer) (s : Sent) → o ≡ Some c → option_and_then given_up_endpoint o ≡ None → c.notification ≡ Some s → s.retransmissions + 1 ≤ 4
few_at None c s e none was = cc
few_at (Some d) c s e none was =
    let is : d ≡ c = same_one d c e in
    let spent : is_spent (Some s) ≡ false = ap is_spent (sym was) ∙ ap (λ (x : Observer). is_given_up x) (sym is) ∙ not_spent (is_given_up d) none in
    few s.retransmissions spent
  where
    not_spent : (b : Bool) → cond b (Some d.from) None ≡ None → b ≡ false
    not_spent true e' = cc
    not_spent false e' = refl

    few : (n : ℕ) → nat_le 4 n ≡ false → n + 1 ≤ 4
    few n e' = grind (arith, nat_tests)

-- one that is sent again was sent less than five times
few_sent : (now : ℕ) (ws : List Observer) (c : Observer) (s : Sent) → hopeless now ws ≡ None → find (is_due now) ws ≡ Some c → c.notification ≡ Some s → s.retransmissions + 1 ≤ 4
few_sent now ws c s none found was = few_at (find (is_due now) ws) c s found none was

-- a notification is for the observer that it is made of
pub for_whom : (from : Endpoint) (token : List ℕ) (c : Observer) (id sequence : ℕ) (fresh : Bool) (n : Notice) → IsNotification c id sequence fresh n → is_for from token n ≡ is_pair from token c
for_whom from token c id sequence fresh n notice = λ i. is_same_endpoint from (notice.to i) && bytes_eq token (notice.token i)

-- so many messages go to a pair
abbrev one_if : Bool → ℕ
one_if t = if t then 1 else 0

counted : (from : Endpoint) (token : List ℕ) (m : Notice) (b : Bool) → is_for from token m ≡ b → count_of from token (Some m) ≡ one_if b
counted from token m b e = ap one_if e

-- the one that is due is sent again
again_at : (from : Endpoint) (token : List ℕ) (r now : ℕ) (f : Observer → Observer) (ws us : List Observer) (c : Observer) (m : Notice) (b : Bool)
    → is_pair from token c ≡ b → is_for from token m ≡ is_pair from token c → count (is_pair from token) ws ≤ 1 → hopeless now ws ≡ None → find (is_due now) ws ≡ Some c
    → ((w : Observer) → is_pair from token (f w) ≡ is_pair from token w) → ((w : Observer) → HasSent r w → HasSent (r + 1) (f w)) → us ≡ with_first (is_due now) f ws
    → Holds from token r ws → Holds from token (r + count_of from token (Some m)) us
again_at from token r now f ws us c m true mine whom most none found keeps rises is h =
    let both_are = found_changed (is_pair from token) (is_due now) f ws c found mine (keeps c ∙ mine) most in
    let has = h.busy c both_are.0 in
    let one : count_of from token (Some m) ≡ 1 = counted from token m true (whom ∙ mine) in
    let less = few_sent now ws c has.0 none found has.1 in
    subst (λ n. Holds from token (r + n) us) (sym one) (record {
      bound = omega (arith, less, has.2);
      busy = λ v there.
          subst (HasSent (r + 1)) (same_one (f c) v (sym both_are.1 ∙ subst (λ (vs : List Observer). find (is_pair from token) vs ≡ Some v) is there)) (rises c has);
    })
again_at from token r now f ws us c m false other whom most none found keeps rises is h =
    let stays = found_beside (is_pair from token) (is_due now) f ws c found other (keeps c ∙ other) in
    let zero_one : count_of from token (Some m) ≡ 0 = counted from token m false (whom ∙ other) in
    subst (λ n. Holds from token n us) (sym (ap (λ n. r + n) zero_one ∙ none_more r)) (record {
      bound = h.bound;
      busy = λ v there. h.busy v (sym stays ∙ subst (λ (vs : List Observer). find (is_pair from token) vs ≡ Some v) is there);
    })
  where
    none_more : (n : ℕ) → n + 0 ≡ n
    none_more n = omega arith

rises_once : (g : Sent → Sent) (r : ℕ) (o : Option Sent) → ((s : Sent) → (g s).retransmissions ≡ s.retransmissions + 1) → (s : Sent) → o ≡ Some s → s.retransmissions ≡ r
    → (v : Sent) × (option_map g o ≡ Some v) × (v.retransmissions ≡ r + 1)
rises_once g r o up s was is = (g s, ap (option_map g) was, up s ∙ ap (λ n. n + 1) is)

-- one that waits for an acknowledgement isn't free
not_free : (from : Endpoint) (token : List ℕ) (r : ℕ) (ws : List Observer) (c : Observer) → find (is_pair from token) ws ≡ Some c → HasSent r c → is_sendable ws c ≡ true → ⊥
not_free from token r ws c there has free =
    let idle = free_idle c.is_marked (list_any (is_busy c.from) ws) free in
    let it = found_fails (is_busy c.from) (is_pair from token) ws c there idle in
    let busy : is_busy c.from c ≡ true = ap (λ (o : Option Sent). is_some o && is_same_endpoint c.from c.from) has.1 ∙ itself c.from in
    cc
  where
    free_idle : (a b : Bool) → (a && not b) ≡ true → b ≡ false
    free_idle a true e = absurd (never a e)
      where
        never : (x : Bool) → (x && false) ≡ true → ⊥
        never true e' = cc
        never false e' = cc
    free_idle a false e = refl

held_sends : (from : Endpoint) (token : List ℕ) (r now id : ℕ) (ws us : List Observer) (o : Option Notice) → Sends now id ws o us → hopeless now ws ≡ None
    → count (is_pair from token) ws ≤ 1 → Holds from token r ws → Holds from token (r + count_of from token o) us
held_sends from token r now id ws _ _ (same c s m us found plain was notice is) none most h =
    again_at from token r now (resent now) ws us c m (is_pair from token c) refl (for_whom from token c s.id c.sequence false m notice) most none found (λ w. refl)
    (λ w has. rises_once (λ n. sent_again now n.id n) r w.notification (λ n. refl) has.0 has.1 has.2) is h
held_sends from token r now id ws _ _ (newer c m us found marked_one notice is) none most h =
    again_at from token r now (renewed now id) ws us c m (is_pair from token c) refl (for_whom from token c id (next_sequence c.sequence) true m notice) most none found (λ w. refl)
    (λ w has. rises_once (sent_again now id) r w.notification (λ n. refl) has.0 has.1 has.2) is h
held_sends from token r now id ws _ _ (first c m us none_due found notice is) none most h = elim (cases_Bool (is_pair from token c)) [
  | inl mine ↦
      let both_are = found_changed (is_pair from token) (is_sendable ws) (notified now id) ws c found mine mine most in
      absurd (not_free from token r ws c both_are.0 (h.busy c both_are.0) (found_passes (is_sendable ws) ws c found))
  | inr other ↦
      let stays = found_beside (is_pair from token) (is_sendable ws) (notified now id) ws c found other other in
      let none_sent : count_of from token (Some m) ≡ 0 = counted from token m false (for_whom from token c id (next_sequence c.sequence) true m notice ∙ other) in
      subst (λ n. Holds from token n us) (sym (ap (λ n. r + n) none_sent ∙ none_more r)) (record {
        bound = h.bound;
        busy = λ v there. h.busy v (sym stays ∙ subst (λ (vs : List Observer). find (is_pair from token) vs ≡ Some v) is there);
      })
]
  where
    none_more : (n : ℕ) → n + 0 ≡ n
    none_more n = omega arith
held_sends from token r now id ws _ _ (nothing us none_due none_free is) none most h =
    subst (λ n. Holds from token n us) (sym (none_more r)) (subst (λ (vs : List Observer). Holds from token r vs) (sym is) h)
  where
    none_more : (n : ℕ) → n + 0 ≡ n
    none_more n = omega arith

held_left : (from : Endpoint) (token : List ℕ) (r now : ℕ) (ws us : List Observer) → GivesUp now ws us → count (is_pair from token) ws ≤ 1 → Holds from token r ws → Holds from token r us
held_left from token r now ws us gives most h = record {
  bound = h.bound;
  busy = λ v there. h.busy v (kept_before (is_pair from token) now ws us v gives most there);
}

-- ---- one call, and all

no_more : (from : Endpoint) (token : List ℕ) (r : ℕ) (u : Watching) → Holds from token r u.list → Holds from token (r + 0) u.list
no_more from token r u h = subst (λ n. Holds from token n u.list) (sym (none_more r)) h
  where
    none_more : (n : ℕ) → n + 0 ≡ n
    none_more n = omega arith

held_where : (from : Endpoint) (token : List ℕ) (r : ℕ) (p : Observer → Bool) (f : Observer → Observer) (w : Observer) → p w ≡ false → HasSent r w → HasSent r (where_so p f w)
held_where from token r p f w other has = subst (HasSent r) (sym (unchanged_at (p w) f w other)) has

held_goes : (capacity : ℕ) (from : Endpoint) (token : List ℕ) (r : ℕ) (t u : Watching) → Comes capacity t → (goes : Goes Any t u) → IsUnanswered from token t u goes → Holds from token r t.list
    → Holds from token (r + sendings_in from token t u goes) u.list
held_goes capacity from token r t u comes (registers end name target (Replaced n) may reg) other h =
    no_more from token r u (subst (λ (x : Watching). Holds from token r x.list) (sym reg.1)
    (held_map from token r (is_pair end name) (replaced target) t.list (λ w. refl)
    (λ w mine has. held_where from token r (is_pair end name) (replaced target) w (other_pair from end token name w mine other) has) h))
held_goes capacity from token r t u comes (registers end name target (New n) may reg) other h =
    no_more from token r u (subst (λ (x : Watching). Holds from token r x.list) (sym reg.3) (held_push from token r t.list (newcomer end name target) other h))
held_goes capacity from token r t u comes (registers end name target Full may reg) other h = no_more from token r u (subst (λ (x : Watching). Holds from token r x.list) (sym reg.2) h)
held_goes capacity from token r t u comes (cancels end name is) other h =
    no_more from token r u (subst (λ (x : Watching). Holds from token r x.list) (sym is)
    (held_filter from token r (λ w. not (is_pair end name w)) t.list (one_pair capacity t comes from token) h))
held_goes capacity from token r t u comes (emits target is) other h =
    no_more from token r u (subst (λ (x : Watching). Holds from token r x.list) (sym is)
    (held_map from token r (is_of_target target) marked t.list (λ w. refl) (λ w mine has. marked_at (is_of_target target w) w has) h))
  where
    marked_at : (b : Bool) (w : Observer) → HasSent r w → HasSent r (cond b (marked w) w)
    marked_at true w has = has
    marked_at false w has = has
held_goes capacity from token r t u comes (acknowledges end id is) other h =
    no_more from token r u (subst (λ (x : Watching). Holds from token r x.list) (sym is)
    (held_map from token r (is_sent_as end id) acknowledged t.list (λ w. refl)
    (λ w mine has. held_where from token r (is_sent_as end id) acknowledged w (other_end from end token id w mine other) has) h))
held_goes capacity from token r t u comes (rejects end id is) other h =
    no_more from token r u (subst (λ (x : Watching). Holds from token r x.list) (sym is)
    (held_filter from token r (λ w. not (is_sent_as end id w)) t.list (one_pair capacity t comes from token) h))
held_goes capacity from token r t u comes (sends now id n same_capacity notifies) other h =
    let most = one_pair capacity t comes from token in
    let le = fewer_after (is_pair from token) now t.list notifies.left notifies.gives_up in
    held_sends from token r now id notifies.left u.list n notifies.sends (served now t.list notifies.left notifies.gives_up) (omega (arith, le, most))
    (held_left from token r now t.list notifies.left notifies.gives_up most h)

still_comes : (capacity : ℕ) (from : Endpoint) (token : List ℕ) (before : Watching) (n : ℕ) (u : Watching) → Comes capacity before → StaysUnanswered from token before n u → Comes capacity u
still_comes capacity from token before n u comes (starts t is) = subst (Comes capacity) (sym is) comes
still_comes capacity from token before n u comes (continues m t v goes stays quiet) = goes_on t v (still_comes capacity from token before m t comes stays) goes

held_from : (capacity : ℕ) (from : Endpoint) (token : List ℕ) (before : Watching) (n : ℕ) (u : Watching) → Comes capacity before → StaysUnanswered from token before n u
    → Holds from token 0 before.list → Holds from token n u.list
held_from capacity from token before n u comes (starts t is) h = subst (λ (x : Watching). Holds from token 0 x.list) (sym is) h
held_from capacity from token before n u comes (continues m t v goes stays quiet) h =
    held_goes capacity from token m t v (still_comes capacity from token before m t comes stays) goes quiet (held_from capacity from token before m t comes stays h)

pub at_most_five : AtMostFiveSendings
at_most_five capacity n t u from token w s comes there was once stays =
    (held_from capacity from token t n u comes stays (record {
      bound = omega arith;
      busy = λ v found. (s, ap (λ (x : Observer). x.notification) (same_one v w (sym found ∙ there)) ∙ was, once);
    })).bound

-- ---- messages that are sent again

made_of : (from : Endpoint) (token : List ℕ) (ws : List Observer) (w c : Observer) (p : Observer → Bool) (f : Observer → Observer) → find p ws ≡ Some c → find (is_pair from token) ws ≡ Some w
    → is_pair from token c ≡ true → count (is_pair from token) ws ≤ 1 → ((x : Observer) → is_pair from token (f x) ≡ is_pair from token x) → c ≡ w
made_of from token ws w c p f found there mine most keeps =
    same_one c w (sym (found_changed (is_pair from token) p f ws c found mine (keeps c ∙ mine) most).0 ∙ there)

same_sends : (from : Endpoint) (token : List ℕ) (now id : ℕ) (ws us : List Observer) (w : Observer) (s : Sent) (o : Option Notice) → Sends now id ws o us → (n : Notice) → o ≡ Some n
    → find (is_pair from token) ws ≡ Some w → w.notification ≡ Some s → is_for from token n ≡ true → count (is_pair from token) ws ≤ 1
    → ((w.is_marked ≡ false) × IsNotification w s.id w.sequence false n) ⊎ ((w.is_marked ≡ true) × IsNotification w id (next_sequence w.sequence) true n)
same_sends from token now id ws _ w s _ (same c q m us found plain was notice is) n e there has whom most =
    let one : m ≡ n = (cc) in
    let at : IsNotification c q.id c.sequence false n = subst (λ (x : Notice). IsNotification c q.id c.sequence false x) one notice in
    let mine = sym (for_whom from token c q.id c.sequence false n at) ∙ whom in
    let it : c ≡ w = made_of from token ws w c (is_due now) (resent now) found there mine most (λ x. refl) in
    let sent : q ≡ s = same_sent q s (sym was ∙ ap (λ (x : Observer). x.notification) it ∙ has) in
    inl (sym (ap (λ (x : Observer). x.is_marked) it) ∙ plain, subst (λ (x : Observer). IsNotification x s.id x.sequence false n) it (subst (λ (x : Sent). IsNotification c x.id c.sequence false n) sent at))
  where
    same_sent : (a b : Sent) → Some a ≡ Some b → a ≡ b
    same_sent a b e' = cc
same_sends from token now id ws _ w s _ (newer c m us found marked_one notice is) n e there has whom most =
    let one : m ≡ n = (cc) in
    let at : IsNotification c id (next_sequence c.sequence) true n = subst (λ (x : Notice). IsNotification c id (next_sequence c.sequence) true x) one notice in
    let mine = sym (for_whom from token c id (next_sequence c.sequence) true n at) ∙ whom in
    let it : c ≡ w = made_of from token ws w c (is_due now) (renewed now id) found there mine most (λ x. refl) in
    inr (sym (ap (λ (x : Observer). x.is_marked) it) ∙ marked_one, subst (λ (x : Observer). IsNotification x id (next_sequence x.sequence) true n) it at)
same_sends from token now id ws _ w s _ (first c m us none_due found notice is) n e there has whom most =
    let one : m ≡ n = (cc) in
    let at : IsNotification c id (next_sequence c.sequence) true n = subst (λ (x : Notice). IsNotification c id (next_sequence c.sequence) true x) one notice in
    let mine = sym (for_whom from token c id (next_sequence c.sequence) true n at) ∙ whom in
    let it : c ≡ w = made_of from token ws w c (is_sendable ws) (notified now id) found there mine most (λ x. refl) in
    absurd (not_free from token s.retransmissions ws w there (s, has, refl) (subst (λ (x : Observer). is_sendable ws x ≡ true) it (found_passes (is_sendable ws) ws c found)))
same_sends from token now id ws _ w s _ (nothing us none_due none_free is) n e there has whom most = absurd (cc)

pub sends_the_same : SendsTheSame
sends_the_same capacity now id t from token w s n us comes there was notifies whom =
    let most = one_pair capacity t comes from token in
    let le = fewer_after (is_pair from token) now t.list notifies.left notifies.gives_up in
    elim (either (find (is_pair from token) notifies.left)) [
      | inl some ↦
          let it = kept_after (is_pair from token) now t.list notifies.left notifies.gives_up w some.0 most there some.1 in
          same_sends from token now id notifies.left us w s (Some n) notifies.sends n refl (some.1 ∙ ap (λ (x : Observer). Some x) it) was whom (omega (arith, le, most))
      | inr none ↦ absurd (nobody_there n notifies none whom)
    ]
  where
    nobody_there : (m : Notice) (sent : Notifies now id t.list (Some m) us) → find (is_pair from token) sent.left ≡ None → is_for from token m ≡ true → ⊥
    nobody_there m sent none for_it =
        let other = unsent now id sent.left us (Some m) sent.sends from token m (none_passes (is_pair from token) sent.left none) refl in
        cc

-- ---- notifications that are due

due_gone : (from : Endpoint) (token : List ℕ) (now : ℕ) (w : Observer) (ws us : List Observer) → GivesUp now ws us → find (is_pair from token) ws ≡ Some w → is_due now w ≡ true
    → count (is_pair from token) ws ≤ 1 → find (is_due now) us ≡ None → list_any (is_from from) us ≡ false
due_gone from token now w _ _ (nobody ws us none is) there due most idle =
    let fails = found_fails (is_due now) (is_pair from token) ws w there (none_passes (is_due now) ws (subst (λ (vs : List Observer). find (is_due now) vs ≡ None) is idle)) in
    cc
due_gone from token now w _ _ (endpoint other ws us first_due rest) there due most idle = elim (cases_Bool (is_from other w)) [
  | inl theirs ↦
      let mine = (pair_is from token w (found_passes (is_pair from token) ws w there)).0 in
      let one : other ≡ from = same_endpoint other w.from theirs ∙ sym mine in
      subst (λ (x : Endpoint). list_any (is_from x) us ≡ false) one (absent_after (is_from other) now (filter (λ v. not (is_from other v)) ws) us rest (any_without (is_from other) ws))
  | inr not_theirs ↦
      let le = count_filter (is_pair from token) (λ v. not (is_from other v)) ws in
      due_gone from token now w (filter (λ v. not (is_from other v)) ws) us rest
      (found_filter (is_pair from token) (λ v. not (is_from other v)) ws w there (ap not not_theirs)) due (omega (arith, le, most)) idle
]

idle_after : (now id : ℕ) (ws us : List Observer) (o : Option Notice) → Sends now id ws o us → o ≡ None → (find (is_due now) us ≡ None) × (us ≡ ws)
idle_after now id ws _ _ (same c s m us found plain was notice is) e = absurd (cc)
idle_after now id ws _ _ (newer c m us found marked_one notice is) e = absurd (cc)
idle_after now id ws _ _ (first c m us none_due found notice is) e = absurd (cc)
idle_after now id ws _ _ (nothing us none_due none_free is) e = (ap (find (is_due now)) is ∙ none_due, is)

pub due_are_gone : DueAreGone
due_are_gone capacity now id t from token w us comes there due notifies =
    let idle = idle_after now id notifies.left us None notifies.sends refl in
    subst (λ (vs : List Observer). list_any (is_from from) vs ≡ false) (sym idle.1)
    (due_gone from token now w t.list notifies.left notifies.gives_up there due (one_pair capacity t comes from token)
    (subst (λ (vs : List Observer). find (is_due now) vs ≡ None) idle.1 idle.0))
