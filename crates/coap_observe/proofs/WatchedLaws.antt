-- The effect of each call on observers, by its effect on their places, and their invariant.
use Rattle.std.proofs.Common.{◌≡◌, ◌<◌, ◌≤◌, ◌==◌, ◌&&◌, ◌||◌, ℕ, Bool, true, false, not, cond, List, [], ◌∷◌, ◌++◌, length, map, find, Option, Some, None, is_some, option_map, inl, inr, ◌∙◌, sym, refl, ap, subst, arith}
use Rattle.std.specs.List.{filter, list_any}
use Rattle.std.proofs.lemmas.Bool.{cases_Bool}
use Rattle.std.proofs.lemmas.List.{length-map, map-append}
use Rattle.coap_msg.specs.declared.endpoint.Endpoint.{Endpoint}
use Rattle.coap_msg.specs.Endpoints.{is_same_endpoint}
use Rattle.coap_msg.proofs.SameEndpoints.{both, same_endpoint}
use Rattle.coap_observe.specs.declared.observer.Observer.{Observer}
use Rattle.coap_observe.specs.declared.observer.SoughtObserver.TheVariants.{SentAs, Marked}
use Rattle.coap_observe.specs.declared.notice.Registered.TheVariants.{New, Replaced, Full}
use Rattle.coap_observe.specs.Sending.{Sent}
use Rattle.coap_observe.specs.Laws.{Goes, registers, acknowledges, Any}
use Rattle.coap_observe.specs.Places.{Place, Places, observers_in, IsAt, with_change, with_changes, without_slot, IsAdded, Finds, is_wanted}
use Rattle.coap_observe.specs.Watched.{NoneDueBefore, AreWatched}
use Rattle.coap_observe.specs.Watching.{Watching, next_sequence, newcomer, replaced, marked, acknowledged, where_so, is_from, is_pair, is_named, is_sent_as, is_busy, is_of_target, is_due, is_sendable, Registers, without_pair, with_emission, with_acknowledgement, with_reset}
use Rattle.coap_observe.proofs.CallLaws.{busy_goes, pair_goes}
use Rattle.coap_observe.proofs.Counts.{count_weaker, any_push, any_map}
use Rattle.coap_observe.proofs.PlaceLaws.{wanted_is_from}
use Rattle.coap_observe.proofs.ViewLaws.{found_any, none_found, changed_unique, removed_unique, found_unique, changed_all, all_stay}

-- the observers that are seen of places
abbrev pub seen : Places → Watching
seen p = record { capacity = p.capacity; list = observers_in p }

abbrev with_list : ℕ → List Observer → Watching
with_list n ws = record { capacity = n; list = ws }

-- ---- the invariant

pub watched_goes : (t u : Watching) (before after : ℕ) → AreWatched t.list before → Goes Any t u → NoneDueBefore after u.list
    → (0 < after → list_any (is_sendable u.list) u.list ≡ false) → AreWatched u.list after
watched_goes t u before after w goes due free = record {
  pairs = λ from token. pair_goes t u goes from token (w.pairs from token);
  one = λ from. busy_goes t u goes from (w.one from);
  none_due = due;
  none_free = free;
}

-- where it must be looked at anew
pub watched_anew : (t u : Watching) (before : ℕ) → AreWatched t.list before → Goes Any t u → AreWatched u.list 0
watched_anew t u before w goes = watched_goes t u before 0 w goes (λ now h. absurd (omega arith)) (λ h. absurd (omega arith))

-- messages that were sent to few are one message that is sent to few
sent_is_busy : (from : Endpoint) (id : ℕ) (w : Observer) → is_sent_as from id w ≡ true → is_busy from w ≡ true
sent_is_busy from id w e = at w.notification e
  where
    at : (n : Option Sent) → is_named from id w.from n ≡ true → (is_some n && is_same_endpoint from w.from) ≡ true
    at None e = absurd cc
    at (Some s) e = (both (is_same_endpoint from w.from) (id == s.id) e).0

pub few_sent : (ws : List Observer) (quiet : ℕ) (from : Endpoint) (id : ℕ) → AreWatched ws quiet → length (filter (is_sent_as from id) ws) ≤ 1
few_sent ws quiet from id w = omega (arith, count_weaker (is_sent_as from id) (is_busy from) (sent_is_busy from id) ws, w.one from)

-- ---- registrations

pub replaces : (from : Endpoint) (token : List ℕ) (target : ℕ) (p p2 : Places) (slot quiet number : ℕ) → AreWatched (observers_in p) quiet
    → Finds (is_pair from token) p (Some slot) → p2 ≡ with_change slot (replaced target) p → ((q : Place) → IsAt slot q p → number ≡ next_sequence q.observer.sequence)
    → Registers from token target (seen p) (Replaced number) (seen p2)
replaces from token target p p2 slot quiet number w found is counted =
    let few : length (filter (is_pair from token) (observers_in p)) ≤ 1 = w.pairs from token in
    let there : find (is_pair from token) (observers_in p) ≡ Some found.0.observer = found_unique (is_pair from token) p slot found.0 found.1 found.2 few in
    let list : observers_in p2 ≡ map (where_so (is_pair from token) (replaced target)) (observers_in p)
    = ap observers_in is ∙ changed_unique (is_pair from token) (replaced target) p slot found.0 found.1 found.2 few in
    let room : p2.capacity ≡ p.capacity = ap (λ (z : Places). z.capacity) is in (
      ap (option_map (λ (v : Observer). next_sequence v.sequence)) there ∙ ap (λ n. Some n) (sym (counted found.0 found.1)),
      λ i. record { capacity = room i; list = list i },
    )

pub adds : (from : Endpoint) (token : List ℕ) (target : ℕ) (p p2 : Places) → Finds (is_pair from token) p None → IsAdded (newcomer from token target) p true p2
    → Registers from token target (seen p) (New 0) (seen p2)
adds from token target p p2 none added =
    let count : length (observers_in p) ≡ length p.list = length-map p.list (λ (q : Place). q.observer) in
    let list : observers_in p2 ≡ observers_in p ++ newcomer from token target ∷ []
    = ap observers_in added.1.1 ∙ map-append (λ (q : Place). q.observer) p.list (record { slot = added.1.0; observer = newcomer from token target } ∷ []) in
    let room : p2.capacity ≡ p.capacity = ap (λ (z : Places). z.capacity) added.1.1 in
    (none_found (is_pair from token) (observers_in p) none, omega (arith, added.0), refl, λ i. record { capacity = room i; list = list i })

pub is_full : (from : Endpoint) (token : List ℕ) (target : ℕ) (p p2 : Places) → Finds (is_pair from token) p None → IsAdded (newcomer from token target) p false p2
    → Registers from token target (seen p) Full (seen p2)
is_full from token target p p2 none full =
    let count : length (observers_in p) ≡ length p.list = length-map p.list (λ (q : Place). q.observer) in
    (none_found (is_pair from token) (observers_in p) none, omega (arith, full.0), ap seen full.1)

-- a new observer is neither due nor free
free_beside : (ws : List Observer) (n w : Observer) → n.notification ≡ None → is_sendable (ws ++ n ∷ []) w ≡ is_sendable ws w
free_beside ws n w idle = ap (λ b. w.is_marked && not b) (busy_beside ws)
  where
    busy_beside : (vs : List Observer) → list_any (is_busy w.from) (vs ++ n ∷ []) ≡ list_any (is_busy w.from) vs
    busy_beside [] = ap (λ (o : Option Sent). (is_some o && is_same_endpoint w.from n.from) || false) idle
    busy_beside (v ∷ vs) = ap (λ b. is_busy w.from v || b) (busy_beside vs)

any_agrees : (p q : Observer → Bool) → ((w : Observer) → p w ≡ q w) → (ws : List Observer) → list_any p ws ≡ list_any q ws
any_agrees p q h [] = refl
any_agrees p q h (w ∷ ws) = λ i. h w i || any_agrees p q h ws i

pub watched_with : (from : Endpoint) (token : List ℕ) (target : ℕ) (t u : Watching) (n quiet : ℕ) → AreWatched t.list quiet → Registers from token target t (New n) u
    → AreWatched u.list quiet
watched_with from token target t u n quiet w reg =
    let list : u.list ≡ t.list ++ newcomer from token target ∷ [] = ap (λ (z : Watching). z.list) reg.3 in
    watched_goes t u quiet quiet w (registers from token target (New n) refl reg)
    (λ now before. ap (list_any (is_due now)) list ∙ any_push (is_due now) t.list (newcomer from token target) (w.none_due now before) refl)
    (λ some. ap (λ l. list_any (is_sendable l) l) list
    ∙ any_push (is_sendable (t.list ++ newcomer from token target ∷ [])) t.list (newcomer from token target)
    (any_agrees (is_sendable (t.list ++ newcomer from token target ∷ [])) (is_sendable t.list) (λ v. free_beside t.list (newcomer from token target) v refl) t.list ∙ w.none_free some) refl)

pub watched_if_room : (from : Endpoint) (token : List ℕ) (target : ℕ) (p p2 : Places) (b : Bool) (quiet : ℕ) → AreWatched (observers_in p) quiet → Finds (is_pair from token) p None
    → IsAdded (newcomer from token target) p b p2 → AreWatched (observers_in p2) quiet
watched_if_room from token target p p2 true quiet w none added = watched_with from token target (seen p) (seen p2) 0 quiet w (adds from token target p p2 none added)
watched_if_room from token target p p2 false quiet w none added = subst (λ (z : Places). AreWatched (observers_in z) quiet) (sym added.1) w

-- ---- observers that are taken away

takes_away : (test : Observer → Bool) (p p2 : Places) (slot : ℕ) → length (filter test (observers_in p)) ≤ 1 → Finds test p (Some slot) → p2 ≡ without_slot slot p
    → seen p2 ≡ with_list p.capacity (filter (λ w. not (test w)) (observers_in p))
takes_away test p p2 slot few found is =
    let list : observers_in p2 ≡ filter (λ w. not (test w)) (observers_in p) = ap observers_in is ∙ removed_unique test p slot found.0 found.1 found.2 few in
    let room : p2.capacity ≡ p.capacity = ap (λ (z : Places). z.capacity) is in
    λ i. record { capacity = room i; list = list i }

leaves : (test : Observer → Bool) (p : Places) → Finds test p None → seen p ≡ with_list p.capacity (filter (λ w. not (test w)) (observers_in p))
leaves test p none = ap (with_list p.capacity) (sym (all_stay test (observers_in p) none))

pub found_one : (test : Observer → Bool) (p : Places) (slot quiet : ℕ) → length (filter test (observers_in p)) ≤ 1 → Finds test p (Some slot) → true ≡ list_any test (observers_in p)
found_one test p slot quiet few found = sym (found_any test (observers_in p) found.0.observer (found_unique test p slot found.0 found.1 found.2 few))

pub cancels_one : (from : Endpoint) (token : List ℕ) (p p2 : Places) (slot quiet : ℕ) → AreWatched (observers_in p) quiet → Finds (is_pair from token) p (Some slot)
    → p2 ≡ without_slot slot p → seen p2 ≡ without_pair from token (seen p)
cancels_one from token p p2 slot quiet w found is = takes_away (is_pair from token) p p2 slot (w.pairs from token) found is

pub cancels_none : (from : Endpoint) (token : List ℕ) (p : Places) → Finds (is_pair from token) p None → seen p ≡ without_pair from token (seen p)
cancels_none from token p none = leaves (is_pair from token) p none

pub resets_one : (from : Endpoint) (id : ℕ) (p p2 : Places) (slot quiet : ℕ) → AreWatched (observers_in p) quiet → Finds (is_sent_as from id) p (Some slot)
    → p2 ≡ without_slot slot p → seen p2 ≡ with_reset from id (seen p)
resets_one from id p p2 slot quiet w found is = takes_away (is_sent_as from id) p p2 slot (few_sent (observers_in p) quiet from id w) found is

pub resets_none : (from : Endpoint) (id : ℕ) (p : Places) → Finds (is_sent_as from id) p None → seen p ≡ with_reset from id (seen p)
resets_none from id p none = leaves (is_sent_as from id) p none

-- ---- emissions

pub emits_all : (target : ℕ) (p p2 : Places) → p2 ≡ with_changes (where_so (is_of_target target) marked) p → seen p2 ≡ with_emission target (seen p)
emits_all target p p2 is =
    let list : observers_in p2 ≡ map (where_so (is_of_target target) marked) (observers_in p)
    = ap observers_in is ∙ changed_all (where_so (is_of_target target) marked) p in
    let room : p2.capacity ≡ p.capacity = ap (λ (z : Places). z.capacity) is in
    λ i. record { capacity = room i; list = list i }

-- ---- acknowledgements

pub acknowledges_one : (from : Endpoint) (id : ℕ) (p p2 : Places) (slot quiet : ℕ) → AreWatched (observers_in p) quiet → Finds (is_sent_as from id) p (Some slot)
    → p2 ≡ with_change slot acknowledged p → seen p2 ≡ with_acknowledgement from id (seen p)
acknowledges_one from id p p2 slot quiet w found is =
    let few = few_sent (observers_in p) quiet from id w in
    let list : observers_in p2 ≡ map (where_so (is_sent_as from id) acknowledged) (observers_in p)
    = ap observers_in is ∙ changed_unique (is_sent_as from id) acknowledged p slot found.0 found.1 found.2 few in
    let room : p2.capacity ≡ p.capacity = ap (λ (z : Places). z.capacity) is in
    λ i. record { capacity = room i; list = list i }

unchanged : (test : Observer → Bool) (f : Observer → Observer) (ws : List Observer) → list_any test ws ≡ false → map (where_so test f) ws ≡ ws
unchanged test f [] e = refl
unchanged test f (w ∷ ws) e = at (test w) e (unchanged test f ws)
  where
    at : (b : Bool) → (b || list_any test ws) ≡ false → (list_any test ws ≡ false → map (where_so test f) ws ≡ ws) → cond b (f w) w ∷ map (where_so test f) ws ≡ w ∷ ws
    at true e rec = absurd cc
    at false e rec = ap (λ l. w ∷ l) (rec e)

pub acknowledges_none : (from : Endpoint) (id : ℕ) (p : Places) → Finds (is_sent_as from id) p None → seen p ≡ with_acknowledgement from id (seen p)
acknowledges_none from id p none = ap (with_list p.capacity) (sym (unchanged (is_sent_as from id) acknowledged (observers_in p) none))

-- after an acknowledgement none is due that wasn't, and none is free but of the endpoint
none_mapped : (f : Observer → Observer) (r p q : Observer → Bool) → ((w : Observer) → r (f w) ≡ false → p w ≡ false → q (f w) ≡ false) → (ws : List Observer)
    → list_any r (map f ws) ≡ false → list_any p ws ≡ false → list_any q (map f ws) ≡ false
none_mapped f r p q h [] e g = refl
none_mapped f r p q h (w ∷ ws) e g = at (r (f w)) (p w) (q (f w)) (h w) e g (none_mapped f r p q h ws)
  where
    at : (a b c : Bool) → (a ≡ false → b ≡ false → c ≡ false) → (a || list_any r (map f ws)) ≡ false → (b || list_any p ws) ≡ false
        → (list_any r (map f ws) ≡ false → list_any p ws ≡ false → list_any q (map f ws) ≡ false) → (c || list_any q (map f ws)) ≡ false
    at true b c k e g rec = absurd cc
    at false true c k e g rec = absurd cc
    at false false true k e g rec = let wrong : true ≡ false = k refl refl in absurd cc
    at false false false k e g rec = rec e g

due_after : (from : Endpoint) (id now : ℕ) (w : Observer) → is_due now w ≡ false → is_due now (where_so (is_sent_as from id) acknowledged w) ≡ false
due_after from id now w e = at (is_sent_as from id w) e
  where
    at : (b : Bool) → is_due now w ≡ false → is_due now (cond b (acknowledged w) w) ≡ false
    at true e = refl
    at false e = e

none_due_after : (from : Endpoint) (id now : ℕ) (ws : List Observer) → list_any (is_due now) ws ≡ false → list_any (is_due now) (map (where_so (is_sent_as from id) acknowledged) ws) ≡ false
none_due_after from id now [] e = refl
none_due_after from id now (w ∷ ws) e = at (is_due now w) (is_due now (where_so (is_sent_as from id) acknowledged w)) (due_after from id now w) e (none_due_after from id now ws)
  where
    at : (b c : Bool) → (b ≡ false → c ≡ false) → (b || list_any (is_due now) ws) ≡ false
        → (list_any (is_due now) ws ≡ false → list_any (is_due now) (map (where_so (is_sent_as from id) acknowledged) ws) ≡ false)
        → (c || list_any (is_due now) (map (where_so (is_sent_as from id) acknowledged) ws)) ≡ false
    at true c k e rec = absurd cc
    at false true k e rec = let wrong : true ≡ false = k refl in absurd cc
    at false false k e rec = rec e

busy_same : (from end : Endpoint) (id : ℕ) (w : Observer) → is_same_endpoint from end ≡ false → is_busy end (where_so (is_sent_as from id) acknowledged w) ≡ is_busy end w
busy_same from end id w other = at (is_sent_as from id w) refl
  where
    apart : is_sent_as from id w ≡ true → is_same_endpoint end w.from ≡ false
    apart sent = elim (cases_Bool (is_same_endpoint end w.from)) [
      | inl e ↦
          let one : end ≡ w.from = same_endpoint end w.from e in
          let its : is_same_endpoint from w.from ≡ true = wanted_is_from from (SentAs id) w sent in
          let it : is_same_endpoint from end ≡ true = subst (λ (z : Endpoint). is_same_endpoint from z ≡ true) (sym one) its in
          absurd cc
      | inr e ↦ e
    ]

    never : (b c : Bool) → c ≡ false → false ≡ (b && c)
    never true c e = sym e
    never false c e = refl

    at : (b : Bool) → is_sent_as from id w ≡ b → is_busy end (cond b (acknowledged w) w) ≡ is_busy end w
    at true sent = never (is_some w.notification) (is_same_endpoint end w.from) (apart sent)
    at false sent = refl

free_after : (from : Endpoint) (id : ℕ) (ws : List Observer) (w : Observer)
    → (is_from from (where_so (is_sent_as from id) acknowledged w) && (where_so (is_sent_as from id) acknowledged w).is_marked) ≡ false
    → is_sendable ws w ≡ false → is_sendable (map (where_so (is_sent_as from id) acknowledged) ws) (where_so (is_sent_as from id) acknowledged w) ≡ false
free_after from id ws w unmarked unfree = by (where_so (is_sent_as from id) acknowledged w) (same_mark (is_sent_as from id w)) (same_from (is_sent_as from id w)) unmarked
  where
    same_mark : (b : Bool) → (cond b (acknowledged w) w).is_marked ≡ w.is_marked
    same_mark true = refl
    same_mark false = refl

    same_from : (b : Bool) → (cond b (acknowledged w) w).from ≡ w.from
    same_from true = refl
    same_from false = refl

    at : (b c : Bool) → (c && b) ≡ false → (b && not (list_any (is_busy w.from) ws)) ≡ false → (c ≡ false → list_any (is_busy w.from) (map (where_so (is_sent_as from id) acknowledged) ws) ≡ list_any (is_busy w.from) ws)
        → (b && not (list_any (is_busy w.from) (map (where_so (is_sent_as from id) acknowledged) ws))) ≡ false
    at false c e f stay = refl
    at true true e f stay = absurd cc
    at true false e f stay = ap not (stay refl) ∙ f

    by : (v : Observer) → v.is_marked ≡ w.is_marked → v.from ≡ w.from → (is_from from v && v.is_marked) ≡ false → is_sendable (map (where_so (is_sent_as from id) acknowledged) ws) v ≡ false
    by v mark from_same e =
        (λ i. mark i && not (list_any (is_busy (from_same i)) (map (where_so (is_sent_as from id) acknowledged) ws)))
        ∙ at w.is_marked (is_same_endpoint from w.from) ((λ i. is_same_endpoint from (sym from_same i) && sym mark i) ∙ e) unfree
        (λ other. any_map (is_busy w.from) (where_so (is_sent_as from id) acknowledged) (λ x. busy_same from w.from id x other) ws)

pub watched_acknowledged : (from : Endpoint) (id : ℕ) (p p2 : Places) (slot quiet : ℕ) → AreWatched (observers_in p) quiet → Finds (is_sent_as from id) p (Some slot)
    → p2 ≡ with_change slot acknowledged p → Finds (is_wanted from Marked) p2 None → AreWatched (observers_in p2) quiet
watched_acknowledged from id p p2 slot quiet w found is unmarked =
    let goes : seen p2 ≡ with_acknowledgement from id (seen p) = acknowledges_one from id p p2 slot quiet w found is in
    let list : observers_in p2 ≡ map (where_so (is_sent_as from id) acknowledged) (observers_in p) = ap (λ (t : Watching). t.list) goes in
    let none : list_any (is_wanted from Marked) (map (where_so (is_sent_as from id) acknowledged) (observers_in p)) ≡ false
    = ap (list_any (is_wanted from Marked)) (sym list) ∙ unmarked in
    watched_goes (seen p) (seen p2) quiet quiet w (acknowledges from id goes)
    (λ now before. ap (list_any (is_due now)) list ∙ none_due_after from id now (observers_in p) (w.none_due now before))
    (λ some. ap (λ l. list_any (is_sendable l) l) list
    ∙ none_mapped (where_so (is_sent_as from id) acknowledged) (is_wanted from Marked) (is_sendable (observers_in p))
    (is_sendable (map (where_so (is_sent_as from id) acknowledged) (observers_in p))) (free_after from id (observers_in p)) (observers_in p) none (w.none_free some))
