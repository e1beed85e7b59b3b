-- The deeds that told the observers, call by call.
use Rattle.std.proofs.Common.{◌≡◌, ◌∙◌, ◌≤◌, ℕ, Bool, true, false, cond, List, [], ◌∷◌, ◌++◌, map, filter, find, length, refl, sym, ap, subst, arith, append_assoc}
use Rattle.std.specs.Prelude.{Option, Some, None, ◌==◌, ◌&&◌, All, option_map, unwrap_or}
use Rattle.std.specs.Str.{bytes_eq}
use Rattle.std.proofs.lemmas.Bool.Decides.{nat_tests}
use Rattle.std.proofs.lemmas.Slice.Eq.{bytes_eq-Decides}
use Rattle.std.proofs.lemmas.Option.{same_Some}
use Rattle.std.proofs.lemmas.List.{append-nil}
use Rattle.std.proofs.lemmas.List.Elements.{All-nil, All-cons, All-head, All-tail, All-push, All-map, All-filter, All-weaker}
use Rattle.coap_msg.specs.declared.endpoint.Endpoint.{Endpoint}
use Rattle.coap_msg.specs.Endpoints.{is_same_endpoint}
use Rattle.coap_msg.proofs.SameEndpoints.{both, same_endpoint, itself}
use Rattle.coap_observe.specs.declared.observer.Observer.{Observer}
use Rattle.coap_observe.specs.declared.notice.Notice.{Notice}
use Rattle.coap_observe.specs.Watching.{Watching, where_so, with_first, is_pair, is_of_target, is_sent_as, is_due, is_sendable, marked, acknowledged, replaced, newcomer, resent, renewed, notified, next_sequence, GivesUp, nobody, endpoint, IsNotification, Sends, same, newer, first, nothing, Notifies}
use Rattle.coap_observe.specs.Laws.{count, is_for}
use Rattle.coap_observe.proofs.CallLaws.{fewer_after}
use Rattle.thing_ops.specs.declared.outcome.Outcome.{Outcome}
use Rattle.coap_msg.specs.Grammar.{spelling}
use Rattle.coap_bind.specs.Blocks.{answer_reply}
use Rattle.coap_bind.specs.Writing.{observed, coap_reply}
use Rattle.thing_state.specs.State.{Emission, LastValue, last_of, renewed as last_renewed}
use Rattle.neighbour_laws.specs.Converging.{Deed, registers, emits, notifies, value_of, IsResponse, Tells, IsNoneOf, IsToldTheLast}
use Rattle.neighbour_laws.proofs.HeardParts.{Told, leaves_all, acknowledges, rejects, cancels_one}
use Rattle.neighbour_laws.proofs.Lists.{found_all, never, not_true}

-- ---- one observer

-- its pair, its target and its number are the same
record SameOne (w v : Observer) : Type 0 where
  from : v.from ≡ w.from
  token : v.token ≡ w.token
  target : v.target ≡ w.target
  sequence : v.sequence ≡ w.sequence

tells_same : (w v : Observer) (last : List LastValue) (d : Deed) → SameOne w v → Tells w last d → Tells v last d
tells_same w v last (registers from token target o bytes) e t = (
  t.0 ∙ sym e.from,
  t.1 ∙ sym e.token,
  t.2 ∙ sym e.target,
  record {
    blocks = t.3.blocks;
    head = t.3.head;
    id = t.3.id;
    spelled = t.3.spelled ∙ ap (λ (n : ℕ). spelling (coap_reply (observed (Some n) (answer_reply t.3.blocks o)) t.3.head t.3.id)) (sym e.sequence);
    token = t.3.token ∙ sym e.token;
    value = t.3.value;
  },
)
tells_same w v last (emits e') e t = t
tells_same w v last (notifies n text) e t = (t.0 ∙ sym e.from, t.1 ∙ sym e.token, t.2 ∙ sym e.target, t.3 ∙ sym e.sequence, t.4 ∙ ap (λ (k : ℕ). value_of k last) (sym e.target))

none_same : (w v : Observer) (d : Deed) → SameOne w v → IsNoneOf w d → IsNoneOf v d
none_same w v (registers from token target o bytes) e is = ap (λ (x : Endpoint). is_same_endpoint from x && bytes_eq token v.token) e.from ∙ ap (λ (x : List ℕ). is_same_endpoint from w.from && bytes_eq token x) e.token ∙ is
none_same w v (emits x) e is = ap (λ (n : ℕ). n == x.target) e.target ∙ is
none_same w v (notifies n text) e is = ap (λ (x : Endpoint). is_for x v.token n) e.from ∙ ap (λ (x : List ℕ). is_for w.from x n) e.token ∙ is

told_same : (w v : Observer) (last : List LastValue) (deeds : List Deed) → SameOne w v → IsToldTheLast w last deeds → IsToldTheLast v last deeds
told_same w v last deeds e t = record {
  before = t.before;
  deed = t.deed;
  later = t.later;
  whole = t.whole;
  tells = tells_same w v last t.deed e t.tells;
  none = All-weaker (IsNoneOf w) (IsNoneOf v) (λ d is. none_same w v d e is) t.later t.none;
}

-- a deed that is none of its own comes
told_more : (w : Observer) (last : List LastValue) (deeds : List Deed) (d : Deed) → IsNoneOf w d → IsToldTheLast w last deeds → IsToldTheLast w last (deeds ++ d ∷ [])
told_more w last deeds d none t = record {
  before = t.before;
  deed = t.deed;
  later = t.later ++ d ∷ [];
  whole = ap (λ (l : List Deed). l ++ d ∷ []) t.whole ∙ append_assoc t.before (t.deed ∷ t.later) (d ∷ []);
  tells = t.tells;
  none = All-push (IsNoneOf w) t.later d t.none none;
}

-- a deed that tells it comes
told_now : (w : Observer) (last : List LastValue) (deeds : List Deed) (d : Deed) → Tells w last d → IsToldTheLast w last (deeds ++ d ∷ [])
told_now w last deeds d tells = record { before = deeds; deed = d; later = []; whole = refl; tells = tells; none = All-nil (IsNoneOf w) }

-- ---- all observers

-- one that isn't marked was told the last value
abbrev pub IsFine : List LastValue → List Deed → Observer → Type 0
IsFine last deeds w = w.is_marked ≡ false → IsToldTheLast w last deeds

abbrev pub AreFine : List LastValue → List Deed → List Observer → Type 0
AreFine last deeds ws = All (IsFine last deeds) ws

abbrev pub OnePair : List Observer → Type 0
OnePair ws = (from : Endpoint) (token : List ℕ) → count (is_pair from token) ws ≤ 1

-- ---- a datagram

still : (w : Observer) → SameOne w (acknowledged w)
still w = record { from = refl; token = refl; target = refl; sequence = refl }

pub heard_fine : (from : Endpoint) (last : List LastValue) (deeds : List Deed) (old new : Watching) → Told from old new → AreFine last deeds old.list → AreFine last deeds new.list
heard_fine from last deeds old new (leaves_all is) all = subst (λ (w : Watching). AreFine last deeds w.list) (sym is) all
heard_fine from last deeds old new (acknowledges id is) all =
    subst (λ (w : Watching). AreFine last deeds w.list) (sym is)
    (All-map (IsFine last deeds) (where_so (is_sent_as from id) acknowledged) old.list (All-weaker (IsFine last deeds) (λ (w : Observer). IsFine last deeds (where_so (is_sent_as from id) acknowledged w)) each old.list all))
  where
    each : (w : Observer) → IsFine last deeds w → IsFine last deeds (where_so (is_sent_as from id) acknowledged w)
    each w fine = by (is_sent_as from id w)
      where
        by : (b : Bool) → IsFine last deeds (cond b (acknowledged w) w)
        by true = λ unmarked. told_same w (acknowledged w) last deeds (still w) (fine unmarked)
        by false = fine
heard_fine from last deeds old new (rejects id is) all = subst (λ (w : Watching). AreFine last deeds w.list) (sym is) (All-filter _ (IsFine last deeds) old.list all)
heard_fine from last deeds old new (cancels_one token is) all = subst (λ (w : Watching). AreFine last deeds w.list) (sym is) (All-filter _ (IsFine last deeds) old.list all)

-- ---- a registration

-- the only one of a pair is found
none_left : {X : Type 0} (p : X → Bool) (xs : List X) → length (filter p xs) ≡ 0 → All (λ x. p x ≡ false) xs
none_left p [] none = All-nil (λ x. p x ≡ false)
none_left {X} p (x ∷ xs) none = by (p x) refl none (λ e. none_left p xs e)
  where
    by : (b : Bool) → p x ≡ b → length (cond b (x ∷ filter p xs) (filter p xs)) ≡ 0 → (length (filter p xs) ≡ 0 → All (λ y. p y ≡ false) xs) → All (λ y. p y ≡ false) (x ∷ xs)
    by true t e rest = absurd (omega (arith, e))
    by false t e rest = All-cons (λ y. p y ≡ false) x xs t (rest e)

only_found : {X : Type 0} (p : X → Bool) (xs : List X) → length (filter p xs) ≤ 1 → All (λ x. p x ≡ true → find p xs ≡ Some x) xs
only_found p [] most = All-nil (λ x. p x ≡ true → find p [] ≡ Some x)
only_found {X} p (x ∷ xs) most = by (p x) refl most (λ e. only_found p xs e)
  where
    by : (b : Bool) → p x ≡ b → length (cond b (x ∷ filter p xs) (filter p xs)) ≤ 1 → (length (filter p xs) ≤ 1 → All (λ y. p y ≡ true → find p xs ≡ Some y) xs)
        → All (λ y. p y ≡ true → cond (p x) (Some x) (find p xs) ≡ Some y) (x ∷ xs)
    by true t e rest =
        All-cons (λ y. p y ≡ true → cond (p x) (Some x) (find p xs) ≡ Some y) x xs (λ passes. ap (λ (b : Bool). cond b (Some x) (find p xs)) t)
        (All-weaker (λ y. p y ≡ false) (λ y. p y ≡ true → cond (p x) (Some x) (find p xs) ≡ Some y) (λ y fails passes. absurd (never (p y) passes fails)) xs (none_left p xs (omega (arith, e))))
    by false t e rest =
        All-cons (λ y. p y ≡ true → cond (p x) (Some x) (find p xs) ≡ Some y) x xs (λ passes. absurd (never (p x) passes t))
        (All-weaker (λ y. p y ≡ true → find p xs ≡ Some y) (λ y. p y ≡ true → cond (p x) (Some x) (find p xs) ≡ Some y) (λ y found passes. ap (λ (b : Bool). cond b (Some x) (find p xs)) t ∙ found passes) xs (rest e))

all_both : {X : Type 0} (P Q : X → Type 0) (xs : List X) → All P xs → All Q xs → All (λ x. P x × Q x) xs
all_both P Q [] p q = All-nil (λ x. P x × Q x)
all_both P Q (x ∷ xs) p q = All-cons (λ x. P x × Q x) x xs (All-head P x xs p, All-head Q x xs q) (all_both P Q xs (All-tail P x xs p) (All-tail Q x xs q))

pub none_passes : {X : Type 0} (p : X → Bool) (xs : List X) → find p xs ≡ None → All (λ x. p x ≡ false) xs
none_passes p [] none = All-nil (λ x. p x ≡ false)
none_passes {X} p (x ∷ xs) none = by (p x) refl none (λ e. none_passes p xs e)
  where
    by : (b : Bool) → p x ≡ b → cond b (Some x) (find p xs) ≡ None → (find p xs ≡ None → All (λ y. p y ≡ false) xs) → All (λ y. p y ≡ false) (x ∷ xs)
    by true t e rest = absurd (let f : Some x ≡ None = e in cc)
    by false t e rest = All-cons (λ y. p y ≡ false) x xs t (rest e)

-- the pair is that of an observer
pair_is : (from : Endpoint) (token : List ℕ) (w : Observer) → is_pair from token w ≡ true → (from ≡ w.from) × (token ≡ w.token)
pair_is from token w e =
    let h = both (is_same_endpoint from w.from) (bytes_eq token w.token) e in
    (same_endpoint from w.from h.0, (bytes_eq-Decides token w.token).0 h.1)

-- the response tells the one that registered anew
pub registered_anew : (from : Endpoint) (token : List ℕ) (target n : ℕ) (o : Outcome) (bytes : List ℕ) (last : List LastValue) (deeds : List Deed) (ws : List Observer) → OnePair ws
    → option_map (λ w. next_sequence w.sequence) (find (is_pair from token) ws) ≡ Some n → ((w : Observer) → w.token ≡ token → w.sequence ≡ n → IsResponse w o bytes) → AreFine last deeds ws
    → AreFine last (deeds ++ registers from token target o bytes ∷ []) (map (where_so (is_pair from token) (replaced target)) ws)
registered_anew from token target n o bytes last deeds ws one number response all =
    All-map (IsFine last (deeds ++ registers from token target o bytes ∷ [])) (where_so (is_pair from token) (replaced target)) ws
    (All-weaker (λ (w : Observer). IsFine last deeds w × (is_pair from token w ≡ true → find (is_pair from token) ws ≡ Some w))
    (λ (w : Observer). IsFine last (deeds ++ registers from token target o bytes ∷ []) (where_so (is_pair from token) (replaced target) w)) each ws
    (all_both (IsFine last deeds) (λ (w : Observer). is_pair from token w ≡ true → find (is_pair from token) ws ≡ Some w) ws all (only_found (is_pair from token) ws (one from token))))
  where
    each : (w : Observer) → IsFine last deeds w × (is_pair from token w ≡ true → find (is_pair from token) ws ≡ Some w)
        → IsFine last (deeds ++ registers from token target o bytes ∷ []) (where_so (is_pair from token) (replaced target) w)
    each w known = by (is_pair from token w) refl
      where
        by : (b : Bool) → is_pair from token w ≡ b → IsFine last (deeds ++ registers from token target o bytes ∷ []) (cond b (replaced target w) w)
        by true test = λ unmarked.
            let pair = pair_is from token w test in
            let numbered : next_sequence w.sequence ≡ n = same_Some (next_sequence w.sequence) n (sym (ap (option_map (λ (v : Observer). next_sequence v.sequence)) (known.1 test)) ∙ number) in
            told_now (replaced target w) last deeds (registers from token target o bytes) (pair.0, pair.1, refl, response (replaced target w) (sym pair.1) numbered)
        by false test = λ unmarked. told_more w last deeds (registers from token target o bytes) test (known.0 unmarked)

pub registered_new : (from : Endpoint) (token : List ℕ) (target : ℕ) (o : Outcome) (bytes : List ℕ) (last : List LastValue) (deeds : List Deed) (ws : List Observer) → find (is_pair from token) ws ≡ None
    → IsResponse (newcomer from token target) o bytes → AreFine last deeds ws → AreFine last (deeds ++ registers from token target o bytes ∷ []) (ws ++ newcomer from token target ∷ [])
registered_new from token target o bytes last deeds ws none response all =
    All-push (IsFine last (deeds ++ registers from token target o bytes ∷ [])) ws (newcomer from token target)
    (All-weaker (λ (w : Observer). IsFine last deeds w × (is_pair from token w ≡ false)) (IsFine last (deeds ++ registers from token target o bytes ∷ []))
    (λ w known unmarked. told_more w last deeds (registers from token target o bytes) known.1 (known.0 unmarked)) ws
    (all_both (IsFine last deeds) (λ (w : Observer). is_pair from token w ≡ false) ws all (none_passes (is_pair from token) ws none)))
    (λ unmarked. told_now (newcomer from token target) last deeds (registers from token target o bytes) (refl, refl, refl, response))

-- ---- a new value

other_last : (t : ℕ) (e : Emission) (last : List LastValue) → (t == e.target) ≡ false → last_of t (map (last_renewed e) last) ≡ last_of t last
other_last t e [] other = refl
other_last t e (l ∷ last) other = by (l.target == e.target) refl (other_last t e last other)
  where
    apart : (l.target == e.target) ≡ true → (l.target == t) ≡ false
    apart is = grind (arith, nat_tests)

    by : (b : Bool) → (l.target == e.target) ≡ b → last_of t (map (last_renewed e) last) ≡ last_of t last
        → last_of t (cond b (record l { text = Some e.text }) l ∷ map (last_renewed e) last) ≡ cond (l.target == t) l.text (last_of t last)
    by true is rest =
        ap (λ (b : Bool). cond b (Some e.text) (last_of t (map (last_renewed e) last))) (apart is) ∙ rest ∙ sym (ap (λ (b : Bool). cond b l.text (last_of t last)) (apart is))
    by false is rest = ap (λ (o : Option (List ℕ)). cond (l.target == t) l.text o) rest

tells_still : (w : Observer) (e : Emission) (last : List LastValue) (d : Deed) → (w.target == e.target) ≡ false → Tells w last d → Tells w (map (last_renewed e) last) d
tells_still w e last (registers from token target o bytes) other t = t
tells_still w e last (emits x) other t = t
tells_still w e last (notifies n text) other t = (t.0, t.1, t.2, t.3, t.4 ∙ sym (ap (λ (o : Option (List ℕ)). unwrap_or o []) (other_last w.target e last other)))

pub emitted_fine : (e : Emission) (last : List LastValue) (deeds : List Deed) (ws : List Observer) → AreFine last deeds ws → AreFine (map (last_renewed e) last) (deeds ++ emits e ∷ []) (map (where_so (is_of_target e.target) marked) ws)
emitted_fine e last deeds ws all =
    All-map (IsFine (map (last_renewed e) last) (deeds ++ emits e ∷ [])) (where_so (is_of_target e.target) marked) ws
    (All-weaker (IsFine last deeds) (λ (w : Observer). IsFine (map (last_renewed e) last) (deeds ++ emits e ∷ []) (where_so (is_of_target e.target) marked w)) each ws all)
  where
    each : (w : Observer) → IsFine last deeds w → IsFine (map (last_renewed e) last) (deeds ++ emits e ∷ []) (where_so (is_of_target e.target) marked w)
    each w fine = by (is_of_target e.target w) refl
      where
        by : (b : Bool) → is_of_target e.target w ≡ b → IsFine (map (last_renewed e) last) (deeds ++ emits e ∷ []) (cond b (marked w) w)
        by true test = λ unmarked. absurd (never true refl unmarked)
        by false test = λ unmarked.
            let t = fine unmarked in
            told_more w (map (last_renewed e) last) deeds (emits e) test (record { before = t.before; deed = t.deed; later = t.later; whole = t.whole; tells = tells_still w e last t.deed test t.tells; none = t.none })

-- ---- a notification

-- no other observer has the pair of one
abbrev Apart : Observer → Observer → Type 0
Apart c v = is_pair v.from v.token c ≡ false

others_apart : (x : Observer) (ws : List Observer) → OnePair (x ∷ ws) → All (λ (v : Observer). Apart x v × Apart v x) ws
others_apart x ws one =
    All-weaker (λ (v : Observer). is_pair x.from x.token v ≡ false) (λ (v : Observer). Apart x v × Apart v x) each ws (none_left (is_pair x.from x.token) ws (left (is_pair x.from x.token x) own (one x.from x.token)))
  where
    own : is_pair x.from x.token x ≡ true
    own = ap (λ (b : Bool). b && bytes_eq x.token x.token) (itself x.from) ∙ (bytes_eq-Decides x.token x.token).1 refl

    left : (b : Bool) → b ≡ true → length (cond b (x ∷ filter (is_pair x.from x.token) ws) (filter (is_pair x.from x.token) ws)) ≤ 1 → length (filter (is_pair x.from x.token) ws) ≡ 0
    left true is most = omega (arith, most)
    left false is most = absurd (never false is refl)

    each : (v : Observer) → is_pair x.from x.token v ≡ false → Apart x v × Apart v x
    each v fails = (
      not_true (is_pair v.from v.token x) (λ is.
          let pair = pair_is v.from v.token x is in
          let back : is_pair x.from x.token v ≡ true =
          subst (λ (e : Endpoint). (is_same_endpoint x.from e && bytes_eq x.token v.token) ≡ true) (sym pair.0)
          (subst (λ (k : List ℕ). (is_same_endpoint x.from x.from && bytes_eq x.token k) ≡ true) (sym pair.1) own) in
          absurd (never (is_pair x.from x.token v) back fails)),
      fails,
    )

fewer_pairs : (x : Observer) (ws : List Observer) → OnePair (x ∷ ws) → OnePair ws
fewer_pairs x ws one = λ from token. by from token (is_pair from token x) (one from token)
  where
    by : (from : Endpoint) (token : List ℕ) (b : Bool) → length (cond b (x ∷ filter (is_pair from token) ws) (filter (is_pair from token) ws)) ≤ 1 → length (filter (is_pair from token) ws) ≤ 1
    by from token true most = omega (arith, most)
    by from token false most = most

-- a notification is for the observer that it is made of
for_whom : (from : Endpoint) (token : List ℕ) (c : Observer) (id number : ℕ) (fresh : Bool) (n : Notice) → IsNotification c id number fresh n → is_for from token n ≡ is_pair from token c
for_whom from token c id number fresh n notice = λ i. is_same_endpoint from (notice.to i) && bytes_eq token (notice.token i)

sent_more : (n : Notice) (last : List LastValue) (deeds : List Deed) (ws : List Observer) → All (λ (v : Observer). is_for v.from v.token n ≡ false) ws → AreFine last deeds ws
    → AreFine last (deeds ++ notifies n (value_of n.target last) ∷ []) ws
sent_more n last deeds ws none all =
    All-weaker (λ (v : Observer). IsFine last deeds v × (is_for v.from v.token n ≡ false)) (IsFine last (deeds ++ notifies n (value_of n.target last) ∷ []))
    (λ v known unmarked. told_more v last deeds (notifies n (value_of n.target last)) known.1 (known.0 unmarked)) ws
    (all_both (IsFine last deeds) (λ (v : Observer). is_for v.from v.token n ≡ false) ws all none)

-- the first that passes is told, and no other
first_fine : (test : Observer → Bool) (change : Observer → Observer) (c : Observer) (id number : ℕ) (fresh : Bool) (n : Notice) (last : List LastValue) (deeds : List Deed) (ws : List Observer)
    → find test ws ≡ Some c → OnePair ws → IsNotification c id number fresh n → SameOne (record c { sequence = number }) (change c) → AreFine last deeds ws
    → AreFine last (deeds ++ notifies n (value_of n.target last) ∷ []) (with_first test change ws)
first_fine test change c id number fresh n last deeds [] found one notice changed all = absurd (let e : None ≡ Some c = found in cc)
first_fine test change c id number fresh n last deeds (x ∷ ws) found one notice changed all =
    by (test x) found (λ is. first_fine test change c id number fresh n last deeds ws is (fewer_pairs x ws one) notice changed (All-tail (IsFine last deeds) x ws all))
  where
    d : Deed
    d = notifies n (value_of n.target last)

    by : (b : Bool) → cond b (Some x) (find test ws) ≡ Some c → (find test ws ≡ Some c → AreFine last (deeds ++ d ∷ []) (with_first test change ws))
        → AreFine last (deeds ++ d ∷ []) (cond b (change x ∷ ws) (x ∷ with_first test change ws))
    by true is rest =
        let same_one : x ≡ c = same_Some x c is in
        let tells : Tells (change c) last d = (notice.to ∙ sym changed.from, notice.token ∙ sym changed.token, notice.target ∙ sym changed.target, notice.sequence_is ∙ sym changed.sequence, ap (λ (t : ℕ). value_of t last) (notice.target ∙ sym changed.target)) in
        let apart : All (λ (v : Observer). Apart c v × Apart v c) ws = others_apart c ws (subst (λ (y : Observer). OnePair (y ∷ ws)) same_one one) in
        All-cons (IsFine last (deeds ++ d ∷ [])) (change x) ws (λ unmarked. subst (λ (y : Observer). IsToldTheLast (change y) last (deeds ++ d ∷ [])) (sym same_one) (told_now (change c) last deeds d tells))
        (sent_more n last deeds ws (All-weaker (λ (v : Observer). Apart c v × Apart v c) (λ (v : Observer). is_for v.from v.token n ≡ false) (λ v p. for_whom v.from v.token c id number fresh n notice ∙ p.0) ws apart)
        (All-tail (IsFine last deeds) x ws all))
    by false is rest =
        let there : Apart c x = found_apart is in
        All-cons (IsFine last (deeds ++ d ∷ [])) x (with_first test change ws)
        (λ unmarked. told_more x last deeds d (for_whom x.from x.token c id number fresh n notice ∙ there) (All-head (IsFine last deeds) x ws all unmarked)) (rest is)
      where
        found_apart : find test ws ≡ Some c → Apart c x
        found_apart is = (found_all (λ (v : Observer). Apart x v × Apart v x) test ws c is (others_apart x ws one)).1

-- what is sent next
abbrev pub sent_deeds : List LastValue → Option Notice → List Deed
sent_deeds last None = []
sent_deeds last (Some n) = notifies n (value_of n.target last) ∷ []

sent_fine : (now id : ℕ) (last : List LastValue) (deeds : List Deed) (ws us : List Observer) (o : Option Notice) → Sends now id ws o us → OnePair ws → AreFine last deeds ws → AreFine last (deeds ++ sent_deeds last o) us
sent_fine now id last deeds ws us o (same w s n _ found plain had notice is) one all =
    subst (AreFine last (deeds ++ notifies n (value_of n.target last) ∷ [])) (sym is)
    (first_fine (is_due now) (resent now) w s.id w.sequence false n last deeds ws found one notice (record { from = refl; token = refl; target = refl; sequence = refl }) all)
sent_fine now id last deeds ws us o (newer w n _ found marked_one notice is) one all =
    subst (AreFine last (deeds ++ notifies n (value_of n.target last) ∷ [])) (sym is)
    (first_fine (is_due now) (renewed now id) w id (next_sequence w.sequence) true n last deeds ws found one notice (record { from = refl; token = refl; target = refl; sequence = refl }) all)
sent_fine now id last deeds ws us o (first w n _ none found notice is) one all =
    subst (AreFine last (deeds ++ notifies n (value_of n.target last) ∷ [])) (sym is)
    (first_fine (is_sendable ws) (notified now id) w id (next_sequence w.sequence) true n last deeds ws found one notice (record { from = refl; token = refl; target = refl; sequence = refl }) all)
sent_fine now id last deeds ws us o (nothing _ none free is) one all = subst (λ (l : List Deed). AreFine last l us) (sym (append-nil deeds)) (subst (AreFine last deeds) (sym is) all)

given_up_fine : (now : ℕ) (last : List LastValue) (deeds : List Deed) (ws us : List Observer) → GivesUp now ws us → AreFine last deeds ws → AreFine last deeds us
given_up_fine now last deeds ws us (nobody _ _ none is) all = subst (AreFine last deeds) (sym is) all
given_up_fine now last deeds ws us (endpoint from _ _ at rest) all = given_up_fine now last deeds _ us rest (All-filter _ (IsFine last deeds) ws all)

pub notified_fine : (now id : ℕ) (last : List LastValue) (deeds : List Deed) (ws us : List Observer) (o : Option Notice) → Notifies now id ws o us → OnePair ws → AreFine last deeds ws → AreFine last (deeds ++ sent_deeds last o) us
notified_fine now id last deeds ws us o notifies_it one all =
    sent_fine now id last deeds notifies_it.left us o notifies_it.sends (λ from token. by from token) (given_up_fine now last deeds ws notifies_it.left notifies_it.gives_up all)
  where
    by : (from : Endpoint) (token : List ℕ) → count (is_pair from token) notifies_it.left ≤ 1
    by from token = let less = fewer_after (is_pair from token) now ws notifies_it.left notifies_it.gives_up in let most = one from token in omega (arith, less, most)
