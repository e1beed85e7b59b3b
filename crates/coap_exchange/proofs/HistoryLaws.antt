-- Laws of admission over whole histories.
use Rattle.std.proofs.Common.{◌≡◌, ◌≤◌, ◌<◌, ◌-◌, ◌&&◌, ◌∙◌, ℕ, Bool, true, false, cond, ◌||◌, List, [], ◌∷◌, ◌++◌, map, length, get_or, Option, Some, None, sym, refl, ap, subst, arith}
use Rattle.std.specs.Prelude.{nat_lt, All, AllPairs, if◌then◌else◌}
use Rattle.std.specs.List.{find, filter, list_any}
use Rattle.std.proofs.lemmas.List.{length-map, map-append}
use Rattle.std.proofs.lemmas.List.Elements.{All-head, All-tail, filter-append}
use Rattle.std.proofs.lemmas.List.Quantifiers.{all_pairs_push}
use Rattle.std.proofs.lemmas.List.Folds.{list_any_at}
use Rattle.std.proofs.lemmas.Map.Views.{any-filter_same}
use Rattle.std.proofs.lemmas.Bool.Decides.{nat_tests}
use Rattle.coap_exchange.specs.Admission.{Arrival, lifetime, lives, is_same_exchange, is_duplicate_of, Verdict, admitted, duplicate, refused, verdict, after_verdict, with_arrival, admitted_after, admitted_among}
use Rattle.coap_exchange.specs.Table.{Exchange, Table, at_moment, with_exchange, StandsFor}
use Rattle.coap_exchange.specs.Laws.{DifferWhileLiving, TablesFollowTheHistory, AdmittedOnce, LivingExchangesDiffer}
use Rattle.coap_exchange.specs.declared.met.Met.TheVariants.{Fresh, Repeat, Full}
use Rattle.coap_exchange.proofs.ListLaws.{filter-map}
use Rattle.coap_exchange.proofs.TableLaws.{lives_at_first}

-- ---- histories

-- the last request of a history is judged after all before it
last_after : (capacity : ℕ) (before xs : List Arrival) (a : Arrival) → admitted_after capacity before (xs ++ a ∷ []) ≡ with_arrival capacity (admitted_after capacity before xs) a
last_after capacity before [] a = refl
last_after capacity before (x ∷ xs) a = last_after capacity (with_arrival capacity before x) xs a

pub last_of : (capacity : ℕ) (history : List Arrival) (a : Arrival) → admitted_among capacity (history ++ a ∷ []) ≡ with_arrival capacity (admitted_among capacity history) a
last_of capacity history a = last_after capacity [] history a

-- ---- living

-- a request that lives later lived before
lived : (m n : ℕ) (moment limit : ℕ) → m ≤ n → nat_lt (n - moment) limit ≡ true → nat_lt (m - moment) limit ≡ true
lived m n moment limit h e = grind (arith, nat_tests)

pub lives_before : (m n : ℕ) (a : Arrival) → m ≤ n → lives n a ≡ true → lives m a ≡ true
lives_before m n a h e = lived m n a.moment (lifetime a.kind) h e

-- ---- tests over lists

both_left : (b c : Bool) → (b && c) ≡ true → b ≡ true
both_left true c e = refl
both_left false c e = e

both_false : (b c : Bool) → (b && c) ≡ false → b ≡ true → c ≡ false
both_false true c e h = e
both_false false c e h = cc

none_at : {A : Type 0} (p : A → Bool) (xs : List A) (k : ℕ) (d : A) (b : Bool) → list_any p xs ≡ false → k < length xs → p (get_or xs k d) ≡ b → b ≡ false
none_at p xs k d true e h t = let any : list_any p xs ≡ true = list_any_at p xs k d h t in cc
none_at p xs k d false e h t = refl

list_any-map : {A B : Type 0} (p : B → Bool) (f : A → B) (xs : List A) → list_any p (map f xs) ≡ list_any (λ x. p (f x)) xs
list_any-map p f [] = refl
list_any-map p f (x ∷ xs) = ap (λ b. p (f x) || b) (list_any-map p f xs)

-- an element that is found passes somewhere
found_at : {A : Type 0} (x : A) (o : Option A) (n b : Bool) → (o ≡ None → n ≡ false) → cond b (Some x) o ≡ None → (b || n) ≡ false
found_at x o n true rec e = cc
found_at x o n false rec e = rec e

none_passes : {A : Type 0} (p : A → Bool) (xs : List A) → find p xs ≡ None → list_any p xs ≡ false
none_passes p [] e = refl
none_passes p (x ∷ xs) e = found_at x (find p xs) (list_any p xs) (p x) (none_passes p xs) e

some_at : {A : Type 0} (x y : A) (o : Option A) (n b : Bool) → (o ≡ Some y → n ≡ true) → cond b (Some x) o ≡ Some y → (b || n) ≡ true
some_at x y o n true rec e = refl
some_at x y o n false rec e = rec e

some_passes : {A : Type 0} (p : A → Bool) (xs : List A) (y : A) → find p xs ≡ Some y → list_any p xs ≡ true
some_passes p [] y e = cc
some_passes p (x ∷ xs) y e = some_at x y (find p xs) (list_any p xs) (p x) (some_passes p xs y) e

-- a filter after a weaker one
filter_at : {A : Type 0} (p : A → Bool) (x : A) (kept all : List A) (b c : Bool) → p x ≡ b → (b ≡ true → c ≡ true) → filter p kept ≡ all
    → filter p (cond c (x ∷ kept) kept) ≡ cond b (x ∷ all) all
filter_at p x kept all true true t w e = rw t (ap (λ l. x ∷ l) e)
filter_at p x kept all true false t w e = let wrong : false ≡ true = w refl in cc
filter_at p x kept all false true t w e = rw t e
filter_at p x kept all false false t w e = e

filter_after : {A : Type 0} (p q : A → Bool) → ((x : A) → p x ≡ true → q x ≡ true) → (xs : List A) → filter p (filter q xs) ≡ filter p xs
filter_after p q w [] = refl
filter_after p q w (x ∷ xs) = filter_at p x (filter q xs) (filter p xs) (p x) (q x) refl (w x) (filter_after p q w xs)

-- ---- no two of the admitted ones that live are one exchange

pairs_at : (now : ℕ) (before : List Arrival) (a : Arrival) (b c : Bool) → a.moment ≤ now → list_any (is_duplicate_of a) before ≡ b → AllPairs (DifferWhileLiving now) before
    → AllPairs (DifferWhileLiving now) (after_verdict before a (if b then duplicate else (if c then admitted else refused)))
pairs_at now before a true c h e pairs = pairs
pairs_at now before a false false h e pairs = pairs
pairs_at now before a false true h e pairs =
    all_pairs_push (DifferWhileLiving now) before a pairs (λ k d within. λ alive new.
    let x : Arrival = get_or before k d in
    let other : is_duplicate_of a (get_or before k d) ≡ false = none_at (is_duplicate_of a) before k d (is_duplicate_of a (get_or before k d)) e within refl in
    both_false (lives a.moment (get_or before k d)) (is_same_exchange a (get_or before k d)) other (lives_before a.moment now (get_or before k d) h alive))

distinct_after : (capacity now : ℕ) (before rest : List Arrival) → All (λ a. a.moment ≤ now) rest → AllPairs (DifferWhileLiving now) before
    → AllPairs (DifferWhileLiving now) (admitted_after capacity before rest)
distinct_after capacity now before [] h pairs = pairs
distinct_after capacity now before (a ∷ rest) h pairs =
    distinct_after capacity now (with_arrival capacity before a) rest (All-tail (λ x. x.moment ≤ now) a rest h)
    (pairs_at now before a (list_any (is_duplicate_of a) before) (nat_lt (length (filter (lives a.moment) before)) capacity) (All-head (λ x. x.moment ≤ now) a rest h) refl pairs)

pub living_exchanges_differ : LivingExchangesDiffer
living_exchanges_differ capacity now history h = distinct_after capacity now [] history h (λ i j d before within. absurd (omega arith))

-- ---- a duplicate isn't admitted

verdict_at : (b : Bool) (v : Verdict) → b ≡ true → (if b then duplicate else v) ≡ duplicate
verdict_at true v e = refl
verdict_at false v e = cc

pub admitted_once : AdmittedOnce
admitted_once capacity history earlier a has again =
    let before : List Arrival = admitted_among capacity history in
    let passes : is_duplicate_of a (get_or (admitted_among capacity history) has.0 earlier) ≡ true = ap (is_duplicate_of a) has.2 ∙ again in
    let any : list_any (is_duplicate_of a) (admitted_among capacity history) ≡ true
    = list_any_at (is_duplicate_of a) (admitted_among capacity history) has.0 earlier has.1 passes in
    let v : verdict capacity (admitted_among capacity history) a ≡ duplicate
    = verdict_at (list_any (is_duplicate_of a) (admitted_among capacity history)) _ any in
    last_of capacity history a ∙ ap (after_verdict (admitted_among capacity history) a) v

-- ---- tables

-- the arrivals of a table at a later moment
shown_later : (t : Table) (history : List Arrival) (m : ℕ) → StandsFor t history → t.moment ≤ m
    → map (λ e. e.arrival) (at_moment m t).exchanges ≡ filter (lives m) (admitted_among t.capacity history)
shown_later t history m stands h =
    sym (filter-map (lives m) (λ (e : Exchange). e.arrival) t.exchanges)
    ∙ (ap (filter (lives m)) stands
    ∙ filter_after (lives m) (lives t.moment) (λ x e. lives_before t.moment m x h e) (admitted_among t.capacity history))

-- whether a request is a duplicate of one, by the table and by the history
duplicates_shown : (t : Table) (history : List Arrival) (a : Arrival) → StandsFor t history → t.moment ≤ a.moment
    → list_any (is_duplicate_of a) (admitted_among t.capacity history) ≡ list_any (λ e. is_duplicate_of a e.arrival) (at_moment a.moment t).exchanges
duplicates_shown t history a stands h =
    let all : List Arrival = admitted_among t.capacity history in
    let kept : list_any (is_duplicate_of a) (filter (lives a.moment) (admitted_among t.capacity history)) ≡ list_any (is_duplicate_of a) (admitted_among t.capacity history)
    = any-filter_same (is_duplicate_of a) (lives a.moment) true (λ x e. both_left (lives a.moment x) (is_same_exchange a x) e) (admitted_among t.capacity history) in
    sym kept
    ∙ (sym (ap (list_any (is_duplicate_of a)) (shown_later t history a.moment stands h))
    ∙ list_any-map (is_duplicate_of a) (λ (e : Exchange). e.arrival) (at_moment a.moment t).exchanges)

count_shown : (t : Table) (history : List Arrival) (a : Arrival) → StandsFor t history → t.moment ≤ a.moment
    → length (filter (lives a.moment) (admitted_among t.capacity history)) ≡ length (at_moment a.moment t).exchanges
count_shown t history a stands h =
    sym (ap length (shown_later t history a.moment stands h)) ∙ length-map (at_moment a.moment t).exchanges (λ (e : Exchange). e.arrival)

admitted_at : (b c : Bool) → b ≡ false → c ≡ true → (if b then duplicate else (if c then admitted else refused)) ≡ admitted
admitted_at b c e h = rw e (rw h refl)

refused_at : (b c : Bool) → b ≡ false → c ≡ false → (if b then duplicate else (if c then admitted else refused)) ≡ refused
refused_at b c e h = rw e (rw h refl)

is_below : (m n : ℕ) → m < n → nat_lt m n ≡ true
is_below m n h = grind (arith, nat_tests)

is_not_below : (m n : ℕ) → n ≤ m → nat_lt m n ≡ false
is_not_below m n h = grind (arith, nat_tests)

-- the table after a request that isn't admitted stands for the history with it
stands_unchanged : (t : Table) (history : List Arrival) (a : Arrival) (v : Verdict) → StandsFor t history → t.moment ≤ a.moment
    → verdict t.capacity (admitted_among t.capacity history) a ≡ v → after_verdict (admitted_among t.capacity history) a v ≡ admitted_among t.capacity history
    → StandsFor (at_moment a.moment t) (history ++ a ∷ [])
stands_unchanged t history a v stands h e same =
    let more : admitted_among t.capacity (history ++ a ∷ []) ≡ admitted_among t.capacity history
    = last_of t.capacity history a ∙ (ap (after_verdict (admitted_among t.capacity history) a) e ∙ same) in
    shown_later t history a.moment stands h ∙ sym (ap (filter (lives a.moment)) more)

pub tables_follow_the_history : TablesFollowTheHistory
tables_follow_the_history t u history a (Repeat kept) stands h meets =
    let any : list_any (λ e. is_duplicate_of a e.arrival) (at_moment a.moment t).exchanges ≡ true
    = some_passes (λ e. is_duplicate_of a e.arrival) (at_moment a.moment t).exchanges meets.0.0 meets.0.1 in
    let v : verdict t.capacity (admitted_among t.capacity history) a ≡ duplicate
    = verdict_at (list_any (is_duplicate_of a) (admitted_among t.capacity history)) _ (duplicates_shown t history a stands h ∙ any) in
    (v, subst (λ w. StandsFor w (history ++ a ∷ [])) (sym meets.1) (stands_unchanged t history a duplicate stands h v refl))
tables_follow_the_history t u history a Full stands h meets =
    let none : list_any (is_duplicate_of a) (admitted_among t.capacity history) ≡ false
    = duplicates_shown t history a stands h ∙ none_passes (λ e. is_duplicate_of a e.arrival) (at_moment a.moment t).exchanges meets.0 in
    let count = count_shown t history a stands h in
    let many : t.capacity ≤ length (at_moment a.moment t).exchanges = meets.1.0 in
    let v : verdict t.capacity (admitted_among t.capacity history) a ≡ refused
    = refused_at _ _ none (is_not_below (length (filter (lives a.moment) (admitted_among t.capacity history))) t.capacity (omega arith)) in
    (v, subst (λ w. StandsFor w (history ++ a ∷ [])) (sym meets.1.1) (stands_unchanged t history a refused stands h v refl))
tables_follow_the_history t u history a (Fresh slot) stands h meets =
    let none : list_any (is_duplicate_of a) (admitted_among t.capacity history) ≡ false
    = duplicates_shown t history a stands h ∙ none_passes (λ e. is_duplicate_of a e.arrival) (at_moment a.moment t).exchanges meets.0 in
    let count = count_shown t history a stands h in
    let few : length (at_moment a.moment t).exchanges < t.capacity = meets.1.0 in
    let v : verdict t.capacity (admitted_among t.capacity history) a ≡ admitted
    = admitted_at _ _ none (is_below (length (filter (lives a.moment) (admitted_among t.capacity history))) t.capacity (omega arith)) in
    let more : admitted_among t.capacity (history ++ a ∷ []) ≡ admitted_among t.capacity history ++ a ∷ []
    = last_of t.capacity history a ∙ ap (after_verdict (admitted_among t.capacity history) a) v in
    let new : filter (lives a.moment) (a ∷ []) ≡ a ∷ [] = rw (lives_at_first a) refl in
    let shown : map (λ e. e.arrival) (with_exchange a slot (at_moment a.moment t)).exchanges ≡ filter (lives a.moment) (admitted_among t.capacity (history ++ a ∷ []))
    = map-append (λ (e : Exchange). e.arrival) (at_moment a.moment t).exchanges (record { arrival = a; slot = slot; reply = None } ∷ [])
    ∙ (ap (λ l. l ++ a ∷ []) (shown_later t history a.moment stands h)
    ∙ (sym (ap (λ l. filter (lives a.moment) (admitted_among t.capacity history) ++ l) new)
    ∙ (sym (filter-append (lives a.moment) (admitted_among t.capacity history) (a ∷ []))
    ∙ sym (ap (filter (lives a.moment)) more)))) in
    (v, subst (λ w. StandsFor w (history ++ a ∷ [])) (sym meets.1.2) shown)
