-- The meetings of a request in two tables of exchanges that differ in slots alone.
use Rattle.std.proofs.Common.{◌≡◌, ◌==◌, ℕ, Bool, true, false, cond, List, [], ◌∷◌, ◌++◌, map, length, find, Option, Some, None, option_map, refl, sym, ap, ap₂, subst, ◌∙◌, arith}
use Rattle.std.specs.List.{filter}
use Rattle.std.proofs.lemmas.List.{map-append, length-map}
use Rattle.std.proofs.lemmas.Option.{same_Some}
use Rattle.coap_exchange.specs.Admission.{Arrival, lives, is_duplicate_of}
use Rattle.coap_exchange.specs.Table.{Exchange, Table, at_moment, duplicated_exchange, with_exchange, with_reply, answered, Meets}
use Rattle.coap_exchange.specs.declared.met.Met.{Met}
use Rattle.coap_exchange.specs.declared.met.Met.TheVariants.{Fresh, Repeat, Full}
use Rattle.servient_laws.specs.Determined.{unplaced, SameTable}

-- ---- tests of a request alone

find_unplaced : (p : Arrival → Bool) (xs : List Exchange) → option_map unplaced (find (λ e. p e.arrival) xs) ≡ find (λ e. p e.arrival) (map unplaced xs)
find_unplaced p [] = refl
find_unplaced p (x ∷ xs) = at (p x.arrival) (find_unplaced p xs)
  where
    at : (b : Bool) → option_map unplaced (find (λ e. p e.arrival) xs) ≡ find (λ e. p e.arrival) (map unplaced xs)
        → option_map unplaced (cond b (Some x) (find (λ e. p e.arrival) xs)) ≡ cond b (Some (unplaced x)) (find (λ e. p e.arrival) (map unplaced xs))
    at true h = refl
    at false h = h

filter_unplaced : (p : Arrival → Bool) (xs : List Exchange) → map unplaced (filter (λ e. p e.arrival) xs) ≡ filter (λ e. p e.arrival) (map unplaced xs)
filter_unplaced p [] = refl
filter_unplaced p (x ∷ xs) = at (p x.arrival) (filter_unplaced p xs)
  where
    at : (b : Bool) → map unplaced (filter (λ e. p e.arrival) xs) ≡ filter (λ e. p e.arrival) (map unplaced xs)
        → map unplaced (cond b (x ∷ filter (λ e. p e.arrival) xs) (filter (λ e. p e.arrival) xs)) ≡ cond b (unplaced x ∷ filter (λ e. p e.arrival) (map unplaced xs)) (filter (λ e. p e.arrival) (map unplaced xs))
    at true h = ap (λ (ys : List Exchange). unplaced x ∷ ys) h
    at false h = h

pub same_at_moment : (now : ℕ) (t u : Table) → SameTable t u → SameTable (at_moment now t) (at_moment now u)
same_at_moment now t u same = record {
  capacity = same.capacity;
  moment = refl;
  exchanges = filter_unplaced (lives now) t.exchanges ∙ ap (λ (xs : List Exchange). filter (λ e. lives now e.arrival) xs) same.exchanges ∙ sym (filter_unplaced (lives now) u.exchanges);
}

-- the exchange of which a request is a duplicate is the same, but for its slot
pub same_duplicated : (a : Arrival) (t u : Table) → SameTable t u → option_map unplaced (duplicated_exchange a t) ≡ option_map unplaced (duplicated_exchange a u)
same_duplicated a t u same =
    find_unplaced (is_duplicate_of a) t.exchanges ∙ ap (λ (xs : List Exchange). find (λ e. is_duplicate_of a e.arrival) xs) same.exchanges ∙ sym (find_unplaced (is_duplicate_of a) u.exchanges)

found_apart : (a : Arrival) (t u : Table) (e : Exchange) → SameTable t u → duplicated_exchange a t ≡ Some e → duplicated_exchange a u ≡ None → ⊥
found_apart a t u e same found none =
    let is : Some (unplaced e) ≡ option_map unplaced None =
    ap (λ (o : Option Exchange). option_map unplaced o) (sym found) ∙ same_duplicated a t u same ∙ ap (λ (o : Option Exchange). option_map unplaced o) none in
    absurd (cc)

-- so is its reply
pub same_reply : (a : Arrival) (t u : Table) (e f : Exchange) → SameTable t u → duplicated_exchange a t ≡ Some e → duplicated_exchange a u ≡ Some f → e.reply ≡ f.reply
same_reply a t u e f same one other =
    let is : Some (unplaced e) ≡ Some (unplaced f) =
    ap (λ (o : Option Exchange). option_map unplaced o) (sym one) ∙ same_duplicated a t u same ∙ ap (λ (o : Option Exchange). option_map unplaced o) other in
    ap (λ (x : Exchange). x.reply) (same_Some (unplaced e) (unplaced f) is)

same_length : (t u : Table) → SameTable t u → length t.exchanges ≡ length u.exchanges
same_length t u same = sym (length-map t.exchanges unplaced) ∙ ap length same.exchanges ∙ length-map u.exchanges unplaced

-- ---- the exchange that was admitted last

-- it has this slot, and none before it has
pub record IsLast (slot : ℕ) (t : Table) : Type 0 where
  pub before : List Exchange
  pub last : Exchange
  pub are : t.exchanges ≡ before ++ last ∷ []
  pub slot_is : (last.slot == slot) ≡ true
  pub free : find (λ e. e.slot == slot) before ≡ None

-- ---- what a request meets

abbrev pub MetAlike : Met → Met → Table → Table → Type 0
MetAlike (Repeat kept) (Repeat other) t u = SameTable t u
MetAlike (Fresh slot) (Fresh other) t u = SameTable t u × IsLast slot t × IsLast other u
MetAlike Full Full t u = SameTable t u
MetAlike m n t u = ⊥

back : (t u : Table) → SameTable t u → SameTable u t
back t u same = record { capacity = sym same.capacity; moment = sym same.moment; exchanges = sym same.exchanges }

moved : (t u v w : Table) → v ≡ t → w ≡ u → SameTable t u → SameTable v w
moved t u v w one other same = subst (λ (x : Table). SameTable v x) (sym other) (subst (λ (x : Table). SameTable x u) (sym one) same)

same_added : (a : Arrival) (slot other : ℕ) (t u : Table) → SameTable t u → SameTable (with_exchange a slot t) (with_exchange a other u)
same_added a slot other t u same = record {
  capacity = same.capacity;
  moment = same.moment;
  exchanges = map-append unplaced t.exchanges (record { arrival = a; slot = slot; reply = None } ∷ [])
      ∙ ap (λ (xs : List Exchange). xs ++ record { arrival = a; slot = 0; reply = None } ∷ []) same.exchanges
      ∙ sym (map-append unplaced u.exchanges (record { arrival = a; slot = other; reply = None } ∷ []));
}

itself : (n : ℕ) → (n == n) ≡ true
itself n = grind arith

added_last : (a : Arrival) (slot : ℕ) (t u : Table) → find (λ e. e.slot == slot) t.exchanges ≡ None → u ≡ with_exchange a slot t → IsLast slot u
added_last a slot t u none is = record {
  before = t.exchanges;
  last = record { arrival = a; slot = slot; reply = None };
  are = ap (λ (x : Table). x.exchanges) is;
  slot_is = itself slot;
  free = none;
}

pub met_alike : (a : Arrival) (m n : Met) (t u v w : Table) → SameTable t u → Meets t a m v → Meets u a n w → MetAlike m n v w
met_alike a (Repeat kept) (Repeat other) t u v w same p q = moved t u v w p.1 q.1 same
met_alike a (Repeat kept) (Fresh slot) t u v w same p q = absurd (found_apart a t u p.0.0 same p.0.1 q.0)
met_alike a (Repeat kept) Full t u v w same p q = absurd (found_apart a t u p.0.0 same p.0.1 q.0)
met_alike a (Fresh slot) (Repeat kept) t u v w same p q = absurd (found_apart a u t q.0.0 (back t u same) q.0.1 p.0)
met_alike a (Fresh slot) (Fresh other) t u v w same p q =
    (moved (with_exchange a slot t) (with_exchange a other u) v w p.1.2 q.1.2 (same_added a slot other t u same), added_last a slot t v p.1.1 p.1.2, added_last a other u w q.1.1 q.1.2)
met_alike a (Fresh slot) Full t u v w same p q = absurd (let l = same_length t u same in omega (arith, p.1.0, q.1.0, l, same.capacity))
met_alike a Full (Repeat kept) t u v w same p q = absurd (found_apart a u t q.0.0 (back t u same) q.0.1 p.0)
met_alike a Full (Fresh slot) t u v w same p q = absurd (let l = same_length t u same in omega (arith, p.1.0, q.1.0, l, same.capacity))
met_alike a Full Full t u v w same p q = moved t u v w p.1.1 q.1.1 same

-- ---- a reply is kept

not_answered : (slot : ℕ) (bytes : List ℕ) (xs : List Exchange) → find (λ e. e.slot == slot) xs ≡ None → map (answered slot bytes) xs ≡ xs
not_answered slot bytes [] none = refl
not_answered slot bytes (x ∷ xs) none = at (x.slot == slot) none (not_answered slot bytes xs)
  where
    at : (b : Bool) → cond b (Some x) (find (λ e. e.slot == slot) xs) ≡ None → (find (λ e. e.slot == slot) xs ≡ None → map (answered slot bytes) xs ≡ xs)
        → cond b (record x { reply = Some bytes }) x ∷ map (answered slot bytes) xs ≡ x ∷ xs
    at true found further = absurd cc
    at false found further = ap (λ (ys : List Exchange). x ∷ ys) (further found)

answered_last : (slot : ℕ) (bytes : List ℕ) (x : Exchange) → (x.slot == slot) ≡ true → answered slot bytes x ≡ record x { reply = Some bytes }
answered_last slot bytes x is = at (x.slot == slot) is
  where
    at : (b : Bool) → b ≡ true → cond b (record x { reply = Some bytes }) x ≡ record x { reply = Some bytes }
    at true e = refl
    at false e = absurd cc

-- the exchanges before the last, and the last with its reply
after_reply : (slot : ℕ) (bytes : List ℕ) (t : Table) (l : IsLast slot t) → map unplaced (with_reply slot bytes t).exchanges ≡ map unplaced l.before ++ record l.last { slot = 0; reply = Some bytes } ∷ []
after_reply slot bytes t l =
    ap (λ (xs : List Exchange). map unplaced (map (answered slot bytes) xs)) l.are
    ∙ ap (λ (xs : List Exchange). map unplaced xs) (map-append (answered slot bytes) l.before (l.last ∷ []))
    ∙ map-append unplaced (map (answered slot bytes) l.before) (answered slot bytes l.last ∷ [])
    ∙ ap₂ (λ (xs : List Exchange) (x : Exchange). map unplaced xs ++ unplaced x ∷ []) (not_answered slot bytes l.before l.free) (answered_last slot bytes l.last l.slot_is)

same_ends : (xs ys : List Exchange) (x y : Exchange) → xs ++ x ∷ [] ≡ ys ++ y ∷ [] → (xs ≡ ys) × (x ≡ y)
same_ends [] [] x y e = (refl, (cc))
same_ends [] (z ∷ ys) x y e = absurd (longer ys e)
  where
    longer : (zs : List Exchange) → x ∷ [] ≡ z ∷ zs ++ y ∷ [] → ⊥
    longer [] k = cc
    longer (w ∷ zs) k = cc
same_ends (z ∷ xs) [] x y e = absurd (longer xs e)
  where
    longer : (zs : List Exchange) → z ∷ zs ++ x ∷ [] ≡ y ∷ [] → ⊥
    longer [] k = cc
    longer (w ∷ zs) k = cc
same_ends (z ∷ xs) (w ∷ ys) x y e =
    let rest = same_ends xs ys x y (tail e) in
    (ap₂ (λ (a : Exchange) (l : List Exchange). a ∷ l) (head e) rest.0, rest.1)
  where
    head : z ∷ xs ++ x ∷ [] ≡ w ∷ ys ++ y ∷ [] → z ≡ w
    head k = cc

    tail : z ∷ xs ++ x ∷ [] ≡ w ∷ ys ++ y ∷ [] → xs ++ x ∷ [] ≡ ys ++ y ∷ []
    tail k = cc

pub same_with_reply : (slot other : ℕ) (bytes : List ℕ) (t u : Table) → SameTable t u → IsLast slot t → IsLast other u → SameTable (with_reply slot bytes t) (with_reply other bytes u)
same_with_reply slot other bytes t u same l k =
    let ends = same_ends (map unplaced l.before) (map unplaced k.before) (unplaced l.last) (unplaced k.last)
    (sym (ap (λ (xs : List Exchange). map unplaced xs) l.are ∙ map-append unplaced l.before (l.last ∷ []))
    ∙ same.exchanges ∙ ap (λ (xs : List Exchange). map unplaced xs) k.are ∙ map-append unplaced k.before (k.last ∷ [])) in
    record {
      capacity = same.capacity;
      moment = same.moment;
      exchanges = after_reply slot bytes t l
          ∙ ap₂ (λ (xs : List Exchange) (x : Exchange). xs ++ record x { reply = Some bytes } ∷ []) ends.0 ends.1
          ∙ sym (after_reply other bytes u k);
    }
