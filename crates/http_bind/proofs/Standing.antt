-- The values held of all connections, and the streams that they stand for.
use Rattle.std.proofs.Common.{◌≡◌, ℕ, zero, suc, true, List, [], ◌∷◌, length, get_or, refl, sym, ap, subst, ◌∙◌, arith}
use Rattle.std.specs.Prelude.{Option, Some, None, IsSome, replicate}
use Rattle.std.proofs.lemmas.List.{get_or_read, get_or_default}
use Rattle.std.proofs.lemmas.List.Quantifiers.{position-Some}
use Rattle.std.specs.List.{position, position_or_len}
use Rattle.http_bind.specs.declared.owed.Owed.{Owed}
use Rattle.http_bind.specs.Streams.{Connection, Streams, connection_at, with_connection, without_wait, other_waits, is_idle}
use Rattle.http_bind.specs.Slots.{Held, Slots, HoldsIfOpen, HoldAll, StandsFor, Leads, held_at, with_held, without_wait_of, place_at, with_place, IsOpen, is_idle as is_idle_held}

holds_among : (c : ℕ) (b : List (Option Held)) (s : List (Option Connection)) → HoldAll b s → HoldsIfOpen (place_at c b) (connection_at c (record { places = s; waits = [] }))
holds_among c [] [] a = tt
holds_among c [] (x ∷ s) a = absurd a
holds_among c (h ∷ b) [] a = absurd a
holds_among zero (h ∷ b) (x ∷ s) a = a.0
holds_among (suc c) (h ∷ b) (x ∷ s) a = holds_among c b s a.1

pub holds_at : (c : ℕ) (b : Slots) (s : Streams) → StandsFor b s → HoldsIfOpen (held_at c b) (connection_at c s)
holds_at c b s a = holds_among c b.places s.places a.places

hold_with : (c : ℕ) (b : List (Option Held)) (s : List (Option Connection)) (h : Option Held) (x : Option Connection) → HoldAll b s → HoldsIfOpen h x →
    HoldAll (with_place c h b) (with_connection c x (record { places = s; waits = [] })).places
hold_with c [] [] h x a one = tt
hold_with c [] (y ∷ s) h x a one = absurd a
hold_with c (g ∷ b) [] h x a one = absurd a
hold_with zero (g ∷ b) (y ∷ s) h x a one = (one, a.1)
hold_with (suc c) (g ∷ b) (y ∷ s) h x a one = (a.0, hold_with c b s h x a.1 one)

pub stands_with : (c : ℕ) (b : Slots) (s : Streams) (h : Option Held) (x : Option Connection) → StandsFor b s → HoldsIfOpen h x →
    StandsFor (with_held c h b) (with_connection c x s)
stands_with c b s h x a one = record { places = hold_with c b.places s.places h x a.places one; waits = a.waits }

-- the same where the connection waits no longer
stands_without : (c : ℕ) (b : Slots) (s : Streams) → StandsFor b s → StandsFor (without_wait_of c b) (without_wait c s)
stands_without c b s a = record { places = a.places; waits = ap (other_waits c) a.waits }

-- a value that is put back changes nothing
same_places : (c : ℕ) (s : List (Option Connection)) → (with_connection c (connection_at c (record { places = s; waits = [] })) (record { places = s; waits = [] })).places ≡ s
same_places c [] = refl
same_places zero (x ∷ s) = refl
same_places (suc c) (x ∷ s) = ap (λ (t : List (Option Connection)). x ∷ t) (same_places c s)

pub same_with : (c : ℕ) (s : Streams) → with_connection c (connection_at c s) s ≡ s
same_with c s = ap (λ (xs : List (Option Connection)). record s { places = xs }) (same_places c s.places)

-- one connection is as it leads, and all others are as they were
pub leads_at : (c : ℕ) (b : Slots) (h : Option Held) (Does : Streams → Streams → Type 0) →
    ((s : Streams) → HoldsIfOpen (held_at c b) (connection_at c s) →
    (x : Option Connection) × HoldsIfOpen h x × Does s (with_connection c x s)) → Leads Does b (with_held c h b)
leads_at c b h Does one = λ s stands.
    let x = one s (holds_at c b s stands) in
    (with_connection c x.0 s, stands_with c b s h x.0 stands x.1, x.2)

-- one connection is as it leads and waits no longer, and all others are as they were
pub leads_left : (c : ℕ) (b : Slots) (h : Option Held) (Does : Streams → Streams → Type 0) →
    ((s : Streams) → HoldsIfOpen (held_at c b) (connection_at c s) →
    (x : Option Connection) × HoldsIfOpen h x × Does s (with_connection c x (without_wait c s))) → Leads Does b (with_held c h (without_wait_of c b))
leads_left c b h Does one = λ s stands.
    let x = one s (holds_at c b s stands) in
    (with_connection c x.0 (without_wait c s), stands_with c (without_wait_of c b) (without_wait c s) h x.0 (stands_without c b s stands) x.1, x.2)

-- nothing is held of closed connections
hold_none : (n : ℕ) → HoldAll (replicate n None) (replicate n None)
hold_none zero = tt
hold_none (suc n) = (tt, hold_none n)

pub stands_closed : (n : ℕ) → StandsFor (record { places = replicate n None; waits = [] }) (record { places = replicate n None; waits = [] })
stands_closed n = record { places = hold_none n; waits = refl }

-- ---- idle connections

idle_alike : (now : ℕ) (h : Option Held) (x : Option Connection) → HoldsIfOpen h x → is_idle_held now h ≡ is_idle now x
idle_alike now None None a = refl
idle_alike now None (Some x) a = absurd a
idle_alike now (Some h) None a = absurd a
idle_alike now (Some h) (Some x) a =
    ap (λ (n : ℕ). is_idle now (Some (record x { owed = h.owed; active = n }))) a.active ∙ ap (λ (o : Option Owed). is_idle now (Some (record x { owed = o }))) a.owed

first_alike : (now : ℕ) (b : List (Option Held)) (s : List (Option Connection)) → HoldAll b s → position_or_len (is_idle_held now) b ≡ position_or_len (is_idle now) s
first_alike now [] [] a = refl
first_alike now [] (x ∷ s) a = absurd a
first_alike now (h ∷ b) [] a = absurd a
first_alike now (h ∷ b) (x ∷ s) a = rw (idle_alike now h x a.0, first_alike now b s a.1) refl

lengths_alike : (b : List (Option Held)) (s : List (Option Connection)) → HoldAll b s → length b ≡ length s
lengths_alike [] [] a = refl
lengths_alike [] (x ∷ s) a = absurd a
lengths_alike (h ∷ b) [] a = absurd a
lengths_alike (h ∷ b) (x ∷ s) a = let rest = lengths_alike b s a.1 in omega (arith, rest)

idle_first : (now : ℕ) (b : List (Option Held)) (s : List (Option Connection)) → HoldAll b s → position (is_idle_held now) b ≡ position (is_idle now) s
idle_first now b s a = rw (first_alike now b s a, lengths_alike b s a) refl

-- the code's finding among its slots
pub idle_is : (now : ℕ) (b : Slots) (s : Streams) (r : Option ℕ) {found items : List (Option Held)} → items ≡ b.places → found ≡ items → r ≡ position (is_idle_held now) found →
    StandsFor b s → position (is_idle now) s.places ≡ r
idle_is now b s r {found} {items} all same first stands =
    sym (idle_first now b.places s.places stands.places) ∙ ap (position (is_idle_held now)) (sym all ∙ sym same) ∙ sym first

-- one that is idle is open
idle_held : (now : ℕ) (h : Option Held) → is_idle_held now h ≡ true → IsSome h
idle_held now None is = absurd (cc)
idle_held now (Some h) is = refl

-- the first that is idle is open
pub idle_is_open : (now c : ℕ) (b : Slots) (r : Option ℕ) {found items : List (Option Held)} → items ≡ b.places → found ≡ items → r ≡ position (is_idle_held now) found → r ≡ Some c → IsOpen c b
idle_is_open now c b r {found} {items} all same first is =
    let at = position-Some (is_idle_held now) found c None (sym first ∙ is) in
    subst (λ (xs : List (Option Held)). IsSome (place_at c xs)) (same ∙ all)
    (subst (λ (h : Option Held). IsSome h) (get_or_read found c (get_or found c None) at.0 (get_or_default found c None (get_or found c None) at.0) None)
    (idle_held now (get_or found c None) at.1))
