-- Each call keeps the invariant of the connections.
use Rattle.std.proofs.Common.{◌≡◌, ℕ, zero, suc, ◌<◌, ◌⊎◌, inl, inr, Bool, true, false, List, [], ◌∷◌, ◌++◌, length, refl, sym, subst, ◌∙◌, arith, length-append}
use Rattle.std.specs.Prelude.{Option, None, IsSome, replicate, eqb}
use Rattle.std.specs.List.{IsDistinct}
use Rattle.http_bind.specs.declared.owed.Owed.{Owed}
use Rattle.http_bind.specs.declared.waits.Wait.{Wait}
use Rattle.http_bind.specs.Streams.{is_waiting, other_waits}
use Rattle.http_bind.specs.Slots.{Held, Slots, place_at, with_place, held_at, with_held, without_wait_of, with_wait, HasRoomFor, IsOwed, IsWaiting, IsSound, owed_in, nothing_held}
use Rattle.http_bind.proofs.WaitLists.{none_is_left, others_wait, others_are_all, once_without, once_with, one_more_waits, few_wait}

-- a property of each place stays so where a value is put that has it
pub each_with : (P : ℕ → Option Held → Type 0) (c : ℕ) (x : Option Held) (places : List (Option Held)) → ((d : ℕ) → P d (place_at d places)) → P c x → (d : ℕ) →
    P d (place_at d (with_place c x places))
each_with P c x [] all one d = all d
each_with P zero x (y ∷ ys) all one zero = one
each_with P zero x (y ∷ ys) all one (suc d) = all (suc d)
each_with P (suc c) x (y ∷ ys) all one zero = all zero
each_with P (suc c) x (y ∷ ys) all one (suc d) = each_with (λ e. P (suc e)) c x ys (λ e. all (suc e)) one d

length_with : (c : ℕ) (x : Option Held) (places : List (Option Held)) → length (with_place c x places) ≡ length places
length_with c x [] = refl
length_with zero x (y ∷ ys) = refl
length_with (suc c) x (y ∷ ys) = let more = length_with c x ys in omega (arith, more)

-- the value that was put there is there
pub place_after : (c : ℕ) (places : List (Option Held)) (x : Option Held) → c < length places → place_at c (with_place c x places) ≡ x
place_after c [] x within = absurd (omega arith)
place_after zero (h ∷ b) x within = refl
place_after (suc c) (h ∷ b) x within = place_after c b x (omega arith)

-- a connection that is owed a reply is one of them
pub owed_within : (c : ℕ) (places : List (Option Held)) → IsSome (owed_in (place_at c places)) → c < length places
owed_within c [] owed = absurd (none owed)
  where
    none : IsSome (owed_in None) → ⊥
    none is = cc
owed_within zero (h ∷ b) owed = omega arith
owed_within (suc c) (h ∷ b) owed = let more = owed_within c b owed in omega (arith, more)

pub owed_below : (c : ℕ) (b : Slots) → IsSound b → IsOwed c b → c < 64
owed_below c b s owed = omega (arith, owed_within c b.places owed, s.count)

-- one that waits is one of them
pub waiting_below : (c : ℕ) (b : Slots) → IsSound b → IsWaiting c b → c < 64
waiting_below c b s waits = owed_below c b s (s.owed c waits)

isnt_true : (t : Bool) → t ≡ false → t ≡ true → ⊥
isnt_true t is isnt = cc

-- a connection is left as something, and waits no longer
pub left_sound : (c : ℕ) (x : Option Held) (b : Slots) → IsSound b → HasRoomFor 0 x → IsSound (with_held c x (without_wait_of c b))
left_sound c x b s few = record {
  count = length_with c x b.places ∙ s.count;
  bounded = each_with (λ d y. HasRoomFor 0 y) c x b.places s.bounded few;
  owed = each_with (λ d y. is_waiting d (other_waits c b.waits) ≡ true → IsSome (owed_in y)) c x b.places (λ d is. s.owed d (others_wait c d b.waits is))
      (λ is. absurd (isnt_true _ (none_is_left c b.waits) is));
  once = once_without c b.waits s.once;
}

-- a connection is left as something that is owed a reply if it was owed one
pub kept_sound : (c : ℕ) (x : Option Held) (b : Slots) → IsSound b → HasRoomFor 0 x → (IsOwed c b → IsSome (owed_in x)) → IsSound (with_held c x b)
kept_sound c x b s few owed = record {
  count = length_with c x b.places ∙ s.count;
  bounded = each_with (λ d y. HasRoomFor 0 y) c x b.places s.bounded few;
  owed = each_with (λ d y. is_waiting d b.waits ≡ true → IsSome (owed_in y)) c x b.places s.owed (λ is. owed (s.owed c is));
  once = s.once;
}

owed_with : (c target now : ℕ) (b : Slots) → IsSound b → IsOwed c b → (d : ℕ) → IsWaiting d (with_wait c target now b) → IsOwed d b
owed_with c target now b s owed d is = by (one_more_waits d (record { connection = c; target = target; since = now }) (other_waits c b.waits) is)
  where
    by : (is_waiting d (other_waits c b.waits) ≡ true) ⊎ (d ≡ c) → IsOwed d b
    by (inl there) = s.owed d (others_wait c d b.waits there)
    by (inr same) = subst (λ (e : ℕ). IsOwed e b) (sym same) owed

-- a connection that is owed a reply waits
pub wait_sound : (c target now : ℕ) (b : Slots) → IsSound b → IsOwed c b → IsSound (with_wait c target now b)
wait_sound c target now b s owed = record {
  count = s.count;
  bounded = s.bounded;
  owed = owed_with c target now b s owed;
  once = once_with (record { connection = c; target = target; since = now }) (other_waits c b.waits) (once_without c b.waits s.once) (none_is_left c b.waits);
}

-- so there is room for it
pub wait_fits : (c : ℕ) (b : Slots) → IsSound b → IsOwed c b → length (other_waits c b.waits) < 64
wait_fits c b s owed =
    let w : Wait = record { connection = c; target = 0; since = 0 } in
    let all = wait_sound c 0 0 b s owed in
    let few = few_wait (other_waits c b.waits ++ w ∷ []) 64 all.once (λ d is. waiting_below d (with_wait c 0 0 b) all is) in
    omega (arith, few, length-append (other_waits c b.waits) (w ∷ []))

isnt_some : (o : Option Owed) → o ≡ None → IsSome o → ⊥
isnt_some o none some = cc

-- one that is owed nothing doesn't wait
pub unowed_waits_not : (c : ℕ) (b : Slots) → IsSound b → owed_in (held_at c b) ≡ None → other_waits c b.waits ≡ b.waits
unowed_waits_not c b s none = others_are_all c b.waits (by (is_waiting c b.waits) refl)
  where
    by : (t : Bool) → is_waiting c b.waits ≡ t → t ≡ false
    by true is = absurd (isnt_some (owed_in (held_at c b)) none (s.owed c is))
    by false is = refl

-- nothing is held, and none waits
abbrev nothing : ℕ → List (Option Held)
nothing n = replicate n None

none_held : (n c : ℕ) → place_at c (nothing n) ≡ None
none_held zero c = refl
none_held (suc n) zero = refl
none_held (suc n) (suc c) = none_held n c

none_counted : (n : ℕ) → length (nothing n) ≡ n
none_counted zero = refl
none_counted (suc n) = let more = none_counted n in omega (arith, more)

isnt_waiting : (c : ℕ) → is_waiting c [] ≡ true → ⊥
isnt_waiting c is = cc

nothing_twice : IsDistinct eqb []
unfolding IsDistinct
nothing_twice = tt

pub none_sound : (items : List (Option Held)) (ws : List Wait) → items ≡ nothing_held → ws ≡ [] → IsSound (record { places = items; waits = ws })
none_sound items ws closed none =
    subst (λ (xs : List (Option Held)). IsSound (record { places = xs; waits = ws })) (sym closed)
    (subst (λ (vs : List Wait). IsSound (record { places = nothing 64; waits = vs })) (sym none) (record {
      count = none_counted 64;
      bounded = λ c. subst (HasRoomFor 0) (sym (none_held 64 c)) tt;
      owed = λ c is. absurd (isnt_waiting c is);
      once = nothing_twice;
    }))
