-- The connections and their waits: what a change of one connection leaves of another's.
use Rattle.std.proofs.Common.{◌≡◌, ◌≢◌, ◌<◌, ◌==◌, ◌||◌, ◌⊎◌, ℕ, zero, suc, Bool, true, false, cond, not, List, [], ◌∷◌, ◌++◌, length, find, slice_index_or, slice_set, Option, Some, None, option_map, refl, sym, ap, subst, ◌∙◌, arith, inl, inr, All, Contains}
use Rattle.std.proofs.lemmas.Bool.Decides.{nat_tests}
use Rattle.std.proofs.lemmas.List.{get_or-set_other, get_or-set_same}
use Rattle.std.proofs.lemmas.List.Elements.{Contains-append_right, All-contains, All-cons, All-nil, All-weaker}
use Rattle.std.proofs.lemmas.Option.{same_Some}
use Rattle.http_bind.specs.declared.owed.Owed.{Owed}
use Rattle.http_bind.specs.declared.waits.Wait.{Wait}
use Rattle.http_bind.specs.Streams.{Connection, Streams, connection_at, with_connection, without_wait, other_waits, is_wait_of, is_waiting, oldest, lengthened}
use Rattle.http_bind.proofs.WaitLists.{others_wait, one_more_waits}

-- ---- numbers and tests

pub apart_of : (c d : ℕ) → (c == d) ≡ false → c ≢ d
apart_of c d test = grind (arith, nat_tests)

pub same_of : (c d : ℕ) → (c == d) ≡ true → c ≡ d
same_of c d test = grind (arith, nat_tests)

pub turned : (c d : ℕ) → (c == d) ≡ false → (d == c) ≡ false
turned c d test = grind (arith, nat_tests)

pub isnt_both : (t : Bool) → t ≡ true → t ≡ false → ⊥
isnt_both t one other = cc

pub false_unless : (t : Bool) → (t ≡ true → ⊥) → t ≡ false
false_unless true isnt = absurd (isnt refl)
false_unless false isnt = refl

-- ---- one of those that wait

abbrev pub IsAmong : Wait → List Wait → Type 0
IsAmong v [] = ⊥
IsAmong v (x ∷ ws) = (x ≡ v) ⊎ IsAmong v ws

all_among : (ws : List Wait) → All (λ v. IsAmong v ws) ws
all_among [] = All-nil (λ v. IsAmong v [])
all_among (x ∷ ws) = All-cons (λ v. IsAmong v (x ∷ ws)) x ws (inl refl) (All-weaker (λ v. IsAmong v ws) (λ v. IsAmong v (x ∷ ws)) (λ v there. inr there) ws (all_among ws))

pub among_of : (v : Wait) (ws : List Wait) → Contains ws v → IsAmong v ws
among_of v ws is = All-contains (λ u. IsAmong u ws) ws v (all_among ws) is

pub contains_of : (v : Wait) (ws : List Wait) → IsAmong v ws → Contains ws v
contains_of v [] there = absurd there
contains_of v (x ∷ ws) (inl same) = (0, omega arith, same)
contains_of v (x ∷ ws) (inr there) = Contains-append_right (x ∷ []) ws v (contains_of v ws there)

pub among_more : (v x : Wait) (ws : List Wait) → IsAmong v (ws ++ x ∷ []) → IsAmong v ws ⊎ (x ≡ v)
among_more v x [] (inl same) = inr same
among_more v x [] (inr none) = absurd none
among_more v x (y ∷ ws) (inl same) = inl (inl same)
among_more v x (y ∷ ws) (inr there) = by (among_more v x ws there)
  where
    by : IsAmong v ws ⊎ (x ≡ v) → IsAmong v (y ∷ ws) ⊎ (x ≡ v)
    by (inl is) = inl (inr is)
    by (inr same) = inr same

pub more_among : (v x : Wait) (ws : List Wait) → IsAmong v ws → IsAmong v (ws ++ x ∷ [])
more_among v x [] there = absurd there
more_among v x (y ∷ ws) (inl same) = inl same
more_among v x (y ∷ ws) (inr there) = inr (more_among v x ws there)

pub last_among : (x : Wait) (ws : List Wait) → IsAmong x (ws ++ x ∷ [])
last_among x [] = inl refl
last_among x (y ∷ ws) = inr (last_among x ws)

-- one of the waits of other connections
pub among_others : (c : ℕ) (v : Wait) (ws : List Wait) → IsAmong v (other_waits c ws) → IsAmong v ws × ((c == v.connection) ≡ false)
among_others c v [] there = absurd there
among_others c v (x ∷ ws) there = by (λ is. let both = among_others c v ws is in (inr both.0, both.1)) (is_wait_of c x) refl there
  where
    by : (IsAmong v (other_waits c ws) → IsAmong v (x ∷ ws) × ((c == v.connection) ≡ false)) → (t : Bool) → is_wait_of c x ≡ t → IsAmong v (cond (not t) (x ∷ other_waits c ws) (other_waits c ws)) → IsAmong v (x ∷ ws) × ((c == v.connection) ≡ false)
    by behind true test is = behind is
    by behind false test (inl same) = (inl same, subst (λ (y : Wait). (c == y.connection) ≡ false) same test)
    by behind false test (inr is) = behind is

pub others_among : (c : ℕ) (v : Wait) (ws : List Wait) → IsAmong v ws → (c == v.connection) ≡ false → IsAmong v (other_waits c ws)
others_among c v [] there isnt = absurd there
others_among c v (x ∷ ws) there isnt = by (λ is. others_among c v ws is isnt) (is_wait_of c x) refl there
  where
    by : (IsAmong v ws → IsAmong v (other_waits c ws)) → (t : Bool) → is_wait_of c x ≡ t → IsAmong v (x ∷ ws) → IsAmong v (cond (not t) (x ∷ other_waits c ws) (other_waits c ws))
    by behind true test (inl same) = absurd (isnt_both (c == x.connection) test (subst (λ (y : Wait). (c == y.connection) ≡ false) (sym same) isnt))
    by behind true test (inr is) = behind is
    by behind false test (inl same) = inl same
    by behind false test (inr is) = inr (behind is)

-- whether a connection waits, and who does
pub is_waiting_of : (v : Wait) (ws : List Wait) → IsAmong v ws → is_waiting v.connection ws ≡ true
is_waiting_of v [] there = absurd there
is_waiting_of v (x ∷ ws) (inl same) = ahead (is_wait_of v.connection x) (let e : x.connection ≡ v.connection = ap (λ (y : Wait). y.connection) same in grind (arith, nat_tests))
  where
    ahead : (t : Bool) → t ≡ true → (t || is_waiting v.connection ws) ≡ true
    ahead true e = refl
    ahead false e = absurd (isnt_both false e refl)
is_waiting_of v (x ∷ ws) (inr there) = behind (is_wait_of v.connection x) (is_waiting_of v ws there)
  where
    behind : (t : Bool) → is_waiting v.connection ws ≡ true → (t || is_waiting v.connection ws) ≡ true
    behind true e = refl
    behind false e = e

-- no wait of a connection that doesn't wait
pub other_than : (c : ℕ) (v : Wait) (ws : List Wait) → is_waiting c ws ≡ false → IsAmong v ws → (v.connection == c) ≡ false
other_than c v ws none there =
    false_unless (v.connection == c) (λ is. isnt_both (is_waiting c ws) (subst (λ (d : ℕ). is_waiting d ws ≡ true) (same_of v.connection c is) (is_waiting_of v ws there)) none)

pub still_none : (c d : ℕ) (ws : List Wait) → is_waiting c ws ≡ false → is_waiting c (other_waits d ws) ≡ false
still_none c d ws none = false_unless (is_waiting c (other_waits d ws)) (λ is. isnt_both (is_waiting c ws) (others_wait d c ws is) none)

pub none_with : (c : ℕ) (x : Wait) (ws : List Wait) → is_waiting c ws ≡ false → (c == x.connection) ≡ false → is_waiting c (ws ++ x ∷ []) ≡ false
none_with c x ws none isnt = false_unless (is_waiting c (ws ++ x ∷ [])) (λ is. by (one_more_waits c x ws is))
  where
    by : (is_waiting c ws ≡ true) ⊎ (c ≡ x.connection) → ⊥
    by (inl is) = isnt_both (is_waiting c ws) is none
    by (inr same) = apart_of c x.connection isnt same

-- the oldest of some, and that there is none
pub record Oldest (test : Wait → Bool) (d : ℕ) (ws : List Wait) : Type 0 where
  pub wait : Wait
  pub there : IsAmong wait ws
  pub connection : wait.connection ≡ d
  pub passes : test wait ≡ true

pub oldest_is : (test : Wait → Bool) (d : ℕ) (ws : List Wait) → oldest test ws ≡ Some d → Oldest test d ws
oldest_is test d [] is = absurd (let e : None ≡ Some d = is in cc)
oldest_is test d (x ∷ ws) is = by (oldest_is test d ws) (test x) refl is
  where
    by : (oldest test ws ≡ Some d → Oldest test d ws) → (t : Bool) → test x ≡ t → option_map (λ v. v.connection) (cond t (Some x) (find test ws)) ≡ Some d → Oldest test d (x ∷ ws)
    by behind true passes same = record { wait = x; there = inl refl; connection = same_Some x.connection d same; passes = passes }
    by behind false passes rest = let o = behind rest in record { wait = o.wait; there = inr o.there; connection = o.connection; passes = o.passes }

pub none_oldest : (test : Wait → Bool) (v : Wait) (ws : List Wait) → oldest test ws ≡ None → IsAmong v ws → test v ≡ false
none_oldest test v [] none there = absurd there
none_oldest test v (x ∷ ws) none there = by (none_oldest test v ws) (test x) refl none there
  where
    by : (oldest test ws ≡ None → IsAmong v ws → test v ≡ false) → (t : Bool) → test x ≡ t → option_map (λ y. y.connection) (cond t (Some x) (find test ws)) ≡ None → IsAmong v (x ∷ ws) → test v ≡ false
    by behind true passes is there = absurd (let e : Some x.connection ≡ None = is in cc)
    by behind false passes is (inl same) = subst (λ (y : Wait). test y ≡ false) same passes
    by behind false passes is (inr there) = behind is there

-- ---- connections

-- a connection is open and owes this
pub record Owes (c : ℕ) (o : Owed) (h : Streams) : Type 0 where
  pub connection : Connection
  pub is : connection_at c h ≡ Some connection
  pub owed : connection.owed ≡ Some o

-- each request that waits is owed its reply, and no connection has two
pub record IsSound (h : Streams) : Type 0 where
  pub owed : (v : Wait) → IsAmong v h.waits → (o : Owed) × Owes v.connection o h
  pub apart : (u v : Wait) → IsAmong u h.waits → IsAmong v h.waits → u.connection ≡ v.connection → u ≡ v

-- there is a place for a connection that is open
place_of : (c : ℕ) (ps : List (Option Connection)) (x : Connection) → slice_index_or ps c None ≡ Some x → c < length ps
place_of zero [] x is = absurd (let e : None ≡ Some x = is in cc)
place_of zero (p ∷ ps) x is = omega arith
place_of (suc c) [] x is = absurd (let e : None ≡ Some x = is in cc)
place_of (suc c) (p ∷ ps) x is = let below = place_of c ps x is in omega (arith, below)

pub here_is : (c : ℕ) (x : Connection) (y : Option Connection) (h : Streams) → connection_at c h ≡ Some x → connection_at c (with_connection c y h) ≡ y
here_is c x y h is = get_or-set_same h.places c y None (place_of c h.places x is)

-- closed or ended, wherever it was
pub none_here : (c : ℕ) (h : Streams) → connection_at c (with_connection c None h) ≡ None
none_here c h = by h.places c
  where
    by : (ps : List (Option Connection)) (n : ℕ) → slice_index_or (slice_set ps n None) n None ≡ None
    by [] zero = refl
    by [] (suc n) = refl
    by (p ∷ ps) zero = refl
    by (p ∷ ps) (suc n) = by ps n

pub there_is : (c d : ℕ) (y : Option Connection) (h : Streams) → (d == c) ≡ false → connection_at c (with_connection d y h) ≡ connection_at c h
there_is c d y h isnt = get_or-set_other h.places d c y None (apart_of c d (turned d c isnt))

pub owes_there : (c d : ℕ) (o : Owed) (y : Option Connection) (ws : List Wait) (h : Streams) → (d == c) ≡ false → Owes c o h → Owes c o (with_connection d y (record h { waits = ws }))
owes_there c d o y ws h isnt owes = record { connection = owes.connection; is = there_is c d y h isnt ∙ owes.is; owed = owes.owed }

-- ---- changes keep what is sound

-- a connection changes, and waits no longer
pub cut_sound : (d : ℕ) (y : Option Connection) (h k : Streams) → k ≡ with_connection d y (without_wait d h) → IsSound h → IsSound k
cut_sound d y h k is s = subst IsSound (sym is) (record {
  owed = λ v there. let both = among_others d v h.waits there in let o = s.owed v both.0 in (o.0, owes_there v.connection d o.0 y (other_waits d h.waits) h both.1 o.1);
  apart = λ u v one other same. s.apart u v (among_others d u h.waits one).0 (among_others d v h.waits other).0 same;
})

-- bytes come on a connection
pub lengthened_here : (c : ℕ) (o : Owed) (piece : List ℕ) (now : ℕ) (h : Streams) → Owes c o h → Owes c o (with_connection c (option_map (lengthened piece now) (connection_at c h)) h)
lengthened_here c o piece now h owes = record {
  connection = lengthened piece now owes.connection;
  is = here_is c owes.connection (option_map (lengthened piece now) (connection_at c h)) h owes.is ∙ ap (λ (x : Option Connection). option_map (lengthened piece now) x) owes.is;
  owed = owes.owed;
}

pub lengthened_owes : (c d : ℕ) (o : Owed) (piece : List ℕ) (now : ℕ) (h : Streams) → Owes c o h → Owes c o (with_connection d (option_map (lengthened piece now) (connection_at d h)) h)
lengthened_owes c d o piece now h owes = by (d == c) refl
  where
    by : (t : Bool) → (d == c) ≡ t → Owes c o (with_connection d (option_map (lengthened piece now) (connection_at d h)) h)
    by true test = subst (λ (e : ℕ). Owes c o (with_connection e (option_map (lengthened piece now) (connection_at e h)) h)) (sym (same_of d c test)) (lengthened_here c o piece now h owes)
    by false test = owes_there c d o (option_map (lengthened piece now) (connection_at d h)) h.waits h test owes

pub lengthened_sound : (d : ℕ) (piece : List ℕ) (now : ℕ) (h k : Streams) → k ≡ with_connection d (option_map (lengthened piece now) (connection_at d h)) h → IsSound h → IsSound k
lengthened_sound d piece now h k is s = subst IsSound (sym is) (record {
  owed = λ v there. let o = s.owed v there in (o.0, lengthened_owes v.connection d o.0 piece now h o.1);
  apart = s.apart;
})

-- a request begins to wait
pub begun_sound : (w : Wait) (o : Owed) (h k : Streams) → k ≡ record h { waits = other_waits w.connection h.waits ++ w ∷ [] } → Owes w.connection o h → IsSound h → IsSound k
begun_sound w o h k is owes s = subst IsSound (sym is) (record { owed = λ v there. owed_by v (among_more v w (other_waits w.connection h.waits) there); apart = apart_by })
  where
    same_places : (c : ℕ) (p : Owed) → Owes c p h → Owes c p (record h { waits = other_waits w.connection h.waits ++ w ∷ [] })
    same_places c p one = record { connection = one.connection; is = one.is; owed = one.owed }

    owed_by : (v : Wait) → IsAmong v (other_waits w.connection h.waits) ⊎ (w ≡ v) → (p : Owed) × Owes v.connection p (record h { waits = other_waits w.connection h.waits ++ w ∷ [] })
    owed_by v (inl there) = let p = s.owed v (among_others w.connection v h.waits there).0 in (p.0, same_places v.connection p.0 p.1)
    owed_by v (inr same) =
        subst (λ (x : Wait). (p : Owed) × Owes x.connection p (record h { waits = other_waits w.connection h.waits ++ w ∷ [] })) same (o, same_places w.connection o owes)

    by : (u v : Wait) → IsAmong u (other_waits w.connection h.waits) ⊎ (w ≡ u) → IsAmong v (other_waits w.connection h.waits) ⊎ (w ≡ v) → u.connection ≡ v.connection → u ≡ v
    by u v (inl one) (inl other) same = s.apart u v (among_others w.connection u h.waits one).0 (among_others w.connection v h.waits other).0 same
    by u v (inl one) (inr is) same = absurd (apart_of w.connection u.connection (among_others w.connection u h.waits one).1 (ap (λ (x : Wait). x.connection) is ∙ sym same))
    by u v (inr is) (inl other) same = absurd (apart_of w.connection v.connection (among_others w.connection v h.waits other).1 (ap (λ (x : Wait). x.connection) is ∙ same))
    by u v (inr one) (inr other) same = sym one ∙ other

    apart_by : (u v : Wait) → IsAmong u (other_waits w.connection h.waits ++ w ∷ []) → IsAmong v (other_waits w.connection h.waits ++ w ∷ []) → u.connection ≡ v.connection → u ≡ v
    apart_by u v one other same = by u v (among_more u w (other_waits w.connection h.waits) one) (among_more v w (other_waits w.connection h.waits) other) same
