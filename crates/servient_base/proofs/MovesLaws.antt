-- Laws of moves, proved once for all of them.
use Rattle.std.proofs.Common.{◌≡◌, List, [], ◌∷◌, ◌++◌, refl, sym, subst, append_assoc}
use Rattle.std.proofs.lemmas.List.{append-nil}
use Rattle.servient_base.specs.Moves.{Stays, Then, Passing, Each, Until, is_done, goes_on, ShowsInOrder, Makes, Refines}

-- The one law by which code that does one thing and then another is proved.
pub makes_then : {S X W : Type 0} (Shows : W → W → List X → Type 0) → ShowsInOrder Shows → (P Q : S → List X → S → Type 0) (s t u : S) (w v x : W) → Makes Shows P s t w v → Makes Shows Q t u v x → Makes Shows (Then P Q) s u w x
makes_then Shows order P Q s t u w v x p q = record {
  seen = p.seen ++ q.seen;
  move = record { mid = t; first = p.seen; second = q.seen; one = p.move; other = q.move; whole = refl };
  shows = order.more w v x p.seen q.seen p.shows q.shows;
}

-- a move is one of another kind
pub refines_as : {C S X W : Type 0} (StandsFor : C → S → Type 0) (Shows : W → W → List X → Type 0) (P Q : S → List X → S → Type 0) (c d : C) (w v : W)
    → ((s : S) (seen : List X) (t : S) → P s seen t → Q s seen t) → Refines StandsFor Shows P c d w v → Refines StandsFor Shows Q c d w v
refines_as StandsFor Shows P Q c d w v as_other p = λ s stands.
    let a = p s stands in
    (a.0, a.1, record { seen = a.2.seen; move = as_other s a.2.seen a.0 a.2.move; shows = a.2.shows })

-- nothing is done
pub refines_stays : {C S X W : Type 0} (StandsFor : C → S → Type 0) (Shows : W → W → List X → Type 0) → ShowsInOrder Shows → (c : C) (w : W)
    → Refines StandsFor Shows (λ (s : S). Stays s) c c w w
refines_stays StandsFor Shows order c w = λ s stands.
    (s, stands, record { seen = []; move = record { next = refl; saw = refl }; shows = order.none w })

-- one move and then another
pub refines_then : {C S X W : Type 0} (StandsFor : C → S → Type 0) (Shows : W → W → List X → Type 0) → ShowsInOrder Shows → (P Q : S → List X → S → Type 0) (c d e : C) (w v x : W)
    → Refines StandsFor Shows P c d w v → Refines StandsFor Shows Q d e v x → Refines StandsFor Shows (Then P Q) c e w x
refines_then StandsFor Shows order P Q c d e w v x p q = λ s stands.
    let a = p s stands in
    let b = q a.0 a.1 in
    (b.0, b.1, makes_then Shows order P Q s a.0 b.0 w v x a.2 b.2)

-- and with a result that is passed on
pub refines_passing : {C S X W A : Type 0} (StandsFor : C → S → Type 0) (Shows : W → W → List X → Type 0) → ShowsInOrder Shows → (P Q : A → S → List X → S → Type 0) (r : A) (c d e : C) (w v x : W)
    → Refines StandsFor Shows (P r) c d w v → Refines StandsFor Shows (Q r) d e v x → Refines StandsFor Shows (Passing P Q) c e w x
refines_passing StandsFor Shows order P Q r c d e w v x p q =
    refines_as StandsFor Shows (Then (P r) (Q r)) (Passing P Q) c e w x (λ s seen t both. (r, both))
    (refines_then StandsFor Shows order (P r) (Q r) c d e w v x p q)

-- a loop over some things: none is left
pub refines_each_none : {C S X W A : Type 0} (StandsFor : C → S → Type 0) (Shows : W → W → List X → Type 0) → ShowsInOrder Shows → (Move : A → S → List X → S → Type 0) (c : C) (w : W)
    → Refines StandsFor Shows (Each Move []) c c w w
refines_each_none StandsFor Shows order Move c w = refines_stays StandsFor Shows order c w

-- the moves for some things, and then for one more
pub each_more : {S X A : Type 0} (Move : A → S → List X → S → Type 0) (xs : List A) (y : A) (s m t : S) (a b : List X)
    → Each Move xs s a m → Move y m b t → Each Move (xs ++ y ∷ []) s (a ++ b) t
each_more {S} {X} Move [] y s m t a b each one = record {
  mid = t;
  first = b;
  second = [];
  one = subst (λ (u : S). Move y u b t) each.next one;
  other = record { next = refl; saw = refl };
  whole = subst (λ (c : List X). c ++ b ≡ b ++ []) (sym each.saw) (sym (append-nil b));
}
each_more {S} {X} Move (x ∷ xs) y s m t a b each one = record {
  mid = each.mid;
  first = each.first;
  second = each.second ++ b;
  one = each.one;
  other = each_more Move xs y each.mid m t each.second b each.other one;
  whole = subst (λ (c : List X). c ++ b ≡ each.first ++ (each.second ++ b)) (sym each.whole) (append_assoc each.first each.second b);
}

-- the same where what the code keeps only stands for a state
pub refines_each_more : {C S X W A : Type 0} (StandsFor : C → S → Type 0) (Shows : W → W → List X → Type 0) → ShowsInOrder Shows → (Move : A → S → List X → S → Type 0) (xs : List A) (y : A) (c d e : C) (w v x : W)
    → Refines StandsFor Shows (Each Move xs) c d w v → Refines StandsFor Shows (Move y) d e v x → Refines StandsFor Shows (Each Move (xs ++ y ∷ [])) c e w x
refines_each_more StandsFor Shows order Move xs y c d e w v x p q = λ s stands.
    let a = p s stands in
    let b = q a.0 a.1 in (
      b.0,
      b.1,
      record {
        seen = a.2.seen ++ b.2.seen;
        move = each_more Move xs y s a.0 b.0 a.2.seen b.2.seen a.2.move b.2.move;
        shows = order.more w v x a.2.seen b.2.seen a.2.shows b.2.shows;
      },
    )

-- a loop until nothing is left: it is done
pub refines_is_done : {C S X W : Type 0} (StandsFor : C → S → Type 0) (Shows : W → W → List X → Type 0) → ShowsInOrder Shows → (P : S → List X → S → Type 0) (IsDone : S → Type 0) (c : C) (w : W)
    → ((s : S) → StandsFor c s → IsDone s) → Refines StandsFor Shows (Until P IsDone) c c w w
refines_is_done StandsFor Shows order P IsDone c w ends = λ s stands.
    (s, stands, record { seen = []; move = is_done s [] s (ends s stands) (record { next = refl; saw = refl }); shows = order.none w })

-- once more, and then the rest
pub refines_goes_on : {C S X W : Type 0} (StandsFor : C → S → Type 0) (Shows : W → W → List X → Type 0) → ShowsInOrder Shows → (P : S → List X → S → Type 0) (IsDone : S → Type 0) (c d e : C) (w v x : W)
    → Refines StandsFor Shows P c d w v → Refines StandsFor Shows (Until P IsDone) d e v x → Refines StandsFor Shows (Until P IsDone) c e w x
refines_goes_on StandsFor Shows order P IsDone c d e w v x p q =
    refines_as StandsFor Shows (Then P (Until P IsDone)) (Until P IsDone) c e w x
    (λ s seen t both. goes_on s both.mid t seen both.first both.second both.one both.other both.whole)
    (refines_then StandsFor Shows order P (Until P IsDone) c d e w v x p q)
