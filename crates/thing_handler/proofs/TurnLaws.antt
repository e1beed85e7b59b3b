-- Laws of the turns of a run.
use Rattle.std.proofs.Common.{◌≡◌, ◌≢◌, ℕ, zero, suc, ◌+◌, ◌<◌, List, [], ◌∷◌, ◌++◌, length, set, Some, refl, sym, ap, subst, ◌∙◌, arith, append_assoc, true, false, eqb, inl, inr, add-zero}
use Rattle.std.specs.Prelude.{slice_get}
use Rattle.std.specs.List.{AllByRecursion}
use Rattle.std.proofs.lemmas.Bool.{cases_eq, eq-eqb, ne_eqb}
use Rattle.std.proofs.lemmas.List.{append-nil}
use Rattle.std.proofs.lemmas.Option.{same_Some}
use Rattle.thing_handler.specs.declared.handler.Turn.{Turn}
use Rattle.thing_handler.specs.Handler.{Seen}
use Rattle.thing_handler.specs.Turns.{RunTurn, kept_turn, turns_of_slot, AreNumberedFrom, GrewBy}

-- handlers that stayed as they were grew by no turns
pub grew_by_none : (slot : ℕ) (slots : List Seen) → GrewBy [] slot slots slots
grew_by_none slot [] = tt
grew_by_none slot (h ∷ slots) = (refl, sym (append-nil h.turns), grew_by_none (suc slot) slots)

-- the turns of a slot in two parts of a run
pub turns_of_slot-append : (slot : ℕ) (ps qs : List RunTurn) → turns_of_slot slot (ps ++ qs) ≡ turns_of_slot slot ps ++ turns_of_slot slot qs
turns_of_slot-append slot [] qs = refl
turns_of_slot-append slot (p ∷ ps) qs = elim (cases_eq p.slot slot) [
  | inl same ↦ let t : eqb p.slot slot ≡ true = eq-eqb p.slot slot same in rw t (ap (λ (ts : List Turn). kept_turn p ∷ ts) (turns_of_slot-append slot ps qs))
  | inr other ↦ let f : eqb p.slot slot ≡ false = ne_eqb p.slot slot other in rw f (turns_of_slot-append slot ps qs)
]

pub numbered_then : (first : ℕ) (ps qs : List RunTurn) → AreNumberedFrom first ps → AreNumberedFrom (first + length ps) qs → AreNumberedFrom first (ps ++ qs)
numbered_then first [] qs a b = subst (λ (n : ℕ). AreNumberedFrom n qs) (omega arith) b
numbered_then first (p ∷ ps) qs a b =
    (a.0, numbered_then (first + 1) ps qs a.1 (subst (λ (n : ℕ). AreNumberedFrom n qs) (omega arith) b))

pub grew_by_then : (ps qs : List RunTurn) (slot : ℕ) (old mid new : List Seen) → GrewBy ps slot old mid → GrewBy qs slot mid new → GrewBy (ps ++ qs) slot old new
grew_by_then ps qs slot [] [] [] a b = tt
grew_by_then ps qs slot [] [] (z ∷ new) a b = b
grew_by_then ps qs slot [] (y ∷ mid) new a b = absurd a
grew_by_then ps qs slot (x ∷ old) [] new a b = absurd a
grew_by_then ps qs slot (x ∷ old) (y ∷ mid) [] a b = absurd b
grew_by_then ps qs slot (x ∷ old) (y ∷ mid) (z ∷ new) a b = (
  b.0 ∙ a.0,
  b.1 ∙ ap (λ (ts : List Turn). ts ++ turns_of_slot slot qs) a.1 ∙ append_assoc x.turns (turns_of_slot slot ps) (turns_of_slot slot qs) ∙ ap (λ (ts : List Turn). x.turns ++ ts) (sym (turns_of_slot-append slot ps qs)),
  grew_by_then ps qs (suc slot) old mid new a.2 b.2,
)

-- as many handlers as before
pub as_many : (turns : List RunTurn) (from : ℕ) (before after : List Seen) → GrewBy turns from before after → length after ≡ length before
as_many turns from [] [] g = refl
as_many turns from [] (k ∷ after) g = absurd g
as_many turns from (h ∷ before) [] g = absurd g
as_many turns from (h ∷ before) (k ∷ after) g = ap (λ (n : ℕ). suc n) (as_many turns (suc from) before after g.2)

pub stand_then : (count : ℕ) (ps qs : List RunTurn) → AllByRecursion (λ t. t.slot < count) ps → AllByRecursion (λ t. t.slot < count) qs → AllByRecursion (λ t. t.slot < count) (ps ++ qs)
stand_then count [] qs a b = b
stand_then count (p ∷ ps) qs a b = (a.0, stand_then count ps qs a.1 b)

-- one handler grew by the turns of its slot, and the turns have none of another slot
pub grew_by_set : (turns : List RunTurn) (slot from i : ℕ) (slots : List Seen) (x y : Seen) → slot ≡ from + i → slice_get slots i ≡ Some x → y.kind ≡ x.kind → y.turns ≡ x.turns ++ turns_of_slot slot turns → ((other : ℕ) → other ≢ slot → turns_of_slot other turns ≡ []) → GrewBy turns from slots (set slots i y)
grew_by_set turns slot from i [] x y place stood kind grown others = absurd cc
grew_by_set turns slot from zero (h ∷ slots) x y place stood kind grown others =
    let same : h ≡ x = same_Some h x stood in
    let here : slot ≡ from = omega arith in
    (kind ∙ ap (λ (s : Seen). s.kind) (sym same), grown ∙ ap (λ (s : Seen). s.turns ++ turns_of_slot slot turns) (sym same) ∙ ap (λ (n : ℕ). h.turns ++ turns_of_slot n turns) here, stays (suc from) slots (omega arith))
  where
    stays : (next : ℕ) (rest : List Seen) → slot < next → GrewBy turns next rest rest
    stays next [] above = tt
    stays next (k ∷ rest) above =
        let differs : next ≢ slot = omega arith in
        (refl, sym (append-nil k.turns) ∙ ap (λ (ts : List Turn). k.turns ++ ts) (sym (others next differs)), stays (suc next) rest (omega arith))
grew_by_set turns slot from (suc i) (h ∷ slots) x y place stood kind grown others =
    let differs : from ≢ slot = omega arith in
    (refl, sym (append-nil h.turns) ∙ ap (λ (ts : List Turn). h.turns ++ ts) (sym (others from differs)), grew_by_set turns slot (suc from) i slots x y (omega arith) stood kind grown others)

-- a turn is one of its slot and of no other
pub of_slot : (t : RunTurn) → turns_of_slot t.slot (t ∷ []) ≡ kept_turn t ∷ []
of_slot t = let e : eqb t.slot t.slot ≡ true = eq-eqb t.slot t.slot refl in rw e refl

pub of_other : (t : RunTurn) (other : ℕ) → other ≢ t.slot → turns_of_slot other (t ∷ []) ≡ []
of_other t other differs = let f : eqb t.slot other ≡ false = ne_eqb t.slot other (λ e. differs (sym e)) in rw f refl

-- the turns that a slot's handler has kept in the end
pub kept_in_slot : (turns : List RunTurn) (from i : ℕ) (before after : List Seen) (x y : Seen) → GrewBy turns from before after → slice_get before i ≡ Some x → slice_get after i ≡ Some y → y.turns ≡ x.turns ++ turns_of_slot (from + i) turns
kept_in_slot turns from i [] after x y g old new = absurd cc
kept_in_slot turns from i (h ∷ before) [] x y g old new = absurd g
kept_in_slot turns from zero (h ∷ before) (k ∷ after) x y g old new =
    let a : h ≡ x = same_Some h x old in
    let b : k ≡ y = same_Some k y new in
    ap (λ (s : Seen). s.turns) (sym b) ∙ g.1 ∙ ap (λ (s : Seen). s.turns ++ turns_of_slot from turns) a ∙ ap (λ (n : ℕ). x.turns ++ turns_of_slot n turns) (sym (add-zero from))
kept_in_slot turns from (suc i) (h ∷ before) (k ∷ after) x y g old new =
    kept_in_slot turns (suc from) i before after x y g.2 old new ∙ ap (λ (n : ℕ). x.turns ++ turns_of_slot n turns) (suc_moves from i)
  where
    suc_moves : (m n : ℕ) → suc m + n ≡ m + suc n
    suc_moves m n = omega arith
