-- Laws of what the handlers of a rack show.
use Rattle.std.proofs.Common.{◌≡◌, ◌≢◌, ℕ, zero, suc, ◌+◌, ◌<◌, List, [], ◌∷◌, ◌++◌, length, set, Some, Ok, Err, refl, sym, ap, subst, ◌∙◌, arith, true, false, eqb, inl, inr}
use Rattle.std.proofs.lemmas.List.Elements.{filter_map-append}
use Rattle.std.specs.Prelude.{slice_get}
use Rattle.std.specs.declared.alloc.AllocError.{AllocError}
use Rattle.std.proofs.lemmas.Bool.{cases_eq, eq-eqb, ne_eqb}
use Rattle.std.specs.List.{AllByRecursion}
use Rattle.std.proofs.lemmas.List.{append-nil}
use Rattle.std.proofs.lemmas.Option.{same_Some, slice_get_within}
use Rattle.servient_base.specs.Count.{raised}
use Rattle.servient_base.specs.Moves.{ShowsInOrder}
use Rattle.thing_handler.specs.declared.handler.CallKind.{CallKind}
use Rattle.thing_handler.specs.declared.handler.Answer.{Answer}
use Rattle.thing_handler.specs.declared.handler.Turn.{Turn}
use Rattle.thing_handler.specs.Handler.{Seen, CallsHandler}
use Rattle.thing_handler.specs.Turns.{RunTurn, HandlerCall, answered, missed, turns_in, misses_in, GrewBy, times, CountMisses, RackShows, turn_in, miss_in}
use Rattle.thing_handler.proofs.TurnLaws.{as_many, grew_by_none, grew_by_then, stand_then, grew_by_set, of_slot, of_other}

times-append : (slot : ℕ) (a b : List ℕ) → times slot (a ++ b) ≡ times slot a + times slot b
times-append slot [] b = omega arith
times-append slot (m ∷ a) b = elim (cases_eq m slot) [
  | inl same ↦ let t : eqb m slot ≡ true = eq-eqb m slot same in rw t (omega (arith, times-append slot a b))
  | inr other ↦ let f : eqb m slot ≡ false = ne_eqb m slot other in rw f (times-append slot a b)
]

misses_none : (slot : ℕ) (slots : List Seen) → CountMisses [] slot slots slots
misses_none slot [] = tt
misses_none slot (h ∷ slots) = (omega arith, misses_none (suc slot) slots)

misses_then : (a b : List ℕ) (slot : ℕ) (old mid new : List Seen) → CountMisses a slot old mid → CountMisses b slot mid new → CountMisses (a ++ b) slot old new
misses_then a b slot [] [] [] p q = tt
misses_then a b slot [] [] (z ∷ new) p q = q
misses_then a b slot [] (y ∷ mid) new p q = absurd p
misses_then a b slot (x ∷ old) [] new p q = absurd p
misses_then a b slot (x ∷ old) (y ∷ mid) [] p q = absurd q
misses_then a b slot (x ∷ old) (y ∷ mid) (z ∷ new) p q =
    (omega (arith, p.0, q.0, times-append slot a b), misses_then a b (suc slot) old mid new p.1 q.1)

missing_then : (count : ℕ) (a b : List ℕ) → AllByRecursion (λ slot. slot < count) a → AllByRecursion (λ slot. slot < count) b → AllByRecursion (λ slot. slot < count) (a ++ b)
missing_then count [] b p q = q
missing_then count (slot ∷ a) b p q = (p.0, missing_then count a b p.1 q)

-- where nothing was called
pub rack_shows_none : (slots : List Seen) → RackShows slots slots []
rack_shows_none slots = record { slots = tt; missing = tt; turns = grew_by_none 0 slots; misses = misses_none 0 slots }

-- at one time and then at another
pub rack_shows_then : (old mid new : List Seen) (a b : List HandlerCall) → RackShows old mid a → RackShows mid new b → RackShows old new (a ++ b)
rack_shows_then old mid new a b p q = record {
  slots = subst (λ (turns : List RunTurn). AllByRecursion (λ (t : RunTurn). t.slot < length old) turns) (sym (filter_map-append turn_in a b))
      (stand_then (length old) (turns_in a) (turns_in b) p.slots
      (subst (λ (n : ℕ). AllByRecursion (λ (t : RunTurn). t.slot < n) (turns_in b)) (as_many (turns_in a) 0 old mid p.turns) q.slots));
  missing = subst (λ (slots : List ℕ). AllByRecursion (λ slot. slot < length old) slots) (sym (filter_map-append miss_in a b))
      (missing_then (length old) (misses_in a) (misses_in b) p.missing
      (subst (λ (n : ℕ). AllByRecursion (λ slot. slot < n) (misses_in b)) (as_many (turns_in a) 0 old mid p.turns) q.missing));
  turns = subst (λ (turns : List RunTurn). GrewBy turns 0 old new) (sym (filter_map-append turn_in a b))
      (grew_by_then (turns_in a) (turns_in b) 0 old mid new p.turns q.turns);
  misses = subst (λ (slots : List ℕ). CountMisses slots 0 old new) (sym (filter_map-append miss_in a b))
      (misses_then (misses_in a) (misses_in b) 0 old mid new p.misses q.misses);
}

-- a rack shows calls in their order
pub rack_shows_in_order : ShowsInOrder RackShows
rack_shows_in_order = record {
  none = rack_shows_none;
  more = λ w v u a b p q. rack_shows_then w v u a b p q;
}

-- one handler counted, and the misses are none of another slot
misses_set : (misses : List ℕ) (slot from i : ℕ) (slots : List Seen) (x y : Seen) → slot ≡ from + i → slice_get slots i ≡ Some x → y.misses ≡ raised (times slot misses) x.misses → ((other : ℕ) → other ≢ slot → times other misses ≡ 0) → CountMisses misses from slots (set slots i y)
misses_set misses slot from i [] x y place stood counted elsewhere = absurd cc
misses_set misses slot from zero (h ∷ slots) x y place stood counted elsewhere =
    let same : h ≡ x = same_Some h x stood in
    let here : slot ≡ from = omega arith in
    (counted ∙ ap (λ (n : ℕ). raised (times n misses) x.misses) here ∙ ap (λ (s : Seen). raised (times from misses) s.misses) (sym same), stays (suc from) slots (omega arith))
  where
    stays : (next : ℕ) (rest : List Seen) → slot < next → CountMisses misses next rest rest
    stays next [] above = tt
    stays next (k ∷ rest) above =
        let differs : next ≢ slot = omega arith in
        (omega (arith, elsewhere next differs), stays (suc next) rest (omega arith))
misses_set misses slot from (suc i) (h ∷ slots) x y place stood counted elsewhere =
    let differs : from ≢ slot = omega arith in
    (omega (arith, elsewhere from differs), misses_set misses slot (suc from) i slots x y (omega arith) stood counted elsewhere)

times_one : (slot : ℕ) → times slot (slot ∷ []) ≡ 1
times_one slot = let t : eqb slot slot ≡ true = eq-eqb slot slot refl in rw t refl

times_other : (slot other : ℕ) → other ≢ slot → times other (slot ∷ []) ≡ 0
times_other slot other differs = let f : eqb slot other ≡ false = ne_eqb slot other (λ e. differs (sym e)) in rw f refl

-- a call that was answered
pub rack_shows_answer : (before after : List Seen) (slot number : ℕ) (what : CallKind) (answer : Answer) → CallsHandler before after slot number what (Ok answer) → RackShows before after (answered (record { number = number; slot = slot; what = what; answer = answer }) ∷ [])
rack_shows_answer before after slot number what answer c =
    let turn : RunTurn = record { number = number; slot = slot; what = what; answer = answer } in
    record {
      slots = (slice_get_within before slot c.before c.was, tt);
      missing = tt;
      turns = subst (λ (slots : List Seen). GrewBy (turn ∷ []) 0 before slots) (sym c.others)
          (grew_by_set (turn ∷ []) slot 0 slot before c.before c.after (omega arith) c.was c.call.0 (c.call.1 ∙ ap (λ (ts : List Turn). c.before.turns ++ ts) (sym (of_slot turn))) (of_other turn));
      misses = subst (λ (slots : List Seen). CountMisses [] 0 before slots) (sym c.others)
          (misses_set [] slot 0 slot before c.before c.after (omega arith) c.was (omega (arith, c.call.2)) (λ other differs. refl));
    }

-- a call that was out of memory
pub rack_shows_miss : (before after : List Seen) (slot number : ℕ) (what : CallKind) (e : AllocError) → CallsHandler before after slot number what (Err e) → RackShows before after (missed slot ∷ [])
rack_shows_miss before after slot number what e c = record {
  slots = tt;
  missing = (slice_get_within before slot c.before c.was, tt);
  turns = subst (λ (slots : List Seen). GrewBy [] 0 before slots) (sym c.others)
      (grew_by_set [] slot 0 slot before c.before c.after (omega arith) c.was c.call.0 (c.call.1 ∙ sym (append-nil c.before.turns)) (λ other differs. refl));
  misses = subst (λ (slots : List Seen). CountMisses (slot ∷ []) 0 before slots) (sym c.others)
      (misses_set (slot ∷ []) slot 0 slot before c.before c.after (omega arith) c.was
      (c.call.2 ∙ ap (λ (n : ℕ). raised n c.before.misses) (sym (times_one slot))) (times_other slot));
}
