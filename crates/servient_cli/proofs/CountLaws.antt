-- The number of turns that the handlers of a rack have kept, and that a run adds to it.
use Rattle.std.proofs.Common.{◌≡◌, ◌≤◌, ◌<◌, ◌+◌, ℕ, zero, suc, List, [], ◌∷◌, length, take, refl, ap, ◌∙◌, cond, arith, inl, inr, length-append}
use Rattle.std.specs.Prelude.{Some, slice_get, IfSome}
use Rattle.std.specs.List.{AllByRecursion}
use Rattle.std.proofs.lemmas.List.Filters.{length-filter_more}
use Rattle.std.proofs.lemmas.Option.{get_or_from_slice_get}
use Rattle.std.proofs.lemmas.Bool.{cases_eq}
use Rattle.thing_handler.specs.declared.handler.Turn.{Turn}
use Rattle.thing_handler.specs.Handler.{Seen}
use Rattle.thing_handler.specs.Turns.{RunTurn, HandlerCall, turns_of_slot, turns_in, GrewBy, RackShows}
use Rattle.servient_outside.specs.declared.net.EventWithBytes.{EventWithBytes}
use Rattle.servient_cli.specs.Counting.{is_datagram, came, turns_kept}
use Rattle.servient_script.proofs.MergeLaws.{first_is, first_is_not}

-- one slot more
pub kept_more : (slots : List Seen) (i : ℕ) (kept : List Turn) → i < length slots → IfSome (slice_get slots i) (λ h. kept ≡ h.turns) → turns_kept (take (suc i) slots) ≡ turns_kept (take i slots) + length kept
kept_more [] i kept within at = absurd (omega (arith, within))
kept_more (h ∷ slots) zero kept within at = omega (arith, ap (λ (ts : List Turn). length ts) at)
kept_more (h ∷ slots) (suc i) kept within at = omega (arith, kept_more slots i kept (omega (arith, within)) at)

-- one event more
pub came_more : (events : List EventWithBytes) (i : ℕ) (e : EventWithBytes) → i < length events → slice_get events i ≡ Some e → length (came (take (i + 1) events)) ≡ length (came (take i events)) + cond (is_datagram e.event.what) 1 0
came_more events i e within at =
    length-filter_more (λ (x : EventWithBytes). is_datagram x.event.what) events i e within
    ∙ ap (λ (x : EventWithBytes). length (came (take i events)) + cond (is_datagram x.event.what) 1 0) (get_or_from_slice_get events i e e at)

-- the number of turns of some slots, from this one on
abbrev turns_from : List RunTurn → ℕ → List Seen → ℕ
turns_from turns slot [] = 0
turns_from turns slot (h ∷ slots) = length (turns_of_slot slot turns) + turns_from turns (suc slot) slots

none_from : (slot : ℕ) (slots : List Seen) → turns_from [] slot slots ≡ 0
none_from slot [] = refl
none_from slot (h ∷ slots) = omega (arith, none_from (suc slot) slots)

-- a turn of a slot before them
below_from : (t : RunTurn) (more : List RunTurn) (slot : ℕ) (slots : List Seen) → t.slot < slot → turns_from (t ∷ more) slot slots ≡ turns_from more slot slots
below_from t more slot [] less = refl
below_from t more slot (h ∷ slots) less =
    let here = ap (λ (ts : List Turn). length ts) (first_is_not slot t more (omega (arith, less))) in
    omega (arith, here, below_from t more (suc slot) slots (omega (arith, less)))

-- a turn of one of them
one_from : (t : RunTurn) (more : List RunTurn) (slot : ℕ) (slots : List Seen) → slot ≤ t.slot → t.slot < slot + length slots → turns_from (t ∷ more) slot slots ≡ suc (turns_from more slot slots)
one_from t more slot [] at within = absurd (omega (arith, at, within))
one_from t more slot (h ∷ slots) at within = elim (cases_eq t.slot slot) [
  | inl same ↦
      let here = ap (λ (ts : List Turn). length ts) (first_is slot t more same) in
      omega (arith, here, below_from t more (suc slot) slots (omega (arith, same)))
  | inr other ↦
      let here = ap (λ (ts : List Turn). length ts) (first_is_not slot t more other) in
      omega (arith, here, one_from t more (suc slot) slots (omega (arith, at, other)) (omega (arith, within)))
]

all_from : (turns : List RunTurn) (slots : List Seen) → AllByRecursion (λ t. t.slot < length slots) turns → turns_from turns 0 slots ≡ length turns
all_from [] slots all = none_from 0 slots
all_from (t ∷ turns) slots all = omega (arith, one_from t turns 0 slots (omega arith) (omega (arith, all.0)), all_from turns slots all.1)

grew_from : (turns : List RunTurn) (slot : ℕ) (before after : List Seen) → GrewBy turns slot before after → turns_kept after ≡ turns_kept before + turns_from turns slot before
grew_from turns slot [] [] grew = refl
grew_from turns slot [] (new ∷ after) grew = absurd grew
grew_from turns slot (old ∷ before) [] grew = absurd grew
grew_from turns slot (old ∷ before) (new ∷ after) grew =
    omega (arith, ap (λ (ts : List Turn). length ts) grew.1, length-append old.turns (turns_of_slot slot turns), grew_from turns (suc slot) before after grew.2)

-- the turns of a run are those that the handlers kept more
pub turns_grew : (before after : List Seen) (calls : List HandlerCall) → RackShows before after calls → turns_kept after ≡ turns_kept before + length (turns_in calls)
turns_grew before after calls shows =
    omega (arith, grew_from (turns_in calls) 0 before after shows.turns, all_from (turns_in calls) before shows.slots)
