-- Each handler counted how often it was out of memory.
use Rattle.std.proofs.Common.{◌≡◌, ◌+◌, ◌-◌, ◌^◌, ℕ, zero, suc, List, [], ◌∷◌, Some, sym, ap, ◌∙◌, arith, inl, inr}
use Rattle.std.specs.Prelude.{slice_get}
use Rattle.std.proofs.lemmas.Bool.{cases_lt}
use Rattle.std.proofs.lemmas.Option.{same_Some}
use Rattle.servient_base.specs.Count.{raised}
use Rattle.thing_handler.specs.Handler.{Seen}
use Rattle.thing_handler.specs.Turns.{CountMisses, misses_in, times}
use Rattle.servient_trace.specs.Trace.{calls_in}
use Rattle.servient_core.specs.Runs.{misses_of, RoseExactly, MissesAreCounted}

rose : (more before now : ℕ) → now ≡ raised more before → RoseExactly more before now
rose more before now is = elim (cases_lt now (2 ^ 64 - 1)) [
  | inl below ↦ inl (omega (arith, is, below))
  | inr last ↦ inr last
]

one_counts : (misses : List ℕ) (slot from i : ℕ) (before after : List Seen) (old new : Seen) → slot ≡ from + i → CountMisses misses from before after
    → slice_get before i ≡ Some old → slice_get after i ≡ Some new → new.misses ≡ raised (times slot misses) old.misses
one_counts misses slot from i [] after old new place counts was is = absurd cc
one_counts misses slot from i (x ∷ before) [] old new place counts was is = absurd counts
one_counts misses slot from zero (x ∷ before) (y ∷ after) old new place counts was is =
    let here : from ≡ slot = omega arith in
    ap (λ (s : Seen). s.misses) (sym (same_Some y new is)) ∙ counts.0 ∙ ap (λ (s : Seen). raised (times from misses) s.misses) (same_Some x old was)
    ∙ ap (λ (n : ℕ). raised (times n misses) old.misses) here
one_counts misses slot from (suc i) (x ∷ before) (y ∷ after) old new place counts was is =
    one_counts misses slot (suc from) i before after old new (omega arith) counts.1 was is

pub misses_are_counted : MissesAreCounted
misses_are_counted site budget slot result s t seen before now old new serves shows was is =
    rose (misses_of slot seen) old.misses new.misses
    (one_counts (misses_in (calls_in seen)) slot 0 slot before.slots now.slots old new (omega arith) shows.rack.misses was is)
