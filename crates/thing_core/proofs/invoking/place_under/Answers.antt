use Rattle.std.proofs.Common.{◌∙◌, ◌+◌, ◌++◌, ℕ, List, [], ◌∷◌, drop, sym, ap, append_assoc}
use Rattle.thing_core.proofs.InvokeLaws.{next_segment}
use Rattle.thing_core.proofs.invoking.place_under.Goals as goal

pub loop-index-preserved : goal.loop-index-preserved
loop-index-preserved c =
    ap (λ (l : List (List ℕ)). l ++ drop (c.loop-index.index + 1) c.args.path.now) c.in_ok-push-in-Some.ensures.ok
    ∙ append_assoc c.loop-index.place (c.in-Some.segment.now ∷ []) (drop (c.loop-index.index + 1) c.args.path.now)
    ∙ ap (λ (l : List (List ℕ)). c.loop-index.place ++ l) (sym (next_segment c.args.path.now c.loop-index.index c.in-Some.segment.now (sym c.in-Some.ensures)))
    ∙ c.loop-index.invariant
