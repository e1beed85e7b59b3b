use Rattle.std.proofs.Common.{refl, ap, ◌∙◌, arith, [], ◌∷◌}
use Rattle.servient_outside.specs.declared.calls.CallCount.{CallCount}
use Rattle.servient_outside.specs.declared.net.Act.TheVariants as act
use Rattle.servient_outside.specs.Network.{broke, listening}
use Rattle.servient_outside.proofs.GivenEvents.{fails_now, left_broke}
use Rattle.servient_outside.proofs.ActsKept.{failing_never, shows_call, listen_broke, listen_went}
use Rattle.servient_outside.proofs.net_memory.NetMemoryNet.listen.Goals as goal

pub returns-then-fails-clause-shows : goal.returns-then-fails-clause-shows
returns-then-fails-clause-shows c =
    let n = c.args.self.now in
    let done = act.Listened c.args.place.now in
    let is = fails_now n.calls.fails n.calls.made _ c.is_next_failing-fails.ensures ∙ c.if-fails.true in
    shows_call n c.keep_call.new.self done (broke listening ∷ []) _ (c.keep_call.ensures.history done c.listened.ensures) (listen_broke n.calls.fails n.calls.made c.args.place.now is) c.keep_call.ensures.left (ap (λ (x : CallCount). x.fails) c.keep_call.ensures.calls) (λ never. absurd (failing_never n.calls.fails _ is never)) (omega (arith, c.saturating_add-self.ensures, c.keep_call.ensures.faults)) (left_broke listening n.calls.fails _ _ _ is)

pub returns-clause-shows : goal.returns-clause-shows
returns-clause-shows c =
    let n = c.args.self.now in
    let done = act.Listened c.args.place.now in
    let is = fails_now n.calls.fails n.calls.made _ c.is_next_failing-fails.ensures ∙ c.if-fails.false in
    shows_call n c.keep_call.new.self done [] _ (c.keep_call.ensures.history done c.listened.ensures) (listen_went n.calls.fails n.calls.made c.args.place.now is) c.keep_call.ensures.left (ap (λ (x : CallCount). x.fails) c.keep_call.ensures.calls) (λ never. (refl, c.keep_call.ensures.faults)) (omega (arith, c.keep_call.ensures.faults)) refl
