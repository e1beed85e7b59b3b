use Rattle.std.proofs.Common.{refl, ap, ◌∙◌, arith, [], ◌∷◌, Some, None}
use Rattle.servient_outside.specs.declared.calls.CallCount.{CallCount}
use Rattle.servient_outside.specs.declared.net.Act.TheVariants as act
use Rattle.servient_outside.specs.Network.{broke, dialling}
use Rattle.servient_outside.proofs.GivenEvents.{fails_now, left_broke}
use Rattle.servient_outside.proofs.ActsKept.{failing_never, shows_call}
use Rattle.servient_outside.proofs.net_memory.NetMemoryNet.dial.Goals as goal

pub returns-then-is_next_failing-clause-shows : goal.returns-then-is_next_failing-clause-shows
returns-then-is_next_failing-clause-shows c =
    let n = c.args.self.now in
    let done = act.Dialled c.args.host.now c.args.port None in
    let is = fails_now n.calls.fails n.calls.made _ c.is_next_failing.ensures ∙ c.if-is_next_failing.true in
    shows_call n c.keep_call.new.self done (broke dialling ∷ []) _ (c.keep_call.ensures.history done c.dialled.ensures) refl c.keep_call.ensures.left (ap (λ (x : CallCount). x.fails) c.keep_call.ensures.calls) (λ never. absurd (failing_never n.calls.fails _ is never)) (omega (arith, c.saturating_add-self.ensures, c.keep_call.ensures.faults)) (left_broke dialling n.calls.fails _ _ _ is)

pub returns-clause-shows : goal.returns-clause-shows
returns-clause-shows c =
    let n = c.args.self.now in
    let done = act.Dialled c.args.host.now c.args.port (Some 0) in
    shows_call n c.keep_call-2.new.self done [] _ (c.keep_call-2.ensures.history done c.dialled-2.ensures) refl c.keep_call-2.ensures.left (ap (λ (x : CallCount). x.fails) c.keep_call-2.ensures.calls) (λ never. (refl, c.keep_call-2.ensures.faults)) (omega (arith, c.keep_call-2.ensures.faults)) refl
