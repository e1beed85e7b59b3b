use Rattle.std.proofs.Common.{◌≡◌, ◌+◌, ℕ, zero, suc, List, sym, ◌∙◌}
use Rattle.std.specs.Prelude.{IfSome}
use Rattle.servient_outside.specs.declared.net.Act.{Act}
use Rattle.servient_outside.specs.Told.{told_at_zero}
use Rattle.servient_outside.specs.Network.{Happening, acts_in}
use Rattle.servient_outside.specs.NetMemory.{stop_of}
use Rattle.servient_outside.proofs.OrderLaws.{acts_in-told}
use Rattle.servient_outside.proofs.net_memory.NetMemory.acts.Goals as goal

told_are : (untold : ℕ) (happened : List Happening) (acts : List Act) → acts_in happened ≡ acts → IfSome (told_at_zero untold happened) (λ h. acts_in h ≡ acts)
told_are zero happened acts same = same
told_are (suc untold) happened acts same = tt

pub returns-clause-told : goal.returns-clause-told
returns-clause-told c =
    let n = c.args.self.now in
    told_are (n.uncounted + n.log.lost) _ _ (acts_in-told n.log.gaps.items n.log.acts.items n.log.since n.calls.fails n.events (stop_of n) n.log.gap_for_each ∙ sym c.as_slice.ensures.value)
