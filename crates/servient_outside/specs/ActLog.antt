-- The effect of keeping an act on the acts that are kept.
use Rattle.std.specs.Prelude.{◌≡◌, [], ◌∷◌, ◌++◌, ◌⊎◌, Result, Ok, Err}
use Rattle.std.specs.declared.alloc.AllocError.{AllocError}
use Rattle.servient_base.specs.Count.{one_more}
use Rattle.servient_outside.specs.declared.net.Act.{Act}
use Rattle.servient_outside.specs.declared.act_log.ActLog.{ActLog}

-- the act and its place come after the others
pub record AddsAct (before now : ActLog) (act : Act) : Type 0 where
  pub acts : now.acts.items ≡ before.acts.items ++ act ∷ []
  pub gaps : now.gaps.items ≡ before.gaps.items ++ before.since ∷ []
  pub since : now.since ≡ 0
  pub lost : now.lost ≡ before.lost

-- keeping the act was out of memory: it is counted, and all else is as it was
pub record LosesAct (before now : ActLog) : Type 0 where
  pub acts : now.acts.items ≡ before.acts.items
  pub gaps : now.gaps.items ≡ before.gaps.items
  pub since : now.since ≡ before.since
  pub lost : now.lost ≡ one_more before.lost

-- the act, if there was memory to make it, is kept or lost
abbrev pub KeepsIfMade : ActLog → ActLog → Result Act AllocError → Type 0
KeepsIfMade before now (Ok act) = AddsAct before now act ⊎ LosesAct before now
KeepsIfMade before now (Err e) = LosesAct before now
