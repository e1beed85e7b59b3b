use Rattle.std.proofs.Common.{List, ℕ, sym, subst}
use Rattle.std.specs.Prelude.{Option, Some}
use Rattle.command_stages.specs.declared.derivation.Planned.{Planned}
use Rattle.command_stages.specs.Stages.{around}
use Rattle.command_stages.specs.Ending.{Performs}
use Rattle.command_stages.specs.Inputs.{Plans}
use Rattle.command_stages.proofs.inputs.plan_of.Goals as goal

pub returns-in-Some-clause-stage : goal.returns-in-Some-clause-stage
returns-in-Some-clause-stage g c = λ w.
    let held = (g.F.Files.seen c.args.files.now).held in
    let a = around (g.F.Files.seen c.args.files.now) w in
    let b = around (g.F.Files.seen c.read_planned.new.files) w in
    let named = subst (λ (name : List ℕ). Performs {A = Planned} (Plans held (Some name)) a b c.read_planned.result) c.as_str.ensures (c.read_planned.ensures.stage w) in
    subst (λ (plan : Option (List ℕ)). Performs {A = Planned} (Plans held plan) a b c.read_planned.result) (sym c.in-Some.is) named

pub returns-in-None-clause-stage : goal.returns-in-None-clause-stage
returns-in-None-clause-stage g c = λ w.
    let held = (g.F.Files.seen c.args.files.now).held in
    let a = around (g.F.Files.seen c.args.files.now) w in
    subst (λ (plan : Option (List ℕ)). Performs {A = Planned} (Plans held plan) a a c.built_in.result) (sym c.in-None.is) (c.built_in.ensures.stage a)
