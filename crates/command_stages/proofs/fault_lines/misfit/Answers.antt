use Rattle.std.proofs.Common.{◌≡◌, sym, subst}
use Rattle.std.specs.Prelude.{IfOk}
use Rattle.thing_site.specs.declared.fault.ExposeFault.{ExposeFault}
use Rattle.command_stages.specs.Lines.{input_line}
use Rattle.command_stages.specs.FaultLines.{misfit_text}
use Rattle.command_stages.proofs.fault_lines.misfit.Goals as goal

pub returns-in-SlotTwice-clause-line : goal.returns-in-SlotTwice-clause-line
returns-in-SlotTwice-clause-line c =
    subst (λ (f : ExposeFault). IfOk c.misfit_line-in-SlotTwice.result (λ e. (e.status ≡ 4) × (e.text ≡ input_line c.args.name.now (misfit_text f)))) (sym c.in-SlotTwice.is) c.misfit_line-in-SlotTwice.ensures
