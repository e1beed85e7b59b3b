use Rattle.std.proofs.Common.{◌≡◌, ◌∙◌, List, sym, ap, subst, map}
use Rattle.std.specs.Prelude.{IfOk}
use Rattle.thing_handler.specs.declared.handler.Turn.{Turn}
use Rattle.servient_outside.specs.declared.net.Act.{Act}
use Rattle.servient_script.specs.Merging.{IsMerged}
use Rattle.servient_script.specs.Print.{print_text}
use Rattle.servient_cli.proofs.RunLaws.{acts_shown}
use Rattle.servient_cli.proofs.replay.print_since.Goals as goal

pub returns : goal.returns
returns g c = λ happened turns known told merged.
    let some = c.acts.ensures.tells (sym c.lost.ensures ∙ c.if-lost-ne0.false) known in
    let acts = acts_shown _ happened c.acts.result.now some told c.acts.ensures.told in
    let kept = subst (λ (left : List (List Turn)). IsMerged 0 left turns) (sym (ap (map (λ left. left.now)) c.as_mut_slice.ensures.value ∙ c.in_ok-by_slot.ensures)) merged in
    subst (λ (shown : List Act). IfOk c.print.result (λ text. text ≡ print_text shown turns)) acts (c.print.ensures turns kept)
