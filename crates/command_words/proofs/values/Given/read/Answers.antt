use Rattle.std.proofs.Common.{◌∙◌}
use Rattle.command_words.proofs.ClapForms.{not_parsed, parsed}
use Rattle.command_words.proofs.values.Given.read.Goals as goal

pub returns-in-Ok : goal.returns-in-Ok
returns-in-Ok c =
    (parsed _ _ _ c.in-Ok.matches c.in_ok-command.ensures c.requires.form c.requires.text c.in-Ok.ensures.kinds c.in-Ok.ensures.matches).values

pub invariant_of-result : goal.invariant_of-result
invariant_of-result c =
    (parsed _ _ _ c.in-Ok.matches c.in_ok-command.ensures c.requires.form c.requires.text c.in-Ok.ensures.kinds c.in-Ok.ensures.matches).each

pub returns : goal.returns
returns c = not_parsed _ _ _ c.in-Err.error c.in_ok-command.ensures c.requires.form c.requires.text c.in-Err.ensures.kinds
    (λ memory. c.in_default.not-OutOfMemory (c.kind.ensures ∙ memory))
