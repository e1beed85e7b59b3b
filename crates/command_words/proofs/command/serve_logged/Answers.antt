use Rattle.std.proofs.Common.{ap, subst, sym}
use Rattle.command_words.specs.Parts.{texts}
use Rattle.command_words.specs.Line.{AreTexts}
use Rattle.command_words.proofs.command.serve_logged.Goals as goal

pub serve_by_budget-requires : goal.serve_by_budget-requires
serve_by_budget-requires c = subst AreTexts (ap texts (sym c.as_slice.ensures.value)) c.in_ok-rest.ensures.text
