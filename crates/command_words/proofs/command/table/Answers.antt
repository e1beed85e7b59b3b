use Rattle.std.proofs.Common.{ap, subst, sym}
use Rattle.command_words.specs.Parts.{texts}
use Rattle.command_words.specs.Line.{AreTexts}
use Rattle.command_words.proofs.command.table.Goals as goal

pub read-requires-clause-text : goal.read-requires-clause-text
read-requires-clause-text c = subst AreTexts (ap texts (sym c.as_slice.ensures.value)) c.in_ok-rest.ensures.text
