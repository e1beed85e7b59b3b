use Rattle.std.proofs.Common.{ap, subst, sym}
use Rattle.command_words.specs.Parts.{texts}
use Rattle.command_words.specs.Line.{AreTexts}
use Rattle.command_words.proofs.command.Command.read.Goals as goal

pub read_after-requires : goal.read_after-requires
read_after-requires c = subst AreTexts (ap texts (sym c.as_slice.ensures.value)) c.in_ok-all-in-len1-up.ensures.text
