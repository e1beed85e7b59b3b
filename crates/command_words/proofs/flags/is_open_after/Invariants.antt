use Rattle.std.proofs.Common.{◌≡◌, drop, false}
use Rattle.command_words.specs.Flags.{is_open_but}
use Rattle.command_words.specs.Parts.{texts}
use Rattle.command_words.proofs.flags.is_open_after.Given as goal

abbrev pub invariant-loop-word : goal.invariant-loop-word
invariant-loop-word l = is_open_but l.other false (texts l.words) ≡ is_open_but l.other l.open (texts (drop l.word-index l.words))
