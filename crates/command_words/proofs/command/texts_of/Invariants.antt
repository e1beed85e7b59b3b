use Rattle.std.proofs.Common.{◌≡◌, take}
use Rattle.command_words.specs.Line.{AreTexts}
use Rattle.command_words.specs.Parts.{texts}
use Rattle.command_words.proofs.command.texts_of.Given as goal

-- the texts so far
abbrev pub invariant-loop-word : goal.invariant-loop-word
invariant-loop-word l = record { same : texts l.all.items ≡ take l.word-index l.words; text : AreTexts (texts l.all.items) }
