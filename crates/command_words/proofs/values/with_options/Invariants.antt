use Rattle.std.proofs.Common.{◌≡◌, List, map, ◌++◌, take}
use Rattle.clap.specs.Words.{Rule, app_of}
use Rattle.command_words.specs.Line.{app_with, long_rule}
use Rattle.command_words.specs.Parts.{texts}
use Rattle.command_words.proofs.values.with_options.Given as goal

-- after its places the command has the options so far
abbrev pub invariant-loop-option : goal.invariant-loop-option
invariant-loop-option l = (places : List Rule) → app_of l.fn.command ≡ app_with places
    → app_of l.command ≡ app_with (places ++ map long_rule (texts (take l.option-index l.options)))
