use Rattle.std.proofs.Common.{◌≡◌, map, take}
use Rattle.clap.specs.Words.{app_of, new_rule}
use Rattle.command_words.specs.Line.{app_with}
use Rattle.command_words.specs.Parts.{texts}
use Rattle.command_words.proofs.values.with_places.Given as goal

-- the command has the places so far
abbrev pub invariant-loop-place : goal.invariant-loop-place
invariant-loop-place l = app_of l.command ≡ app_with (map new_rule (texts (take l.place-index l.places)))
