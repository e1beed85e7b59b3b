use Rattle.std.proofs.Common.{◌≡◌, ◌+◌, drop}
use Rattle.std.specs.Prelude.{option_map}
use Rattle.command_words.specs.Flags.{flag_place}
use Rattle.command_words.specs.Parts.{texts}
use Rattle.command_words.proofs.flags.place_of_flag.Given as goal

-- none so far is the place, nor ends the options
abbrev pub invariant-loop-index : goal.invariant-loop-index
invariant-loop-index l = flag_place l.flag (texts l.words) ≡ option_map (λ place. place + l.index) (flag_place l.flag (texts (drop l.index l.words)))
