-- The end of a command whose words are refused.
use Rattle.std.specs.Prelude.{◌≡◌}
use Rattle.command_words.specs.declared.fault.WordsFault.{WordsFault}
use Rattle.command_words.specs.declared.fault.WordsFault.TheVariants.{Usage, NoMemory}
use Rattle.command_stages.specs.declared.ending.Ended.{Ended}
use Rattle.command_stages.specs.declared.ending.Ended.TheVariants as ended

-- the end of a command whose words have this fault
abbrev pub EndsAs : WordsFault → Ended → Type 0
EndsAs Usage e = e ≡ ended.Usage
EndsAs NoMemory e = e ≡ ended.NoMemory
