use Rattle.std.proofs.Common.{map}
use Rattle.clap.specs.Words.{new_rule}
use Rattle.command_words.specs.Parts.{texts}
use Rattle.command_words.proofs.values.clap_command.Goals as goal

pub returns : goal.returns
returns c = c.with_options.ensures (map new_rule (texts c.args.places.now)) c.in_ok-with_places.ensures
