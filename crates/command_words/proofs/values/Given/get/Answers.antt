use Rattle.std.proofs.Common.{◌∙◌, ap}
use Rattle.clap.specs.Walk.{rows_of}
use Rattle.clap.specs.Matches.{found_of}
use Rattle.clap.proofs.WalkLemmas.{first_value-rows}
use Rattle.command_words.specs.Words.{value_at}
use Rattle.command_words.proofs.ClapForms.{first_value_at}
use Rattle.command_words.proofs.values.Given.get.Goals as goal

pub returns : goal.returns
returns c =
    let found = found_of c.self.inside.matches in
    c.get_str.ensures ∙ first_value-rows found c.args.name.now ∙ first_value_at c.args.name.now (rows_of found) c.self.invariant
    ∙ ap (value_at c.args.name.now) c.self.view_is
