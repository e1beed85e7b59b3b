use Rattle.std.proofs.Common.{rules, ◌∙◌, ap, ap₂, sym}
use Rattle.clap.specs.Words.{new_rule, with_rule}
use Rattle.command_words.specs.Line.{app_with}
use Rattle.command_words.proofs.RulesMore.{rules_more}
use Rattle.command_words.proofs.values.with_places.Goals as goal

pub loop-place-preserved : goal.loop-place-preserved
loop-place-preserved c =
    let more = rules_more new_rule c.args.places.now c.loop-place.place-index _ c.loop-place-test.true in
    c.in_ok-command.ensures.shape (search rules) ∙ ap₂ with_rule c.loop-place.invariant c.new.ensures.rule ∙ ap app_with (sym more)
