use Rattle.thing_core.proofs.TagLaws.{old_tags_are_not_met, tags_dont_come_again}
use Rattle.thing_core.proofs.laws.tags_do_not_come_again.Goals as goal

pub returns-clause-sent : goal.returns-clause-sent
returns-clause-sent c = tags_dont_come_again

pub returns-clause-asked : goal.returns-clause-asked
returns-clause-asked c = old_tags_are_not_met
