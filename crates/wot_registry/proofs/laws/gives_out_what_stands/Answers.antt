-- The laws are lemmas.
use Rattle.wot_registry.proofs.HistoryLaws.{gives_out, lists_all}
use Rattle.wot_registry.proofs.laws.gives_out_what_stands.Goals as goal

pub returns-clause-alone : goal.returns-clause-alone
returns-clause-alone c = gives_out

pub returns-clause-listed : goal.returns-clause-listed
returns-clause-listed c = lists_all
