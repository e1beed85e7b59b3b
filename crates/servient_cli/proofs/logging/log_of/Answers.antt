use Rattle.std.proofs.Common.{refl}
use Rattle.servient_cli.specs.LoggedServing.{TakesLog, log_taken, log_memory}
use Rattle.command_stages.proofs.StageLaws.{ends_memory, goes_quietly}
use Rattle.servient_cli.proofs.logging.log_of.Goals as goal

pub returns-in-Ok-clause-stage : goal.returns-in-Ok-clause-stage
returns-in-Ok-clause-stage g c = λ a. goes_quietly TakesLog a tt (log_taken refl refl)

pub returns-in-Err-clause-stage : goal.returns-in-Err-clause-stage
returns-in-Err-clause-stage g c = λ a. ends_memory TakesLog a (log_memory (refl, refl))
