use Rattle.wot_terms.specs.declared.kind.Kind.TheVariants as kind
use Rattle.file_devices.proofs.OnceLaws.{action_invoked}
use Rattle.file_devices.proofs.action.FileActionHandler.call.Goals as goal

pub returns-in-Invoke-clause-turn : goal.returns-in-Invoke-clause-turn
returns-in-Invoke-clause-turn g c = c.write.ensures.turn kind.Action

pub returns-in-Invoke-clause-calls : goal.returns-in-Invoke-clause-calls
returns-in-Invoke-clause-calls g c = action_invoked _ _ _ _ _ _ _ _ c.in-Invoke.is c.write.ensures.calls
