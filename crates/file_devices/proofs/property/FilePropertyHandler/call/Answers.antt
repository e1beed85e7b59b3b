use Rattle.wot_terms.specs.declared.kind.Kind.TheVariants as kind
use Rattle.file_devices.proofs.OnceLaws.{property_read, property_write}
use Rattle.file_devices.proofs.property.FilePropertyHandler.call.Goals as goal

pub returns-in-Write-clause-turn : goal.returns-in-Write-clause-turn
returns-in-Write-clause-turn g c = c.write.ensures.turn kind.Property

pub returns-in-Read-clause-calls : goal.returns-in-Read-clause-calls
returns-in-Read-clause-calls g c = property_read _ _ _ _ _ _ c.in-Read.is c.read-answer.ensures.calls

pub returns-in-Write-clause-calls : goal.returns-in-Write-clause-calls
returns-in-Write-clause-calls g c = property_write _ _ _ _ _ _ _ c.in-Write.is c.write.ensures.calls
