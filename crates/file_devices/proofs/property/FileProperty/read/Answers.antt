use Rattle.file_devices.specs.Devices.{read}
use Rattle.file_devices.proofs.property.FileProperty.read.Goals as goal

pub returns-clause-answer : goal.returns-clause-answer
returns-clause-answer g c = read c.in_ok-found.found c.in_ok-found.ensures.found c.answer_to_read.ensures
