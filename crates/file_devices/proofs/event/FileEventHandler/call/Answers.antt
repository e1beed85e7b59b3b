use Rattle.file_devices.proofs.OnceLaws.{event_polled}
use Rattle.file_devices.proofs.event.FileEventHandler.call.Goals as goal

pub returns-in-Poll-clause-calls : goal.returns-in-Poll-clause-calls
returns-in-Poll-clause-calls g c = event_polled _ _ _ _ c.in-Poll.is c.answer_poll.ensures.calls
