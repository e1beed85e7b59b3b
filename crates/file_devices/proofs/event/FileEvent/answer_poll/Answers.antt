use Rattle.file_devices.proofs.Looks.{looks_kept}
use Rattle.file_devices.proofs.event.FileEvent.answer_poll.Goals as goal

pub returns-clause-looks : goal.returns-clause-looks
returns-clause-looks g c = looks_kept _ _ _ _ c.args.self.now.last c.poll.new.self.last c.keep_found.new.last c.in-Ok.polled.found c.in-Ok.polled.answer c.in_ok-answer.answer
    c.in-Ok.ensures.looks c.poll.ensures.last c.keep_found.ensures c.in_ok-answer.ensures.ok
