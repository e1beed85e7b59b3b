use Rattle.std.proofs.Common.{refl}
use Rattle.thing_ops.specs.Requests.{request_seen}
use Rattle.directory_requests.proofs.TaskLaws.{acts_untimed, acts_timed}
use Rattle.directory_requests.proofs.server.ServedEntries.perform.Goals as goal

pub returns-in-Untimed : goal.returns-in-Untimed
returns-in-Untimed c =
    acts_untimed (request_seen c.args.request.now) c.args.task c.args.now c.perform_task.result _ _ _ _ c.in-Untimed.is refl c.requires.judged c.perform_task.ensures

pub returns-in-Timed : goal.returns-in-Timed
returns-in-Timed c =
    acts_timed (request_seen c.args.request.now) c.args.task c.args.now c.perform_task_at.result _ _ _ _ c.in-Timed.is refl c.requires.judged c.perform_task_at.ensures
