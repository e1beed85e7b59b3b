use Rattle.std.proofs.Common.{subst}
use Rattle.thing_ops.specs.Requests.{request_seen}
use Rattle.directory_requests.specs.declared.server.ServedEntries.{ServedEntries}
use Rattle.directory_requests.specs.Requests.{standing_at, ActsOnStanding}
use Rattle.directory_requests.proofs.TaskLaws.{refused}
use Rattle.directory_requests.proofs.server.DirectoryServer.perform.Goals as goal

pub returns-in-Err : goal.returns-in-Err
returns-in-Err c =
    subst (λ (x : ServedEntries). ActsOnStanding (request_seen c.args.request.now) c.args.now c.in-Err.outcome (standing_at c.args.now x) c.remove_expired.new.self) c.self.view_is
    (refused (request_seen c.args.request.now) c.args.now c.in-Err.outcome (standing_at c.args.now c.self.inside.entries) c.remove_expired.new.self c.in-Err.ensures.fault
    c.remove_expired.ensures)
