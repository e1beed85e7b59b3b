use Rattle.std.proofs.Common.{sym, subst}
use Rattle.thing_ops.specs.Requests.{request_seen}
use Rattle.directory_requests.specs.declared.judging.DirectoryTask.{DirectoryTask}
use Rattle.directory_requests.specs.Judged.{IsJudged, DoesTask}
use Rattle.directory_requests.proofs.TaskLaws.{lists, creates, shows, puts, patches, removes, on_entry}
use Rattle.directory_requests.proofs.performing.perform_task.Goals as goal

pub returns-in-Lists : goal.returns-in-Lists
returns-in-Lists c =
    subst (λ (t : DirectoryTask). DoesTask t (request_seen c.args.request.now) c.list.result c.args.directory.now c.args.directory.now) (sym c.in-Lists.is)
    (lists (request_seen c.args.request.now) c.list.result c.args.directory.now c.list.ensures)

pub returns-in-Creates : goal.returns-in-Creates
returns-in-Creates c =
    subst (λ (t : DirectoryTask). DoesTask t (request_seen c.args.request.now) c.create.result c.args.directory.now c.create.new.directory) (sym c.in-Creates.is)
    (creates (request_seen c.args.request.now) c.in-Creates.description c.create.result c.args.directory.now c.create.new.directory (subst (λ (t : DirectoryTask). IsJudged (request_seen c.args.request.now) t) c.in-Creates.is c.requires) c.create.ensures)

pub returns-in-Shows : goal.returns-in-Shows
returns-in-Shows c =
    subst (λ (t : DirectoryTask). DoesTask t (request_seen c.args.request.now) c.show.result c.args.directory.now c.args.directory.now) (sym c.in-Shows.is)
    (shows (request_seen c.args.request.now) c.entry_id.result.now c.show.result c.args.directory.now c.entry_id.ensures c.show.ensures)

pub returns-in-Puts : goal.returns-in-Puts
returns-in-Puts c =
    subst (λ (t : DirectoryTask). DoesTask t (request_seen c.args.request.now) c.put.result c.args.directory.now c.put.new.directory) (sym c.in-Puts.is)
    (puts (request_seen c.args.request.now) c.entry_id-in-Puts.result.now c.in-Puts.description c.put.result c.args.directory.now c.put.new.directory (subst (λ (t : DirectoryTask). IsJudged (request_seen c.args.request.now) t) c.in-Puts.is c.requires) c.entry_id-in-Puts.ensures c.put.ensures)

pub returns-in-Patches : goal.returns-in-Patches
returns-in-Patches c =
    subst (λ (t : DirectoryTask). DoesTask t (request_seen c.args.request.now) c.patch.result c.args.directory.now c.patch.new.directory) (sym c.in-Patches.is)
    (patches (request_seen c.args.request.now) c.entry_id-in-Patches.result.now c.in-Patches.merge c.patch.result c.args.directory.now c.patch.new.directory (subst (λ (t : DirectoryTask). IsJudged (request_seen c.args.request.now) t) c.in-Patches.is c.requires) c.entry_id-in-Patches.ensures c.patch.ensures)

pub returns-in-Removes : goal.returns-in-Removes
returns-in-Removes c =
    subst (λ (t : DirectoryTask). DoesTask t (request_seen c.args.request.now) c.remove.result c.args.directory.now c.remove.new.directory) (sym c.in-Removes.is)
    (removes (request_seen c.args.request.now) c.entry_id-in-Removes.result.now c.remove.result c.args.directory.now c.remove.new.directory c.entry_id-in-Removes.ensures c.remove.ensures)
