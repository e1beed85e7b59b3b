use Rattle.std.proofs.Common.{sym, subst}
use Rattle.thing_ops.specs.Requests.{request_seen}
use Rattle.directory_requests.specs.declared.judging.DirectoryTask.{DirectoryTask}
use Rattle.directory_requests.specs.Judged.{IsJudged, DoesTaskAt}
use Rattle.wot_registry.specs.Registry.{standing}
use Rattle.directory_requests.proofs.TaskLaws.{lists_at, creates_at, shows_at, puts_at, patches_at, removes_at, on_entry}
use Rattle.directory_requests.proofs.registering.perform_task_at.Goals as goal

pub returns-in-Lists : goal.returns-in-Lists
returns-in-Lists c =
    subst (λ (t : DirectoryTask). DoesTaskAt t (request_seen c.args.request.now) c.args.now c.list.result (standing c.args.now c.args.registry.now) c.list.new.registry) (sym c.in-Lists.is)
    (lists_at (request_seen c.args.request.now) c.args.now c.list.result (standing c.args.now c.args.registry.now) c.list.new.registry c.list.ensures.answer c.list.ensures.left)

pub returns-in-Creates : goal.returns-in-Creates
returns-in-Creates c =
    subst (λ (t : DirectoryTask). DoesTaskAt t (request_seen c.args.request.now) c.args.now c.create.result (standing c.args.now c.args.registry.now) c.create.new.registry) (sym c.in-Creates.is)
    (creates_at (request_seen c.args.request.now) c.in-Creates.description c.args.now c.create.result (standing c.args.now c.args.registry.now) c.create.new.registry (subst (λ (t : DirectoryTask). IsJudged (request_seen c.args.request.now) t) c.in-Creates.is c.requires.judged) c.create.ensures)

pub returns-in-Shows : goal.returns-in-Shows
returns-in-Shows c =
    subst (λ (t : DirectoryTask). DoesTaskAt t (request_seen c.args.request.now) c.args.now c.show.result (standing c.args.now c.args.registry.now) c.show.new.registry) (sym c.in-Shows.is)
    (shows_at (request_seen c.args.request.now) c.entry_id.result.now c.args.now c.show.result (standing c.args.now c.args.registry.now) c.show.new.registry c.entry_id.ensures c.show.ensures.answer c.show.ensures.left)

pub returns-in-Puts : goal.returns-in-Puts
returns-in-Puts c =
    subst (λ (t : DirectoryTask). DoesTaskAt t (request_seen c.args.request.now) c.args.now c.put.result (standing c.args.now c.args.registry.now) c.put.new.registry) (sym c.in-Puts.is)
    (puts_at (request_seen c.args.request.now) c.entry_id-in-Puts.result.now c.in-Puts.description c.args.now c.put.result (standing c.args.now c.args.registry.now) c.put.new.registry (subst (λ (t : DirectoryTask). IsJudged (request_seen c.args.request.now) t) c.in-Puts.is c.requires.judged) c.entry_id-in-Puts.ensures c.put.ensures)

pub returns-in-Patches : goal.returns-in-Patches
returns-in-Patches c =
    subst (λ (t : DirectoryTask). DoesTaskAt t (request_seen c.args.request.now) c.args.now c.patch.result (standing c.args.now c.args.registry.now) c.patch.new.registry) (sym c.in-Patches.is)
    (patches_at (request_seen c.args.request.now) c.entry_id-in-Patches.result.now c.in-Patches.merge c.args.now c.patch.result (standing c.args.now c.args.registry.now) c.patch.new.registry (subst (λ (t : DirectoryTask). IsJudged (request_seen c.args.request.now) t) c.in-Patches.is c.requires.judged) c.entry_id-in-Patches.ensures c.patch.ensures)

pub returns-in-Removes : goal.returns-in-Removes
returns-in-Removes c =
    subst (λ (t : DirectoryTask). DoesTaskAt t (request_seen c.args.request.now) c.args.now c.remove.result (standing c.args.now c.args.registry.now) c.remove.new.registry) (sym c.in-Removes.is)
    (removes_at (request_seen c.args.request.now) c.entry_id-in-Removes.result.now c.args.now c.remove.result (standing c.args.now c.args.registry.now) c.remove.new.registry c.entry_id-in-Removes.ensures c.remove.ensures)
