use Rattle.std.specs.Prelude.{Some, None}
use Rattle.wot_json.specs.Meaning.{json_of}
use Rattle.wot_directory.proofs.Entries.{entries_seen}
use Rattle.wot_directory.proofs.Finds.{found_under, replacement_under, replacement_refused_under}
use Rattle.wot_directory.proofs.directory.Directory.may_replace.Goals as goal

pub returns-in-Some-clause-ok : goal.returns-in-Some-clause-ok
returns-in-Some-clause-ok c =
    replacement_under c.judge_replacement.result c.args.id.now c.args.self.now (json_of c.in-Some.kept.now) (json_of c.args.tree.now)
    (found_under c.args.id.now c.self.inside.entries.entries c.args.self.now (Some c.in-Some.kept.now)
    (entries_seen c.self.inside.entries.entries c.self.inside.next c.args.self.now c.self.view_is) c.in-Some.ensures.value)
    c.judge_replacement.ensures.ok

pub returns-in-Some-clause-fault : goal.returns-in-Some-clause-fault
returns-in-Some-clause-fault c =
    replacement_refused_under c.judge_replacement.result c.args.id.now c.args.self.now (json_of c.in-Some.kept.now) (json_of c.args.tree.now)
    (found_under c.args.id.now c.self.inside.entries.entries c.args.self.now (Some c.in-Some.kept.now)
    (entries_seen c.self.inside.entries.entries c.self.inside.next c.args.self.now c.self.view_is) c.in-Some.ensures.value)
    c.judge_replacement.ensures.fault

pub returns-in-None-clause-fault : goal.returns-in-None-clause-fault
returns-in-None-clause-fault c =
    found_under c.args.id.now c.self.inside.entries.entries c.args.self.now None
    (entries_seen c.self.inside.entries.entries c.self.inside.next c.args.self.now c.self.view_is) c.in-None.ensures.value
