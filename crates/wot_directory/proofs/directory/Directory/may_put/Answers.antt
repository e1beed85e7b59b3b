use Rattle.std.proofs.Common.{refl, arith, ◌<◌, ◌≤◌, length}
use Rattle.wot_json.specs.Meaning.{json_of}
use Rattle.wot_directory.proofs.Entries.{entries_seen}
use Rattle.wot_directory.proofs.Puts.{may_replace, may_add, is_full}
use Rattle.wot_directory.proofs.directory.Directory.may_put.Goals as goal

pub returns-then-contains_key-clause-ok : goal.returns-then-contains_key-clause-ok
returns-then-contains_key-clause-ok c =
    may_replace c.args.id.now (json_of c.args.tree.now) c.self.inside.entries.entries c.args.self.now
    (entries_seen c.self.inside.entries.entries c.self.inside.next c.args.self.now c.self.view_is) c.in_ok-judge.ensures.ok (c.if-not-has_id.ensures.0 refl) c.if-contains_key.ensures

pub returns-then-len-ge-MOST_ENTRIES-clause-fault : goal.returns-then-len-ge-MOST_ENTRIES-clause-fault
returns-then-len-ge-MOST_ENTRIES-clause-fault c =
    let many : 4096 ≤ length c.self.inside.entries.entries = omega (arith, c.len.ensures.len) in
    is_full c.args.id.now (json_of c.args.tree.now) c.self.inside.entries.entries c.args.self.now
    (entries_seen c.self.inside.entries.entries c.self.inside.next c.args.self.now c.self.view_is) c.in_ok-judge.ensures.ok (c.if-not-has_id.ensures.0 refl) c.if-contains_key.ensures many

pub returns-clause-ok : goal.returns-clause-ok
returns-clause-ok c =
    let few : length c.self.inside.entries.entries < 4096 = omega (arith, c.len.ensures.len) in
    may_add c.args.id.now (json_of c.args.tree.now) c.self.inside.entries.entries c.args.self.now
    (entries_seen c.self.inside.entries.entries c.self.inside.next c.args.self.now c.self.view_is) c.in_ok-judge.ensures.ok (c.if-not-has_id.ensures.0 refl) c.if-contains_key.ensures few
