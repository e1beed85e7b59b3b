use Rattle.wot_directory.proofs.Entries.{kept_ordered, few_after, put_is_seen, entries_seen}
use Rattle.wot_directory.proofs.Finds.{absent_by}
use Rattle.wot_directory.proofs.directory.Directory.keep_under.Goals as goal

pub invariant_of-self : goal.invariant_of-self
invariant_of-self c = (
  kept_ordered c.insert.new.self.entries c.insert.ensures.ordered,
  few_after c.insert.result c.into_string-key.result c.args.id c.self.inside.entries.entries c.insert.new.self.entries c.args.self.now c.into_string-key.ensures
      (entries_seen c.self.inside.entries.entries c.self.inside.next c.args.self.now c.self.view_is) c.requires c.self.invariant.1 c.insert.ensures.old c.insert.ensures.len c.insert.ensures.err,
)

pub returns-in-Ok-clause-ok : goal.returns-in-Ok-clause-ok
returns-in-Ok-clause-ok c =
    put_is_seen c.self.inside.entries.entries c.insert.new.self.entries c.self.inside.next c.into_string-key.result c.args.id c.args.tree c.args.self.now c.into_string-key.ensures c.self.view_is c.in-Ok.ensures.entries

pub returns-clause-absent : goal.returns-clause-absent
returns-clause-absent c =
    absent_by c.args.id c.into_string-key.result c.self.inside.entries.entries c.args.self.now c.into_string-key.ensures
    (entries_seen c.self.inside.entries.entries c.self.inside.next c.args.self.now c.self.view_is) c.in-Err.ensures.absent
