use Rattle.std.proofs.Common.{arith}
use Rattle.wot_directory.proofs.Entries.{kept_ordered, entries_seen, removal_is_seen}
use Rattle.wot_directory.proofs.Finds.{none_under, some_under}
use Rattle.wot_directory.proofs.directory.Directory.remove.Goals as goal

pub returns-then-is_none-clause-fault : goal.returns-then-is_none-clause-fault
returns-then-is_none-clause-fault c =
    none_under c.args.id.now c.self.inside.entries.entries c.args.self.now c.remove.result
    (entries_seen c.self.inside.entries.entries c.self.inside.next c.args.self.now c.self.view_is) c.remove.ensures.value c.if-is_none.ensures

pub invariant_of-self-2 : goal.invariant_of-self-2
invariant_of-self-2 c = (kept_ordered c.remove.new.self.entries c.remove.ensures.ordered, omega (arith, c.remove.ensures.len, c.self.invariant.1))

pub returns-clause-ok : goal.returns-clause-ok
returns-clause-ok c = record {
  found = some_under c.args.id.now c.self.inside.entries.entries c.args.self.now c.remove.result
      (entries_seen c.self.inside.entries.entries c.self.inside.next c.args.self.now c.self.view_is) c.remove.ensures.value c.if-is_none.ensures;
  after_is = removal_is_seen c.self.inside.entries.entries c.remove.new.self.entries c.self.inside.next c.args.id.now c.args.self.now c.self.invariant.0 c.self.view_is c.remove.ensures.entries;
}
