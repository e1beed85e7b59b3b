-- no entry so far is the one
use Rattle.std.proofs.Common.{◌≡◌, drop}
use Rattle.std.specs.List.{find}
use Rattle.cases_exchanges.specs.Plain.{is_of}
use Rattle.cases_exchanges.proofs.plain.entry_of.Given as goal

abbrev pub invariant-loop-entry : goal.invariant-loop-entry
invariant-loop-entry l = find (is_of l.fn.from l.fn.id) l.fn.entries ≡ find (is_of l.fn.from l.fn.id) (drop l.entry-index l.fn.entries)
