use Rattle.std.proofs.Common.{◌≡◌, ◌++◌}
use Rattle.tm_parts.proofs.values.Values.new.Given as goal

-- the entries that were moved, and the rest of the map
abbrev pub invariant-loop-entry : goal.invariant-loop-entry
invariant-loop-entry l = l.list.items ++ l.entry-iterator ≡ l.initial.entry-iterator
