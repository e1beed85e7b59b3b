use Rattle.std.proofs.Common.{◌≤◌, ◌<◌, ℕ}
use Rattle.wot_directory.specs.Directory.{IsUsed}
use Rattle.wot_directory.specs.Kept.{kept_entries}
use Rattle.wot_directory.proofs.directory.first_unused.Given as goal

-- all numbers so far are used
abbrev pub invariant-loop-number : goal.invariant-loop-number
invariant-loop-number l = (other : ℕ) → l.first ≤ other → other < l.number → IsUsed other (kept_entries l.entries.entries)
