use Rattle.std.proofs.Common.{◌≡◌, ◌≤◌, ◌<◌, ℕ, []}
use Rattle.wot_json.specs.Tree.{members_of}
use Rattle.wot_terms.specs.Rows.{row_places}
use Rattle.wot_terms.proofs.table.check_rows.Given as goal

abbrev pub invariant-loop-number : goal.invariant-loop-number
invariant-loop-number l = (k : ℕ) → 2 ≤ k → k < l.number → row_places k (members_of l.root) ≡ []
