-- the items that are left have the value that is looked for, where the query has it
use Rattle.std.proofs.Common.{◌≡◌}
use Rattle.directory_requests.specs.Window.{items_of, value_in}
use Rattle.directory_requests.specs.Items.{items_in, bytes_in}
use Rattle.directory_requests.proofs.window.value_in.Given as goal

abbrev pub invariant-loop-rest : goal.invariant-loop-rest
invariant-loop-rest l = value_in l.fn.name (items_of l.fn.query) ≡ value_in l.fn.name (items_in l.rest)

abbrev pub decreases-loop-rest : goal.decreases-loop-rest
decreases-loop-rest l = bytes_in l.rest
