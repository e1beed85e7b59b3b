use Rattle.std.proofs.Common.{◌≡◌, drop, slice_get}
use Rattle.std.specs.Prelude.{◌==◌}
use Rattle.std.specs.List.{filter}
use Rattle.coap_opts.specs.Table.{known_of, known_options}
use Rattle.coap_opts.proofs.known.is_right.Given as goal

abbrev pub invariant-loop-row : goal.invariant-loop-row
invariant-loop-row l = known_of l.number ≡ slice_get (filter (λ k. k.number == l.number) (drop l.row-index known_options)) 0
