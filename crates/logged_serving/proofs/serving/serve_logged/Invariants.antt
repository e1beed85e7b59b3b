use Rattle.std.proofs.Common.{◌≡◌}
use Rattle.servient_trace.specs.Trace.{outside}
use Rattle.servient_script.specs.Merging.{counts_of}
use Rattle.turn_lines.specs.Buffer.{buffered_of, nothing_held}
use Rattle.logged_serving.proofs.LoggedRounds.{Goes}
use Rattle.logged_serving.proofs.serving.serve_logged.Given as goal

abbrev pub invariant-loop-count : goal.invariant-loop-count
invariant-loop-count g l = record {
  goes : Goes l.bounds.turns l.initial.servient l.servient
      (outside (g.N.Net.seen l.initial.net) (g.R.Handlers.slots l.initial.rack)) (outside (g.N.Net.seen l.net) (g.R.Handlers.slots l.rack))
      (g.O.Out.seen l.initial.out) (g.O.Out.seen l.out) l.count l.due;
  lines : buffered_of l.log.lines ≡ nothing_held;
  written : l.log.written.items ≡ counts_of (g.R.Handlers.slots l.rack);
}
