use Rattle.std.proofs.Common.{◌≡◌, ◌+◌, List, length}
use Rattle.thing_handler.specs.Turns.{RunTurn}
use Rattle.servient_script.specs.Merging.{turns_after, HaveKept, IsMerged}
use Rattle.turn_lines.specs.Buffer.{buffered_of}
use Rattle.logged_serving.proofs.Counting.{HasLogged}
use Rattle.logged_serving.proofs.run_log.RunLog.write_turns.Given as goal

abbrev pub invariant-loop-number : goal.invariant-loop-number
invariant-loop-number g l = record {
  kept : HaveKept l.self.written.items (g.R.Handlers.slots l.rack);
  bounds : l.self.bounds ≡ l.initial.self.bounds;
  logged : (turns : List RunTurn) → IsMerged l.step.first (turns_after l.initial.self.written.items (g.R.Handlers.slots l.rack)) turns
      → l.step.after ≡ l.step.first + length turns
      → HasLogged l.step.first l.number l.step.moment l.self.written.items (g.R.Handlers.slots l.rack) turns
      (buffered_of l.initial.self.lines) (buffered_of l.self.lines) (g.O.Out.seen l.initial.out) (g.O.Out.seen l.out);
}
