use Rattle.std.proofs.Common.{drop}
use Rattle.std.specs.Prelude.{◌↔◌}
use Rattle.thing_site.specs.Refusals.{SomeInput, IsLong, IsRefusedBySchema}
use Rattle.thing_site.proofs.refusing.judge_inputs.Given as goal

abbrev pub invariant-loop-input : goal.invariant-loop-input
invariant-loop-input l = SomeInput IsLong (drop l.input-index l.inputs) ↔ SomeInput IsLong l.inputs

abbrev pub invariant-loop-input-2 : goal.invariant-loop-input-2
invariant-loop-input-2 l = SomeInput IsRefusedBySchema (drop l.input-index l.inputs) ↔ SomeInput IsRefusedBySchema l.inputs
