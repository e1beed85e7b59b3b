use Rattle.std.proofs.Common.{◌≡◌, drop}
use Rattle.command_stages.proofs.ModelStages.{TakesOn}
use Rattle.command_stages.proofs.derivation.take_models.Given as goal

abbrev pub invariant-loop-model : goal.invariant-loop-model
invariant-loop-model g l = record {
  held : (g.F.Files.seen l.files).held ≡ (g.F.Files.seen l.fn.files).held;
  so_far : TakesOn (g.F.Files.seen l.fn.files).held l.model-items (drop l.model-index l.model-items) l.library
      (g.F.Files.seen l.fn.files)
      (g.F.Files.seen l.files);
}
