use Rattle.std.proofs.Common.{◌∙◌, [], List, ℕ, arith, refl, subst, sym}
use Rattle.std.specs.Prelude.{Err, Option}
use Rattle.std.proofs.lemmas.Result.{err_from_is_err_and}
use Rattle.tm_parts.specs.Library.{Models}
use Rattle.servient_outside.specs.declared.files.HeldFile.{HeldFile}
use Rattle.command_stages.specs.Stages.{around, goes_on}
use Rattle.command_stages.specs.Deriving.{TakesModel, TakesModels}
use Rattle.command_stages.specs.Ending.{ComesOut, Performs}
use Rattle.command_stages.proofs.ModelStages.{TakesOn, takes_first, takes_more, takes_none, takes_last}
use Rattle.command_stages.proofs.derivation.take_models.Goals as goal

pub loop-model-init : goal.loop-model-init
loop-model-init g c =
    let held = (g.F.Files.seen c.args.files.now).held in
    let before = g.F.Files.seen c.args.files.now in
    let all = c.as_slice-model-items.result.now in
    record { held = refl; so_far = subst (λ (models : Models). TakesOn held all all models before before) (sym c.new-library.ensures) (takes_first held all before) }

pub returns-in_err-library-clause-stage : goal.returns-in_err-library-clause-stage
returns-in_err-library-clause-stage g c = λ w.
    let held = (g.F.Files.seen c.args.files.now).held in
    let before = g.F.Files.seen c.args.files.now in
    let now = g.F.Files.seen c.loop-model.files in
    let next = g.F.Files.seen c.take_model.new.files in
    let error = err_from_is_err_and c.from_residual.result c.from_residual.ensures.1 in
    let one = subst (λ (h : Option (List HeldFile)). Performs {A = Models} (TakesModel h c.model-item.result c.loop-model.library) (around now w) (around next w) (Err c.in_err-library.field-0.0)) c.loop-model.invariant.held (c.in_err-library.ensures.stage w) in
    let all = takes_none held c.as_slice-model-items.result.now c.loop-model.model-index _ c.model-item.result c.loop-model.library before now next w c.in_err-library.field-0.0 (omega (arith, c.loop-model-test.true)) c.model-item.is c.loop-model.invariant.so_far one in
    rw (error.1, error.2) (subst (λ (ms : List (List ℕ × List ℕ)). Performs {A = Models} (TakesModels held ms []) (around before w) (around next w) (Err c.in_err-library.field-0.0)) c.as_slice-model-items.ensures all)

pub loop-model-preserved : goal.loop-model-preserved
loop-model-preserved g c =
    let held = (g.F.Files.seen c.args.files.now).held in
    let before = g.F.Files.seen c.args.files.now in
    let now = g.F.Files.seen c.loop-model.files in
    let next = g.F.Files.seen c.take_model.new.files in
    record {
      held = c.take_model.ensures.held ∙ c.loop-model.invariant.held;
      so_far = takes_more held c.as_slice-model-items.result.now c.loop-model.model-index _ c.model-item.result c.loop-model.library c.in_ok-library.library before now next (omega (arith, c.loop-model-test.true)) c.model-item.is c.loop-model.invariant.so_far
          (λ w. subst (λ (h : Option (List HeldFile)). ComesOut (TakesModel h c.model-item.result c.loop-model.library) (around now w) (around next w) (goes_on c.in_ok-library.library) []) c.loop-model.invariant.held (c.in_ok-library.ensures.stage w));
    }

pub returns-clause-stage : goal.returns-clause-stage
returns-clause-stage g c = λ w.
    let held = (g.F.Files.seen c.args.files.now).held in
    let before = g.F.Files.seen c.args.files.now in
    let now = g.F.Files.seen c.loop-model.files in
    subst (λ (ms : List (List ℕ × List ℕ)). ComesOut (TakesModels held ms []) (around before w) (around now w) (goes_on c.loop-model.library) []) c.as_slice-model-items.ensures
    (takes_last held c.as_slice-model-items.result.now c.loop-model.model-index c.loop-model.library before now w (omega (arith, c.loop-model-test.false)) c.loop-model.invariant.so_far)
