use Rattle.std.proofs.Common.{[], List, ℕ, refl, subst}
use Rattle.std.specs.Prelude.{Ok, Err, Option}
use Rattle.std.proofs.lemmas.Result.{err_from_is_err_and}
use Rattle.wot_json.specs.declared.tree.Tree.{Tree}
use Rattle.tm_parts.specs.Library.{Models}
use Rattle.servient_outside.specs.declared.files.HeldFile.{HeldFile}
use Rattle.command_stages.specs.Stages.{around, goes_on}
use Rattle.command_stages.specs.Ending.{ComesOut, Performs}
use Rattle.command_stages.specs.Reading.{ReadsFile, ReadsTree, longest_json}
use Rattle.command_stages.specs.Deriving.{ReadsPlan, TakesModels, IsPlanned, is_planned}
use Rattle.command_stages.proofs.StageLaws.{error_performs, goes_quietly, second_comes}
use Rattle.command_stages.proofs.ModelStages.{after_content, after_tree, after_plan, content_then, tree_then, plan_then, planned}
use Rattle.command_stages.proofs.derivation.read_planned.Goals as goal

pub returns-in_err-content-clause-stage : goal.returns-in_err-content-clause-stage
returns-in_err-content-clause-stage g c = λ w.
    let held = (g.F.Files.seen c.args.files.now).held in
    let name = c.args.name.now in
    let a = around (g.F.Files.seen c.args.files.now) w in
    let b = around (g.F.Files.seen c.read_file.new.files) w in
    let error = err_from_is_err_and c.from_residual.result c.from_residual.ensures.1 in
    rw (error.1, error.2) (error_performs (ReadsFile held longest_json name) (after_content held name) a b c.in_err-content.field-0.0 (c.in_err-content.ensures.stage w))

pub returns-in_err-tree-clause-stage : goal.returns-in_err-tree-clause-stage
returns-in_err-tree-clause-stage g c = λ w.
    let held = (g.F.Files.seen c.args.files.now).held in
    let name = c.args.name.now in
    let content = c.in_ok-content.content in
    let a = around (g.F.Files.seen c.args.files.now) w in
    let b = around (g.F.Files.seen c.read_file.new.files) w in
    let error = err_from_is_err_and c.from_residual-in_err-tree.result c.from_residual-in_err-tree.ensures.1 in
    rw (error.1, error.2) (content_then held name content a b b (Err c.in_err-tree.field-0.0) (c.in_ok-content.ensures.stage w)
    (error_performs (ReadsTree name content) (after_tree held name) b b c.in_err-tree.field-0.0
    (subst (λ (bytes : List ℕ). Performs {A = Tree} (ReadsTree name bytes) b b (Err c.in_err-tree.field-0.0)) c.as_slice.ensures (c.in_err-tree.ensures b))))

pub returns-in_err-plan-clause-stage : goal.returns-in_err-plan-clause-stage
returns-in_err-plan-clause-stage g c = λ w.
    let held = (g.F.Files.seen c.args.files.now).held in
    let name = c.args.name.now in
    let content = c.in_ok-content.content in
    let tree = c.in_ok-tree.tree in
    let a = around (g.F.Files.seen c.args.files.now) w in
    let b = around (g.F.Files.seen c.read_file.new.files) w in
    let error = err_from_is_err_and c.from_residual-in_err-plan.result c.from_residual-in_err-plan.ensures.1 in
    rw (error.1, error.2) (tree_then held name content a b b tree (Err c.in_err-plan.field-0.0) (c.in_ok-content.ensures.stage w)
    (subst (λ (bytes : List ℕ). ComesOut (ReadsTree name bytes) b b (goes_on tree) []) c.as_slice.ensures (c.in_ok-tree.ensures b))
    (error_performs (ReadsPlan name tree) (after_plan held) b b c.in_err-plan.field-0.0 (c.in_err-plan.ensures.stage b)))

pub returns-in_err-library-clause-stage : goal.returns-in_err-library-clause-stage
returns-in_err-library-clause-stage g c = λ w.
    let held = (g.F.Files.seen c.args.files.now).held in
    let name = c.args.name.now in
    let content = c.in_ok-content.content in
    let tree = c.in_ok-tree.tree in
    let plan = c.in_ok-plan.plan in
    let a = around (g.F.Files.seen c.args.files.now) w in
    let b = around (g.F.Files.seen c.read_file.new.files) w in
    let d = around (g.F.Files.seen c.take_models.new.files) w in
    let error = err_from_is_err_and c.from_residual-in_err-library.result c.from_residual-in_err-library.ensures.1 in
    rw (error.1, error.2) (plan_then held name content a b d tree plan (Err c.in_err-library.field-0.0) (c.in_ok-content.ensures.stage w)
    (subst (λ (bytes : List ℕ). ComesOut (ReadsTree name bytes) b b (goes_on tree) []) c.as_slice.ensures (c.in_ok-tree.ensures b)) (c.in_ok-plan.ensures.stage b)
    (error_performs (TakesModels held plan.models []) (IsPlanned plan) b d c.in_err-library.field-0.0
    (subst (λ (h : Option (List HeldFile)). Performs {A = Models} (TakesModels h plan.models []) b d (Err c.in_err-library.field-0.0)) c.in_ok-content.ensures.held (c.in_err-library.ensures.stage w))))

pub returns-clause-stage : goal.returns-clause-stage
returns-clause-stage g c = λ w.
    let held = (g.F.Files.seen c.args.files.now).held in
    let name = c.args.name.now in
    let content = c.in_ok-content.content in
    let tree = c.in_ok-tree.tree in
    let plan = c.in_ok-plan.plan in
    let library = c.in_ok-library.library in
    let a = around (g.F.Files.seen c.args.files.now) w in
    let b = around (g.F.Files.seen c.read_file.new.files) w in
    let d = around (g.F.Files.seen c.take_models.new.files) w in
    plan_then held name content a b d tree plan (Ok (planned plan library)) (c.in_ok-content.ensures.stage w)
    (subst (λ (bytes : List ℕ). ComesOut (ReadsTree name bytes) b b (goes_on tree) []) c.as_slice.ensures (c.in_ok-tree.ensures b)) (c.in_ok-plan.ensures.stage b)
    (second_comes (TakesModels held plan.models []) (IsPlanned plan) b d d library (goes_on (planned plan library)) []
    (subst (λ (h : Option (List HeldFile)). ComesOut (TakesModels h plan.models []) b d (goes_on library) []) c.in_ok-content.ensures.held (c.in_ok-library.ensures.stage w))
    (goes_quietly (IsPlanned plan library) d (planned plan library) (is_planned refl refl)))
