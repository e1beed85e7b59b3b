use Rattle.std.proofs.lemmas.Result.{IfErr-weaker, err_from_is_err_and}
use Rattle.std.proofs.Common.{refl}
use Rattle.std.specs.Prelude.{◌≤◌}
use Rattle.serde_json.specs.Data.{depth}
use Rattle.serde_json.specs.View.{view}
use Rattle.wot_json.proofs.TreeOf.{no_tree_if_fault, fault_if_named}
use Rattle.wot_json.specs.declared.reading.TheConstants.{MAX_DEPTH}
use Rattle.wot_json.proofs.reading.read.Goals as goal

pub returns-clause-fault : goal.returns-clause-fault
returns-clause-fault c =
    let shallow : depth (view c.in_ok-value.value) ≤ MAX_DEPTH = c.if-not-nests_within.ensures.0 refl in
    IfErr-weaker c.convert.result _ _ (λ f named. fault_if_named c.args.bytes.now _ f c.in_ok-value.ensures.ok shallow named) c.convert.ensures.fault

pub returns-clause-complete : goal.returns-clause-complete
returns-clause-complete c = IfErr-weaker c.convert.result _ _ (λ f faulty. no_tree_if_fault c.args.bytes.now f faulty) (returns-clause-fault c)

pub returns-in_err-value-clause-complete : goal.returns-in_err-value-clause-complete
returns-in_err-value-clause-complete c =
    let error = err_from_is_err_and c.from_residual.result c.from_residual.ensures.1 in
    rw (error.1, error.2) (no_tree_if_fault c.args.bytes.now c.in_err-value.field-0.0 c.in_err-value.ensures.fault)
