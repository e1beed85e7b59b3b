use Rattle.std.proofs.lemmas.Result.{err_from_is_err_and}
use Rattle.wot_json.specs.Tree.{elements_of}
use Rattle.wot_json.specs.Meaning.{json_of, json_items}
use Rattle.wot_terms.specs.Faults.{each_element}
use Rattle.wot_terms.specs.Faults.{is, is_text_with}
use Rattle.wot_terms.specs.Operations.{is_operation}
use Rattle.wot_terms.proofs.Findings.{element_stops, tested}
use Rattle.wot_terms.proofs.forms.each_operation.Goals as goal

pub returns-in_err-in_element : goal.returns-in_err-in_element
returns-in_err-in_element c =
    let p = err_from_is_err_and c.from_residual.result c.from_residual.ensures.1 in
    rw (p.1, p.2)
    (element_stops (is (is_text_with (is_operation c.args.place))) (each_element (is (is_text_with (is_operation c.args.place))) 0 (elements_of (json_items c.args.names.now))) c.args.names.now c.loop-index.index c.index-names-index.result _
    c.loop-index-test.true c.index-names-index.is c.loop-index.invariant (c.in_err-in_element.ensures ((is (is_text_with (is_operation c.args.place))) (json_of c.index-names-index.result)) (tested _ c.names_operation-passes.result c.wrong_unless.result c.names_operation-passes.ensures c.wrong_unless.ensures.ok)))
