use Rattle.std.proofs.lemmas.Result.{err_from_is_err_and}
use Rattle.wot_json.specs.Tree.{elements_of, members_of}
use Rattle.wot_json.specs.Meaning.{json_of, json_items}
use Rattle.wot_terms.specs.Faults.{each_element}
use Rattle.wot_terms.specs.Faults.{is, is_text_with, is_defined}
use Rattle.wot_terms.proofs.Findings.{element_stops, tested}
use Rattle.wot_terms.proofs.rows.each_definition.Goals as goal

pub returns-in_err-in_element : goal.returns-in_err-in_element
returns-in_err-in_element c =
    let p = err_from_is_err_and c.from_residual.result c.from_residual.ensures.1 in
    rw (p.1, p.2)
    (element_stops (is (is_text_with (is_defined (members_of c.args.root.now)))) (each_element (is (is_text_with (is_defined (members_of c.args.root.now)))) 0 (elements_of (json_items c.args.names.now))) c.args.names.now c.loop-index.index c.index-names-index.result _
    c.loop-index-test.true c.index-names-index.is c.loop-index.invariant (c.in_err-in_element.ensures ((is (is_text_with (is_defined (members_of c.args.root.now)))) (json_of c.index-names-index.result)) (tested _ c.names_definition-passes.result c.wrong_unless.result c.names_definition-passes.ensures c.wrong_unless.ensures.ok)))
