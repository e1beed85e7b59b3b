use Rattle.std.proofs.lemmas.Result.{err_from_is_err_and}
use Rattle.wot_json.specs.Tree.{elements_of}
use Rattle.wot_json.specs.Meaning.{json_of, json_items}
use Rattle.wot_terms.specs.Faults.{each_element}
use Rattle.wot_terms.specs.Rows.{entry_judge}
use Rattle.wot_terms.proofs.Findings.{element_stops}
use Rattle.wot_terms.proofs.entries.each_element.Goals as goal

pub returns-in_err-in_element : goal.returns-in_err-in_element
returns-in_err-in_element c =
    let p = err_from_is_err_and c.from_residual.result c.from_residual.ensures.1 in
    rw (p.1, p.2)
    (element_stops (entry_judge c.args.entry) (each_element (entry_judge c.args.entry) 0 (elements_of (json_items c.args.items.now))) c.args.items.now c.loop-index.index c.index-items-index.result _
    c.loop-index-test.true c.index-items-index.is c.loop-index.invariant (c.in_err-in_element.ensures ((entry_judge c.args.entry) (json_of c.index-items-index.result)) c.check.ensures))
