use Rattle.std.proofs.Common.{◌≡◌, ◌≢◌, ◌++◌, ℕ, List, refl, ap}
use Rattle.std.specs.Prelude.{codes}
use Rattle.wot_json.specs.declared.reading.ReadFault.{ReadFault}
use Rattle.wot_json.specs.declared.reading.ReadFault.TheVariants as fault
use Rattle.wot_json.specs.Json.{json_string}
use Rattle.command_stages.specs.Lines.{input_line}
use Rattle.command_stages.specs.Reading.{ReadsTree, is_tree, has_no_tree, tree_memory, is_no_json, is_too_deep, is_wrong_number}
use Rattle.command_stages.proofs.StageLaws.{goes_quietly, ends_memory, writes_line}
use Rattle.command_stages.proofs.reading.read_tree.Goals as goal

-- these faults aren't out of memory
no_json : (f : ReadFault) → f ≡ fault.NotJson → f ≢ fault.NoMemory
no_json f is memory = cc

too_deep : (f : ReadFault) → f ≡ fault.TooDeep → f ≢ fault.NoMemory
too_deep f is memory = cc

wrong_number : (f : ReadFault) (pointer : List ℕ) → f ≡ fault.NotInteger pointer → f ≢ fault.NoMemory
wrong_number f pointer is memory = cc

pub returns-in-Ok : goal.returns-in-Ok
returns-in-Ok c = λ a. goes_quietly (ReadsTree c.args.name.now c.args.content.now) a c.in-Ok.tree (is_tree c.in-Ok.tree c.in-Ok.ensures.ok refl refl)

pub returns-in-Err-NotJson : goal.returns-in-Err-NotJson
returns-in-Err-NotJson c = λ a.
    let arm = c.in-Err-NotJson in
    writes_line (ReadsTree c.args.name.now c.args.content.now) a c.input.result c.end_with.result 4 (input_line c.args.name.now (codes "json")) c.input.ensures c.end_with.ensures
    (has_no_tree (codes "json") (arm.ensures.complete (no_json _ arm.field-0-is)) (is_no_json (rw arm.field-0-is at arm.ensures.fault) refl) (refl, refl))
    (tree_memory (refl, refl))

pub returns-in-Err-TooDeep : goal.returns-in-Err-TooDeep
returns-in-Err-TooDeep c = λ a.
    let arm = c.in-Err-TooDeep in
    writes_line (ReadsTree c.args.name.now c.args.content.now) a c.input-in-Err-TooDeep.result c.end_with-in-Err-TooDeep.result 4 (input_line c.args.name.now (codes "deep")) c.input-in-Err-TooDeep.ensures c.end_with-in-Err-TooDeep.ensures
    (has_no_tree (codes "deep") (arm.ensures.complete (too_deep _ arm.field-0-is)) (is_too_deep (rw arm.field-0-is at arm.ensures.fault) refl) (refl, refl))
    (tree_memory (refl, refl))

pub returns-in-Err-NotInteger : goal.returns-in-Err-NotInteger
returns-in-Err-NotInteger c = λ a.
    let arm = c.in-Err-NotInteger in
    let place = ap (λ (p : List ℕ). codes "number " ++ json_string p) c.as_str.ensures in
    writes_line (ReadsTree c.args.name.now c.args.content.now) a c.number.result c.end_with-in-Err-NotInteger.result 4 (input_line c.args.name.now (codes "number " ++ json_string c.as_str.result.now)) c.number.ensures c.end_with-in-Err-NotInteger.ensures
    (has_no_tree (codes "number " ++ json_string c.as_str.result.now) (arm.ensures.complete (wrong_number _ arm.place arm.field-0-is)) (is_wrong_number arm.place (rw arm.field-0-is at arm.ensures.fault) place) (refl, refl))
    (tree_memory (refl, refl))

pub returns-in-Err-NoMemory : goal.returns-in-Err-NoMemory
returns-in-Err-NoMemory c = λ a. ends_memory (ReadsTree c.args.name.now c.args.content.now) a (tree_memory (refl, refl))
