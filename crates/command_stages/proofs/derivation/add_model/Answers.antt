use Rattle.std.proofs.Common.{refl, ap}
use Rattle.std.specs.Prelude.{codes}
use Rattle.command_stages.specs.Lines.{input_line}
use Rattle.command_stages.specs.Stages.{goes_on}
use Rattle.command_stages.specs.Deriving.{AddsModel, is_added, is_not_added, add_memory, has_bad_url, is_there_twice, is_no_model}
use Rattle.command_stages.proofs.StageLaws.{goes_quietly, ends_memory, writes_line}
use Rattle.command_stages.proofs.derivation.add_model.Goals as goal

pub returns-in-Ok : goal.returns-in-Ok
returns-in-Ok c = λ a. goes_quietly (AddsModel c.args.library c.args.url.now c.args.file.now c.args.tree) a c.add.new.self (is_added c.in-Ok.ensures.allowed refl (ap (λ models. goes_on models) c.in-Ok.ensures.ok))

pub returns-in-Err-BadUrl : goal.returns-in-Err-BadUrl
returns-in-Err-BadUrl c = λ a.
    let arm = c.in-Err-BadUrl in
    writes_line (AddsModel c.args.library c.args.url.now c.args.file.now c.args.tree) a c.input.result c.end_with.result 4 (input_line c.args.file.now (codes "url")) c.input.ensures c.end_with.ensures
    (is_not_added (codes "url") (has_bad_url (rw arm.field-0-is at arm.ensures.fault) refl) (refl, refl)) (add_memory (refl, refl))

pub returns-in-Err-Twice : goal.returns-in-Err-Twice
returns-in-Err-Twice c = λ a.
    let arm = c.in-Err-Twice in
    writes_line (AddsModel c.args.library c.args.url.now c.args.file.now c.args.tree) a c.input-in-Err-Twice.result c.end_with-in-Err-Twice.result 4 (input_line c.args.file.now (codes "twice")) c.input-in-Err-Twice.ensures c.end_with-in-Err-Twice.ensures
    (is_not_added (codes "twice") (is_there_twice (rw arm.field-0-is at arm.ensures.fault) refl) (refl, refl)) (add_memory (refl, refl))

pub returns-in-Err-NotModel : goal.returns-in-Err-NotModel
returns-in-Err-NotModel c = λ a.
    let arm = c.in-Err-NotModel in
    writes_line (AddsModel c.args.library c.args.url.now c.args.file.now c.args.tree) a c.input-in-Err-NotModel.result c.end_with-in-Err-NotModel.result 4 (input_line c.args.file.now (codes "model")) c.input-in-Err-NotModel.ensures c.end_with-in-Err-NotModel.ensures
    (is_not_added (codes "model") (is_no_model (rw arm.field-0-is at arm.ensures.fault) refl) (refl, refl)) (add_memory (refl, refl))

pub returns : goal.returns
returns c = λ a. ends_memory (AddsModel c.args.library c.args.url.now c.args.file.now c.args.tree) a (add_memory (refl, refl))
