use Rattle.std.proofs.Common.{List, ℕ, ◌≡◌, ◌++◌, ◌∙◌, ap, ap₂, refl, subst, sym}
use Rattle.std.specs.List.{AllByRecursion}
use Rattle.std.proofs.lemmas.Result.{err_from_is_err_and}
use Rattle.wot_json.specs.Tree.{Json}
use Rattle.wot_terms.specs.Faults.{IsValid}
use Rattle.thing_site.specs.Exposing.{kinds_of}
use Rattle.thing_site.proofs.Fitting.{valid_things}
use Rattle.plan_table.specs.Table.{table_text as text_of_table}
use Rattle.command_stages.specs.Lines.{input_line}
use Rattle.command_stages.specs.FaultLines.{misfit_text}
use Rattle.command_stages.specs.Tabling.{PrintsTable, is_tabled, is_tabled_with, table_memory}
use Rattle.command_stages.proofs.StageLaws.{ends_line, ends_memory}
use Rattle.command_stages.proofs.tabling.tabled.Goals as goal

pub table_text-requires : goal.table_text-requires
table_text-requires g c =
    valid_things c.as_slice.result.now
    (subst (λ (ts : List (List ℕ × Json)). AllByRecursion (λ t. IsValid t.1) ts) (sym c.as_slice.ensures) c.requires)

pub returns-in_err-text : goal.returns-in_err-text
returns-in_err-text g c = λ a.
    let kinds = kinds_of (g.R.Handlers.slots c.args.rack.now) in
    let error = err_from_is_err_and c.from_residual.result c.from_residual.ensures.1 in
    rw error.1 (ends_memory (PrintsTable c.args.name.now kinds c.args.plan.now c.args.things) a (table_memory (refl, refl)))

pub returns-in-Ok : goal.returns-in-Ok
returns-in-Ok g c = λ a.
    let kinds = kinds_of (g.R.Handlers.slots c.args.rack.now) in
    let plan = c.args.plan.now in
    let is : c.in_ok-text.text ≡ text_of_table plan c.args.things kinds = c.in_ok-text.ensures ∙ ap (λ (ts : List (List ℕ × Json)). text_of_table plan ts kinds) c.as_slice.ensures in
    ends_line (PrintsTable c.args.name.now kinds plan c.args.things) a (record { status = 0; text = c.in_ok-text.text }) 0 (text_of_table plan c.args.things kinds) (refl, is)
    (is_tabled c.in-Ok.ensures.faultless (refl, refl))

pub returns-in_err-told-in-Err : goal.returns-in_err-told-in-Err
returns-in_err-told-in-Err g c = λ a.
    let kinds = kinds_of (g.R.Handlers.slots c.args.rack.now) in
    let error = err_from_is_err_and c.from_residual-in_err-told-in-Err.result c.from_residual-in_err-told-in-Err.ensures.1 in
    rw error.1 (ends_memory (PrintsTable c.args.name.now kinds c.args.plan.now c.args.things) a (table_memory (refl, refl)))

pub returns-in_err-extend-in-Err : goal.returns-in_err-extend-in-Err
returns-in_err-extend-in-Err g c = λ a.
    let kinds = kinds_of (g.R.Handlers.slots c.args.rack.now) in
    let error = err_from_is_err_and c.from_residual-in_err-extend-in-Err.result c.from_residual-in_err-extend-in-Err.ensures.1 in
    rw error.1 (ends_memory (PrintsTable c.args.name.now kinds c.args.plan.now c.args.things) a (table_memory (refl, refl)))

-- the table, and then the line on the fault
pub returns : goal.returns
returns g c = λ a.
    let kinds = kinds_of (g.R.Handlers.slots c.args.rack.now) in
    let plan = c.args.plan.now in
    let name = c.args.name.now in
    let told = c.in_ok-told-in-Err.told in
    let table = text_of_table plan c.args.things kinds in
    let line = input_line name (misfit_text c.in-Err.fault) in
    let is : c.in_ok-text.text ≡ table = c.in_ok-text.ensures ∙ ap (λ (ts : List (List ℕ × Json)). text_of_table plan ts kinds) c.as_slice.ensures in
    let both = c.in_ok-extend-in-Err.ensures.ok ∙ ap₂ (λ (x y : List ℕ). x ++ y) is (c.as_slice-in-Err.ensures ∙ c.in_ok-told-in-Err.ensures.line.1) in
    ends_line (PrintsTable name kinds plan c.args.things) a (record { status = told.status; text = c.extend.new.self }) 4 (table ++ line) (c.in_ok-told-in-Err.ensures.line.0, both)
    (is_tabled_with c.in-Err.fault c.in_ok-told-in-Err.ensures.known c.in-Err.ensures.fault (refl, refl))
