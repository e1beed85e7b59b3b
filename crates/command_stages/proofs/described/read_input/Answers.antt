use Rattle.std.proofs.Common.{List, ℕ, Option, Some, None, [], refl, subst, sym}
use Rattle.std.specs.Prelude.{Err}
use Rattle.std.proofs.lemmas.Result.{err_from_is_err_and}
use Rattle.wot_json.specs.declared.tree.Tree.{Tree}
use Rattle.command_stages.specs.Stages.{around, goes_on}
use Rattle.command_stages.specs.Ending.{ComesOut, Performs}
use Rattle.command_stages.specs.Describing.{ReadsInput, ReadsValue, HasInput, has_input, HasNoInput, has_no_input}
use Rattle.command_stages.proofs.StageLaws.{error_performs, second_comes, goes_quietly}
use Rattle.command_stages.proofs.described.read_input.Goals as goal

pub returns-in-None : goal.returns-in-None
returns-in-None g c = λ w.
    let held = (g.F.Files.seen c.args.files.now).held in
    let a = around (g.F.Files.seen c.args.files.now) w in
    subst (λ (name : Option (List ℕ)). ComesOut (ReadsInput held name) a a (goes_on None) []) (sym c.in-None.is) (goes_quietly HasNoInput a None (has_no_input refl refl))

pub returns-in_err-value-in-Some : goal.returns-in_err-value-in-Some
returns-in_err-value-in-Some g c = λ w.
    let held = (g.F.Files.seen c.args.files.now).held in
    let a = around (g.F.Files.seen c.args.files.now) w in
    let b = around (g.F.Files.seen c.read_value.new.files) w in
    let error = err_from_is_err_and c.from_residual.result c.from_residual.ensures.1 in
    let e = c.in_err-value-in-Some.field-0.0 in
    rw (error.1, error.2) (subst (λ (name : Option (List ℕ)). Performs {A = Option Tree} (ReadsInput held name) a b (Err e)) (sym c.in-Some.is)
    (subst (λ (name : List ℕ). Performs {A = Option Tree} (ReadsInput held (Some name)) a b (Err e)) c.as_str.ensures
    (error_performs {B = Option Tree} (ReadsValue held c.as_str.result.now) HasInput a b e (c.in_err-value-in-Some.ensures w))))

pub returns-in_ok-value-in-Some : goal.returns-in_ok-value-in-Some
returns-in_ok-value-in-Some g c = λ w.
    let held = (g.F.Files.seen c.args.files.now).held in
    let a = around (g.F.Files.seen c.args.files.now) w in
    let b = around (g.F.Files.seen c.read_value.new.files) w in
    let value = c.in_ok-value-in-Some.value in
    subst (λ (name : Option (List ℕ)). ComesOut (ReadsInput held name) a b (goes_on (Some value)) []) (sym c.in-Some.is)
    (subst (λ (name : List ℕ). ComesOut (ReadsInput held (Some name)) a b (goes_on (Some value)) []) c.as_str.ensures
    (second_comes (ReadsValue held c.as_str.result.now) HasInput a b b value (goes_on (Some value)) [] (c.in_ok-value-in-Some.ensures w) (goes_quietly (HasInput value) b (Some value) (has_input refl refl))))
