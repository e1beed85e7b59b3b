use Rattle.std.proofs.Common.{List, ℕ, refl, subst}
use Rattle.std.specs.Prelude.{Ok, Err}
use Rattle.std.proofs.lemmas.Result.{err_from_is_err_and}
use Rattle.wot_json.specs.Tree.{Json}
use Rattle.wot_terms.specs.ThingLists.{kept_things}
use Rattle.command_stages.specs.declared.ending.Ended.TheVariants as ended
use Rattle.command_stages.specs.Stages.{ends}
use Rattle.command_stages.specs.Ending.{ComesOut}
use Rattle.command_stages.specs.Deriving.{Derives, Prints, is_printed, print_memory, things_text}
use Rattle.command_stages.proofs.StageLaws.{then_ends, error_ends, ends_line, ends_memory}
use Rattle.command_stages.proofs.derivation.derive_and_print.Goals as goal

pub returns-in_err-things : goal.returns-in_err-things
returns-in_err-things c = λ a.
    let error = err_from_is_err_and c.from_residual.result c.from_residual.ensures.1 in
    rw (error.1, error.2) (error_ends (Derives c.args.planned.now) Prints a a c.in_err-things.field-0.0 (c.in_err-things.ensures.stage a))

pub returns-in_err-printed : goal.returns-in_err-printed
returns-in_err-printed c = λ a.
    let things = c.in_ok-things.things in
    let error = err_from_is_err_and c.from_residual-in_err-printed.result c.from_residual-in_err-printed.ensures.1 in
    rw (error.1, error.2) (then_ends (Derives c.args.planned.now) Prints a a a things (Err ended.NoMemory) (c.in_ok-things.ensures.stage a) (ends_memory (Prints things) a (print_memory (refl, refl))))

pub returns : goal.returns
returns c = λ a.
    let things = c.in_ok-things.things in
    let ending = c.in_ok-printed.field-0 in
    then_ends (Derives c.args.planned.now) Prints a a a things (Ok ending) (c.in_ok-things.ensures.stage a)
    (subst (λ (ts : List (List ℕ × Json)). ComesOut (Prints ts) a a (ends ending.status) ending.text) c.as_slice.ensures
    (ends_line (Prints (kept_things c.as_slice.result.now)) a ending 0 (things_text (kept_things c.as_slice.result.now)) c.in_ok-printed.ensures (is_printed (refl, refl))))
