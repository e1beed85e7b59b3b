use Rattle.std.proofs.Common.{◌++◌, ◌∙◌, ap, []}
use Rattle.std.proofs.lemmas.Result.{err_from_is_err_and}
use Rattle.tm_derive.specs.Derivation.{Things, outcomes, outcomes_within, thing_of}
use Rattle.std.specs.List.{flat_map}
use Rattle.tm_derive.specs.Kept.{given_of}
use Rattle.tm_derive.proofs.WholeDerivation.{outcomes_are, refused_by_things, refused_by_choice, whole_derived}
use Rattle.tm_derive.proofs.derivation.derive_with.Goals as goal

pub returns-in_err-put_thing : goal.returns-in_err-put_thing
returns-in_err-put_thing c =
    let p = err_from_is_err_and c.from_residual-in_err-put_thing.result c.from_residual-in_err-put_thing.ensures.1 in
    let given = given_of c.args.common.now in
    rw (p.1, p.2)
    (refused_by_things c.args.common.now.choices.now (outcomes given c.args.root.now) (outcomes_within c.most_below.result given [] c.in_ok-place.place) c.in_err-put_thing.field-0.0
    (outcomes_are given c.args.root.now c.most_below.result c.in_ok-place.place c.most_below.ensures c.in_ok-place.ensures) c.in_err-put_thing.ensures)

pub returns-in_err-judge_elsewhere : goal.returns-in_err-judge_elsewhere
returns-in_err-judge_elsewhere c =
    let p = err_from_is_err_and c.from_residual-in_err-judge_elsewhere.result c.from_residual-in_err-judge_elsewhere.ensures.1 in
    let given = given_of c.args.common.now in
    let os = outcomes_within c.most_below.result given [] c.in_ok-place.place in
    rw (p.1, p.2)
    (refused_by_choice c.args.common.now.choices.now c.as_slice-2.result.now (outcomes given c.args.root.now) os c.put_thing.new.things c.as_slice.result.now c.in_err-judge_elsewhere.field-0.0
    (outcomes_are given c.args.root.now c.most_below.result c.in_ok-place.place c.most_below.ensures c.in_ok-place.ensures) c.as_slice-2.ensures
    (c.in_ok-put_thing.ensures.0 ∙ ap (λ (ts : Things). ts ++ flat_map thing_of os) c.new-things.ensures) c.as_slice.ensures c.in_ok-put_thing.ensures.1 c.in_ok-put_thing.ensures.2 c.in_err-judge_elsewhere.ensures)

pub returns : goal.returns
returns c =
    let given = given_of c.args.common.now in
    let os = outcomes_within c.most_below.result given [] c.in_ok-place.place in
    whole_derived c.args.common.now.choices.now c.as_slice-2.result.now (outcomes given c.args.root.now) os c.put_thing.new.things c.as_slice.result.now
    (outcomes_are given c.args.root.now c.most_below.result c.in_ok-place.place c.most_below.ensures c.in_ok-place.ensures) c.as_slice-2.ensures
    (c.in_ok-put_thing.ensures.0 ∙ ap (λ (ts : Things). ts ++ flat_map thing_of os) c.new-things.ensures) c.as_slice.ensures c.in_ok-put_thing.ensures.1 c.in_ok-put_thing.ensures.2 c.in_ok-judge_elsewhere.ensures
