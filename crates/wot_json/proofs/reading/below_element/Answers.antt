use Rattle.std.proofs.Common.{◌≡◌, ◌∙◌, ◌++◌, List, ℕ, ap}
use Rattle.wot_json.specs.Places.{index_text, element_step_text, step_text}
use Rattle.wot_json.proofs.Converting.{named_below}
use Rattle.wot_json.proofs.PointerTexts.{element_step}
use Rattle.wot_json.proofs.reading.below_element.Goals as goal

pub returns-in-Ok : goal.returns-in-Ok
returns-in-Ok c = λ places named.
    let whole : c.in-Ok.pointer ≡ step_text (index_text c.args.index) ++ c.in-NotInteger.place =
    c.in-Ok.ensures ∙ ap (λ (rest : List ℕ). element_step_text c.args.index ++ rest) c.as_str.ensures
    ∙ ap (λ (step : List ℕ). step ++ c.in-NotInteger.place) (element_step c.args.index c.ranges.index.fits) in
    named_below (index_text c.args.index) c.in-NotInteger.place c.in-Ok.pointer places (rw c.in-NotInteger.is at named) whole
