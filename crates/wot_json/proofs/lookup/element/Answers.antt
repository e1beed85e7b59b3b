use Rattle.std.proofs.Common.{◌≡◌, ◌∙◌, ◌<◌, ◌^◌, ℕ, decimal, arith, ap}
use Rattle.wot_json.specs.Places.{token_text}
use Rattle.wot_json.proofs.PointerTexts.{element_found, element_missing, element_read, few_elements, number_name, number_token}
use Rattle.wot_json.proofs.lookup.element.Goals as goal

pub returns-in-Some : goal.returns-in-Some
returns-in-Some c = λ name is.
    let read = c.in-Some.ensures in
    let list = c.as_slice-list in
    let only : (n : ℕ) → n < 2 ^ 64 → name ≡ decimal n → c.in-Some.index ≡ n = λ n fits digits. cc (read.complete n (omega arith) (is ∙ ap token_text digits ∙ number_token n fits)) in
    element_read list.result.now c.args.items.now c.in-Some.index c.get.result list.ensures c.get.ensures.lookup.3
    ∙ element_found name c.args.items.now 0 c.in-Some.index (number_name name c.args.token.now c.in-Some.index (omega (arith, read.ok.1)) is read.ok.0) only (omega arith)
    (few_elements list.result.now c.args.items.now list.ensures (omega (arith, list.type_inv)))

pub returns-in-None : goal.returns-in-None
returns-in-None c = λ name is.
    let list = c.as_slice-list in
    element_missing name c.args.items.now 0
    (λ n fits digits. let read = c.in-None.ensures in cc (read.complete n (omega arith) (is ∙ ap token_text digits ∙ number_token n fits)))
    (few_elements list.result.now c.args.items.now list.ensures (omega (arith, list.type_inv)))
