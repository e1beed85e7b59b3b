use Rattle.std.proofs.Common.{◌≡◌, length, arith, refl, sym}
use Rattle.std.proofs.lemmas.Bool.Decides.{nat_tests}
use Rattle.coap_msg.specs.Grammar.{payload_spelling}
use Rattle.coap_msg.proofs.Bodies.{begin, step, falls, marker_and_bytes, at_payload, at_end, bare_marker, no_option}
use Rattle.coap_msg.proofs.OptionLists.{one_body}
use Rattle.coap_msg.proofs.FaultLaws.{body_fault_at}
use Rattle.coap_msg.proofs.decoding.split_body.Goals as goal

pub returns-then-is_empty-clause-complete : goal.returns-then-is_empty-clause-complete
returns-then-is_empty-clause-complete c =
    let none : length c.in-Some.after.now ≡ 0 = grind (arith, nat_tests) in
    bare_marker c.args.body.now c.options.last c.in-Some.first.now c.options.rest.now c.in-Some.after.now
    c.options.invariant c.in-Some.ensures.cases.0 c.if-first.true none

pub returns-then-first-clause-ok : goal.returns-then-first-clause-ok
returns-then-first-clause-ok c =
    let bytes : length c.in-Some.after.now ≡ 0 → ⊥ = grind (arith, nat_tests) in
    let payload : c.options.rest.now ≡ payload_spelling c.in-Some.after.now =
    marker_and_bytes c.in-Some.first.now c.options.rest.now c.in-Some.after.now c.in-Some.ensures.cases.0 c.if-first.true bytes in
    at_payload c.args.body.now c.options.last c.options.rest.now c.in-Some.after.now _ c.options.invariant payload refl

pub returns-then-first-clause-complete : goal.returns-then-first-clause-complete
returns-then-first-clause-complete c options payload spells =
    one_body _ options c.in-Some.after.now payload c.args.body.now (returns-then-first-clause-ok c) spells

pub returns-in_default-take_option-clause-complete : goal.returns-in_default-take_option-clause-complete
returns-in_default-take_option-clause-complete c =
    no_option c.args.body.now c.options.last c.in-Some.first.now c.options.rest.now c.in-Some.after.now
    c.options.invariant c.in-Some.ensures.cases.0 c.if-first.false (sym c.in_default-take_option.ensures)

pub options-init : goal.options-init
options-init c = begin c.args.body.now (λ i. omega (arith, c.type_inv.body i))

pub options-preserved : goal.options-preserved
options-preserved c =
    step c.args.body.now c.options.last c.options.rest.now c.in-Some-take_option.number c.in-Some-take_option.field-0-1.now c.in-Some-take_option.next.now
    c.options.invariant c.in-Some-take_option.ensures

pub options-smaller : goal.options-smaller
options-smaller c =
    falls c.options.last c.options.rest.now c.in-Some-take_option.number c.in-Some-take_option.field-0-1.now c.in-Some-take_option.next.now
    c.in-Some-take_option.ensures

pub returns-clause-ok : goal.returns-clause-ok
returns-clause-ok c =
    at_end c.args.body.now c.options.last c.options.rest.now c.options.invariant c.in_default.ensures.cases

pub returns-clause-complete : goal.returns-clause-complete
returns-clause-complete c options payload spells =
    one_body _ options c.options.rest.now payload c.args.body.now (returns-clause-ok c) spells

pub returns-in_default-take_option-clause-fault : goal.returns-in_default-take_option-clause-fault
returns-in_default-take_option-clause-fault c =
    body_fault_at c.option_fault.result c.args.body.now c.options.last c.in-Some.first.now c.options.rest.now c.in-Some.after.now
    c.options.invariant c.in-Some.ensures.cases.0 c.option_fault.ensures
