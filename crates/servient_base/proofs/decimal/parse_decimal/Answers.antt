use Rattle.std.proofs.Common.{◌≡◌, decimal, ◌^◌, ◌<◌, true, false, sym, ◌∙◌, arith}
use Rattle.servient_base.proofs.DecimalTexts.{decimal_from_parse, has_sign_or_leading_zero, no_sign_or_leading_zero, parse_gives_number}
use Rattle.servient_base.proofs.decimal.parse_decimal.Goals as goal

pub returns-then-has_sign_or_leading_zero-clause-complete : goal.returns-then-has_sign_or_leading_zero-clause-complete
returns-then-has_sign_or_leading_zero-clause-complete c = λ n bound is.
    let test : has_sign_or_leading_zero c.args.text.now ≡ true =
    sym c.has_sign_or_leading_zero.ensures ∙ c.if-has_sign_or_leading_zero.true in
    absurd (no_sign_or_leading_zero n (omega (arith, c.ranges.most)) (rw is at test))

pub returns-in-Ok-clause-ok : goal.returns-in-Ok-clause-ok
returns-in-Ok-clause-ok c =
    let test : has_sign_or_leading_zero c.args.text.now ≡ false =
    sym c.has_sign_or_leading_zero.ensures ∙ c.if-has_sign_or_leading_zero.false in
    let is : c.args.text.now ≡ decimal c.in-Ok.number =
    decimal_from_parse c.args.text.now c.parse.result c.in-Ok.number c.parse.ensures.value.0 test c.in-Ok.is in
    (is, omega (arith, c.if-number-most.true))

pub returns-in-Ok-clause-complete : goal.returns-in-Ok-clause-complete
returns-in-Ok-clause-complete c = λ n bound is.
    let fits : c.args.most < 2 ^ 64 = omega (arith, c.ranges.most) in
    let parsed = parse_gives_number c.args.text.now c.parse.result n c.args.most c.parse.ensures.value.0 fits bound is in
    cc (parsed, c.in-Ok.is)

pub returns-in_default-clause-complete : goal.returns-in_default-clause-complete
returns-in_default-clause-complete c = λ n bound is.
    let fits : c.args.most < 2 ^ 64 = omega (arith, c.ranges.most) in
    let parsed = parse_gives_number c.args.text.now c.parse.result n c.args.most c.parse.ensures.value.0 fits bound is in
    let same : c.in-Ok.number ≡ n = cc (parsed, c.in-Ok.is) in
    absurd (omega (arith, same, c.if-number-most.false))

pub returns-in_default-2-clause-complete : goal.returns-in_default-2-clause-complete
returns-in_default-2-clause-complete c = λ n bound is.
    let fits : c.args.most < 2 ^ 64 = omega (arith, c.ranges.most) in
    let parsed = parse_gives_number c.args.text.now c.parse.result n c.args.most c.parse.ensures.value.0 fits bound is in
    cc (parsed, c.in_default.is)
