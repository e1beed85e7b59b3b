use Rattle.std.proofs.Common.{◌∙◌, inl, inr, sym}
use Rattle.wot_json.proofs.PointerTexts.{token_none, begins_plain, begins_escaped, tilde_is_no_token, escaped_token}
use Rattle.wot_json.proofs.lookup.first_byte.Goals as goal

pub returns-in_err-first : goal.returns-in_err-first
returns-in_err-first c = λ name is. rw c.from_residual.ensures (token_none c.args.token.now name c.in_err-first.ensures.cases is)

pub returns-then-first-ne126 : goal.returns-then-first-ne126
returns-then-first-ne126 c = λ name is.
    begins_plain c.in_ok-first.first.now c.in_ok-first.after.now name c.if-first-ne126.true (sym c.in_ok-first.ensures.cases.0 ∙ is)

pub returns-in-Some-eq48-default : goal.returns-in-Some-eq48-default
returns-in-Some-eq48-default c = λ name is.
    let inside = c.in-Some-eq48-default in
    let written = escaped_token c.args.token.now c.in_ok-first.after.now inside.after.now name c.in_ok-first.first.now inside.field-0-0.now c.in_ok-first.ensures.cases.0 c.if-first-ne126.false inside.ensures.cases.0 is in
    elim (begins_escaped inside.field-0-0.now inside.after.now name written) [
      | inl tilde ↦ tilde.1
      | inr slash ↦ absurd (slash.0 inside.field-0-0-test)
    ]

pub returns-in-Some : goal.returns-in-Some
returns-in-Some c = λ name is.
    let inside = c.in-Some in
    let written = escaped_token c.args.token.now c.in_ok-first.after.now inside.after.now name c.in_ok-first.first.now inside.field-0-0.now c.in_ok-first.ensures.cases.0 c.if-first-ne126.false inside.ensures.cases.0 is in
    elim (begins_escaped inside.field-0-0.now inside.after.now name written) [
      | inl tilde ↦ absurd (inside.field-0-0-test.1 tilde.0)
      | inr slash ↦ slash.1
    ]

pub returns-in-None : goal.returns-in-None
returns-in-None c = λ name is.
    absurd (tilde_is_no_token c.args.token.now c.in_ok-first.after.now name c.in_ok-first.first.now c.in_ok-first.ensures.cases.0 c.if-first-ne126.false c.in-None.ensures.cases is)
