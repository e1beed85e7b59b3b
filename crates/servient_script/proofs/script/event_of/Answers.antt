use Rattle.std.proofs.Common.{◌≡◌, ◌∙◌, ℕ, List, decimal, arith}
use Rattle.std.specs.Prelude.{Result, Ok, Err, Option, Some, IfOk}
use Rattle.std.specs.declared.alloc.AllocError.{AllocError}
use Rattle.servient_outside.specs.declared.net.EventWithBytes.{EventWithBytes}
use Rattle.servient_script.specs.Script.{IsScriptEvent, ReadsEvent, line_fields, what_fields}
use Rattle.servient_script.proofs.FieldTexts.{first_and_rest}
use Rattle.servient_script.proofs.LineTexts.{AreFields-line_fields, body_is, length-line_fields, line_is_utf8}
use Rattle.servient_script.proofs.script.event_of.Goals as goal

pub returns-in_default-clause-complete : goal.returns-in_default-clause-complete
returns-in_default-clause-complete c = λ e is text.
    absurd (c.in_default.ensures.cases.0 (line_is_utf8 e c.args.line.now is text))

pub returns-in_default-fields_of-clause-complete :
    goal.returns-in_default-fields_of-clause-complete
returns-in_default-fields_of-clause-complete c = λ e is text.
    absurd
    (c.in_default-fields_of.ensures.complete (line_fields e) (AreFields-line_fields e is) (length-line_fields e)
    (c.in-Ok.ensures.cases.0 ∙ body_is e c.args.line.now text))

pub returns-in_default-parse_decimal-clause-complete :
    goal.returns-in_default-parse_decimal-clause-complete
returns-in_default-parse_decimal-clause-complete c = λ e is text.
    let cut =
    c.in-Some.ensures.complete (line_fields e) (AreFields-line_fields e is) (length-line_fields e)
    (c.in-Ok.ensures.cases.0 ∙ body_is e c.args.line.now text) in
    let parts =
    first_and_rest c.deref.result.now c.in-Some-split_first.what.now c.in-Some-split_first.moment.now
    (decimal e.event.moment) (what_fields e.event.what e.bytes) c.in-Some-split_first.ensures.cases
    (rw c.deref.ensures.0 cut) in
    let latest = is.bounds.event.moment in
    let read = c.parse_decimal.ensures.complete e.event.moment (omega (arith, latest)) parts.0 in
    absurd (c.in_default-parse_decimal.not-Some e.event.moment read)

-- an event that may be read, and of which these are the fields
read_as : (r : Result (Option EventWithBytes) AllocError) (moment : ℕ) (fields : List (List ℕ)) (e : EventWithBytes) → IfOk r (ReadsEvent moment fields) → IsScriptEvent e → e.event.moment ≡ moment → fields ≡ what_fields e.event.what e.bytes → IfOk r (λ o. o ≡ Some e)
read_as (Ok o) moment fields e reads is same whole = reads.complete e is same whole
read_as (Err none) moment fields e reads is same whole = tt

pub returns-clause-complete : goal.returns-clause-complete
returns-clause-complete c = λ e is text.
    let cut =
    c.in-Some.ensures.complete (line_fields e) (AreFields-line_fields e is) (length-line_fields e)
    (c.in-Ok.ensures.cases.0 ∙ body_is e c.args.line.now text) in
    let parts =
    first_and_rest c.deref.result.now c.in-Some-split_first.what.now c.in-Some-split_first.moment.now
    (decimal e.event.moment) (what_fields e.event.what e.bytes) c.in-Some-split_first.ensures.cases
    (rw c.deref.ensures.0 cut) in
    let latest = is.bounds.event.moment in
    let read = c.parse_decimal.ensures.complete e.event.moment (omega (arith, latest)) parts.0 in
    let moment : e.event.moment ≡ c.in-Some-parse_decimal.moment = cc (read, c.in-Some-parse_decimal.is) in
    read_as c.event_at.result c.in-Some-parse_decimal.moment _ e c.event_at.ensures is moment parts.1
