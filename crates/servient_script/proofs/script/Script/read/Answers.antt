use Rattle.std.proofs.Common.{◌≡◌, ◌≢◌, ◌+◌, ◌++◌, ◌∷◌, [], ℕ, List, Bool, true, false, ◌==◌, ◌∙◌, sym, ap, arith, length}
use Rattle.std.proofs.lemmas.Bool.Decides.{nat_tests}
use Rattle.std.proofs.lemmas.List.{nil_from_length}
use Rattle.servient_script.proofs.ScriptTexts.{all_read, bad_line, bad_after_stop, bad_without_line_feed, few_events, first_bad_line, no_script, only_read, read_more, read_none}
use Rattle.servient_script.proofs.script.Script.read.Goals as goal

pub lines-init : goal.lines-init
lines-init c = rw c.new-events.ensures (read_none c.args.bytes.now)

pub overflow_cast-number : goal.overflow_cast-number
overflow_cast-number c =
    let few = few_events c.args.bytes.now c.lines.rest.now c.lines.events c.lines.invariant in
    omega (arith, few, c.len.ensures, c.requires)

pub overflow_add-number : goal.overflow_add-number
overflow_add-number c =
    let few = few_events c.args.bytes.now c.lines.rest.now c.lines.events c.lines.invariant in
    omega (arith, few, c.len.ensures, c.requires)

-- the meaning of `is_empty` of a slice
empty : (rest : List ℕ) (r : Bool) → r ≡ (length rest == 0) → r ≡ true → rest ≡ []
empty rest r is holds = nil_from_length rest (grind (arith, nat_tests))

not_empty : (rest : List ℕ) (r : Bool) → r ≡ (length rest == 0) → r ≡ false → rest ≢ []
not_empty rest r is differs none =
    let size : length rest ≡ 0 = ap length none in
    grind (arith, nat_tests)

pub ends_run-requires : goal.ends_run-requires
ends_run-requires c = c.lines.invariant.ends

pub returns-then-ends_run-clause-complete : goal.returns-then-ends_run-clause-complete
returns-then-ends_run-clause-complete c = λ events is.
    let some = not_empty c.lines.rest.now c.is_empty.result c.is_empty.ensures c.lines-test.true in
    let bad = bad_after_stop c.lines.events c.lines.rest.now (sym c.ends_run.ensures ∙ c.if-ends_run.true) in
    absurd (no_script c.args.bytes.now c.lines.events c.lines.rest.now c.lines.invariant some bad events is)

pub returns-then-ends_run-clause-fault : goal.returns-then-ends_run-clause-fault
returns-then-ends_run-clause-fault c = λ n is.
    let some = not_empty c.lines.rest.now c.is_empty.result c.is_empty.ensures c.lines-test.true in
    let bad = bad_after_stop c.lines.events c.lines.rest.now (sym c.ends_run.ensures ∙ c.if-ends_run.true) in
    let number : c.len.result + 1 ≡ n = cc is in
    first_bad_line c.args.bytes.now c.lines.events c.lines.rest.now n c.lines.invariant some bad
    (omega (arith, number, c.len.ensures))

pub returns-in_default-clause-complete : goal.returns-in_default-clause-complete
returns-in_default-clause-complete c = λ events is.
    let some = not_empty c.lines.rest.now c.is_empty.result c.is_empty.ensures c.lines-test.true in
    let bad = bad_without_line_feed c.lines.events c.lines.rest.now c.in_default.ensures in
    absurd (no_script c.args.bytes.now c.lines.events c.lines.rest.now c.lines.invariant some bad events is)

pub returns-in_default-clause-fault : goal.returns-in_default-clause-fault
returns-in_default-clause-fault c = λ n is.
    let some = not_empty c.lines.rest.now c.is_empty.result c.is_empty.ensures c.lines-test.true in
    let bad = bad_without_line_feed c.lines.events c.lines.rest.now c.in_default.ensures in
    let number : c.len.result + 1 ≡ n = cc is in
    first_bad_line c.args.bytes.now c.lines.events c.lines.rest.now n c.lines.invariant some bad
    (omega (arith, number, c.len.ensures))

pub returns-in_default-2-clause-complete : goal.returns-in_default-2-clause-complete
returns-in_default-2-clause-complete c = λ events is.
    let some = not_empty c.lines.rest.now c.is_empty.result c.is_empty.ensures c.lines-test.true in
    let bad =
    bad_line c.lines.events c.lines.rest.now c.in-Some.line.now c.in-Some.more.now c.in-Some.ensures.0 c.in-Some.ensures.1
    (λ e is_event text. c.in_default-2.not-Some e (c.in_ok-event.ensures.complete e is_event text)) in
    absurd (no_script c.args.bytes.now c.lines.events c.lines.rest.now c.lines.invariant some bad events is)

pub returns-in_default-2-clause-fault : goal.returns-in_default-2-clause-fault
returns-in_default-2-clause-fault c = λ n is.
    let some = not_empty c.lines.rest.now c.is_empty.result c.is_empty.ensures c.lines-test.true in
    let bad =
    bad_line c.lines.events c.lines.rest.now c.in-Some.line.now c.in-Some.more.now c.in-Some.ensures.0 c.in-Some.ensures.1
    (λ e is_event text. c.in_default-2.not-Some e (c.in_ok-event.ensures.complete e is_event text)) in
    let number : c.len.result + 1 ≡ n = cc is in
    first_bad_line c.args.bytes.now c.lines.events c.lines.rest.now n c.lines.invariant some bad
    (omega (arith, number, c.len.ensures))

pub lines-preserved : goal.lines-preserved
lines-preserved c =
    let read = rw c.in-Some-2.is at c.in_ok-event.ensures in
    let pushed : c.push.new.self ≡ c.lines.events ++ c.in-Some-2.event ∷ [] = c.in_ok-push.ensures.ok in
    rw pushed (
    read_more c.args.bytes.now c.in-Some.line.now c.in-Some.more.now c.lines.events c.in-Some-2.event c.lines.rest.now
    c.lines.invariant c.in-Some.ensures.0 c.in-Some.ensures.1 read.ok read.bounds
    (λ x is text. let same = read.complete x is text in cc same) (sym c.ends_run.ensures ∙ c.if-ends_run.false)
    )

pub returns-clause-ok : goal.returns-clause-ok
returns-clause-ok c =
    let none = empty c.lines.rest.now c.is_empty.result c.is_empty.ensures c.lines-test.false in
    all_read c.args.bytes.now c.lines.events c.lines.rest.now c.lines.invariant none

pub returns-clause-complete : goal.returns-clause-complete
returns-clause-complete c =
    let none = empty c.lines.rest.now c.is_empty.result c.is_empty.ensures c.lines-test.false in
    only_read c.args.bytes.now c.lines.events c.lines.rest.now c.lines.invariant none
