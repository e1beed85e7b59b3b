use Rattle.std.proofs.Common.{inr}
use Rattle.std.proofs.lemmas.Result.{err_from_is_err_and}
use Rattle.tm_parts.proofs.Written.{writes_pointer, writes_other, writes_no_text, none_written}
use Rattle.tm_parts.proofs.reference.written_pointer.Goals as goal

pub returns-in_err-decoded-clause-fault : goal.returns-in_err-decoded-clause-fault
returns-in_err-decoded-clause-fault c =
    let error = err_from_is_err_and c.from_residual.result c.from_residual.ensures.1 in
    rw (error.1, error.2) (writes_no_text c.args.fragment.now c.in_err-decoded.field-0.0 c.in_err-decoded.ensures.fault)

pub returns-in-Ok-clause-ok : goal.returns-in-Ok-clause-ok
returns-in-Ok-clause-ok c =
    writes_pointer c.args.fragment.now c.in_ok-decoded.decoded c.in_ok-decoded.ensures.ok.0 c.in_ok-decoded.ensures.ok.1 (rw c.as_str.ensures at c.in-Ok.ensures.ok.0)

pub returns-in-Err-clause-fault : goal.returns-in-Err-clause-fault
returns-in-Err-clause-fault c =
    inr (writes_other c.args.fragment.now c.in_ok-decoded.decoded c.in_ok-decoded.ensures.ok.0 c.in_ok-decoded.ensures.ok.1 (rw c.as_str.ensures at c.in-Err.ensures.fault))

pub returns-in_err-decoded-clause-refused : goal.returns-in_err-decoded-clause-refused
returns-in_err-decoded-clause-refused c =
    let error = err_from_is_err_and c.from_residual.result c.from_residual.ensures.1 in
    rw (error.1, error.2) (none_written c.args.fragment.now _ (writes_no_text c.args.fragment.now c.in_err-decoded.field-0.0 c.in_err-decoded.ensures.fault))

pub returns-in-Err-clause-refused : goal.returns-in-Err-clause-refused
returns-in-Err-clause-refused c = λ bad.
    writes_other c.args.fragment.now c.in_ok-decoded.decoded c.in_ok-decoded.ensures.ok.0 c.in_ok-decoded.ensures.ok.1 (rw c.as_str.ensures at c.in-Err.ensures.fault)
