use Rattle.std.proofs.Common.{◌≡◌, arith}
use Rattle.servient_script.proofs.FieldTexts.{cut_endpoint}
use Rattle.servient_script.proofs.script.endpoint_of.Goals as goal

pub returns-in_err-host-clause-complete : goal.returns-in_err-host-clause-complete
returns-in_err-host-clause-complete c = λ e bounds is.
    let cut = cut_endpoint e c.args.text.now c.split_once.result c.split_once.ensures.cases bounds is in
    absurd (rw c.in_err-host.was at cut)

pub returns-in_err-host-2-clause-complete : goal.returns-in_err-host-2-clause-complete
returns-in_err-host-2-clause-complete c = λ e bounds is.
    let cut = cut_endpoint e c.args.text.now c.split_once.result c.split_once.ensures.cases bounds is in
    let parts = rw c.in_ok-host.was at cut in
    let host = c.parse_decimal.ensures.complete e.host (omega (arith, c.from.ensures, bounds)) parts.0 in
    cc (host, c.in_err-host-2.was)

pub returns-in_err-port-clause-complete : goal.returns-in_err-port-clause-complete
returns-in_err-port-clause-complete c = λ e bounds is.
    let cut = cut_endpoint e c.args.text.now c.split_once.result c.split_once.ensures.cases bounds is in
    let parts = rw c.in_ok-host.was at cut in
    let port = c.parse_decimal-2.ensures.complete e.port (omega (arith, c.from-2.ensures, bounds)) parts.1 in
    cc (port, c.in_err-port.was)

pub returns-clause-complete : goal.returns-clause-complete
returns-clause-complete c = λ e bounds is.
    let cut = cut_endpoint e c.args.text.now c.split_once.result c.split_once.ensures.cases bounds is in
    let parts = rw c.in_ok-host.was at cut in
    let host = c.parse_decimal.ensures.complete e.host (omega (arith, c.from.ensures, bounds)) parts.0 in
    let port = c.parse_decimal-2.ensures.complete e.port (omega (arith, c.from-2.ensures, bounds)) parts.1 in
    let same_host : c.from-3.result ≡ e.host = cc (c.from-3.ensures, host, c.in_ok-host-2.was) in
    let same_port : c.in_ok-port.port ≡ e.port = cc (port, c.in_ok-port.was) in
    rw (same_host, same_port)
