use Rattle.std.proofs.Common.{arith, rules}
use Rattle.coap_msg.proofs.OneOption.{length-option_spelling, written_pieces}
use Rattle.coap_msg.proofs.opts.put_option.Goals as goal

pub returns-then-out-at-clause-no_room : goal.returns-then-out-at-clause-no_room
returns-then-out-at-clause-no_room c =
    omega (arith, length-option_spelling c.args.last (c.args.number, c.args.value.now))

pub returns-clause-end : goal.returns-clause-end
returns-clause-end c =
    let spelled = length-option_spelling c.args.last (c.args.number, c.args.value.now) in
    (omega arith, omega arith)

pub returns-clause-bytes : goal.returns-clause-bytes
returns-clause-bytes c =
    written_pieces c.args.last c.args.number _ c.args.value.now _ _ _ _ _ (search rules)
    c.put_bytes-at.ensures.bytes c.put_extended-at.ensures.bytes c.put_extended-at-2.ensures.bytes c.put_bytes.ensures.bytes
