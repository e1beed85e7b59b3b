use Rattle.std.proofs.Common.{arith}
use Rattle.coap_msg.proofs.NumberValues.{one_written, two_written}
use Rattle.coap_msg.proofs.numbers.write_number.Goals as goal

pub returns-then-number-lt256 : goal.returns-then-number-lt256
returns-then-number-lt256 c = one_written c.args.out.now c.args.number c.told-out (omega arith) (omega arith)

pub returns-then-number-lt65536 : goal.returns-then-number-lt65536
returns-then-number-lt65536 c = two_written c.args.out.now c.args.number c.told-out (omega arith) (omega arith)
