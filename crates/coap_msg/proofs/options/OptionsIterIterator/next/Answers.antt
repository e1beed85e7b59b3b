use Rattle.std.proofs.Common.{rules, ap, length}
use Rattle.coap_msg.proofs.OneOption.{options_left_step}
use Rattle.coap_msg.proofs.options.OptionsIterIterator.next.Goals as goal

pub returns-in-Some-clause-steps : goal.returns-in-Some-clause-steps
returns-in-Some-clause-steps c =
    options_left_step c.args.self.now.last c.in-Some.number c.args.self.now.rest.now c.in-Some.value.now c.in-Some.next.now c.in-Some.ensures

pub returns-in-Some-clause-goes : goal.returns-in-Some-clause-goes
returns-in-Some-clause-goes c =
    let step = options_left_step c.args.self.now.last c.in-Some.number c.args.self.now.rest.now c.in-Some.value.now c.in-Some.next.now c.in-Some.ensures in
    let counted = ap length step in
    search rules
