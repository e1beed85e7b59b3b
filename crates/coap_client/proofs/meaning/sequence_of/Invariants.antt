-- no option so far is Observe
use Rattle.std.proofs.Common.{◌≡◌}
use Rattle.coap_msg.specs.OptionsLeft.{options_left}
use Rattle.coap_client.specs.Answers.{sequence_of}
use Rattle.coap_client.proofs.meaning.sequence_of.Given as goal

abbrev pub invariant-loop-number : goal.invariant-loop-number
invariant-loop-number l = sequence_of l.options ≡ sequence_of (options_left l.number-iterator)
