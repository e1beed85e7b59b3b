use Rattle.std.proofs.Common.{◌≡◌}
use Rattle.coap_msg.specs.OptionsLeft.{options_left}
use Rattle.coap_opts.specs.Reading.{faults_of, faults_after}
use Rattle.coap_opts.proofs.found.refusal.Given as goal

abbrev pub invariant-loop-number : goal.invariant-loop-number
invariant-loop-number l = faults_of l.options ≡ faults_after l.before (options_left l.number-iterator)
