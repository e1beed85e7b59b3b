-- the value that was found and those of the options that are left are all values
use Rattle.std.proofs.Common.{◌≡◌, ◌++◌}
use Rattle.coap_msg.specs.OptionsLeft.{options_left}
use Rattle.coap_client.specs.Answers.{block2_values}
use Rattle.coap_client.specs.Finding.{found_values}
use Rattle.coap_client.proofs.block2.block2_in.Given as goal

abbrev pub invariant-loop-number : goal.invariant-loop-number
invariant-loop-number l = block2_values l.options ≡ found_values l.found ++ block2_values (options_left l.number-iterator)
