-- the number of the last option is at most the number so far
use Rattle.std.proofs.Common.{◌≤◌}
use Rattle.coap_msg.specs.Opts.{last_number}
use Rattle.cases_words.proofs.encodings.push_all.Given as goal

abbrev pub invariant-loop-number : goal.invariant-loop-number
invariant-loop-number l = last_number 0 l.options.list ≤ l.last
