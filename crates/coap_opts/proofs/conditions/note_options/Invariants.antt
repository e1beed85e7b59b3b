use Rattle.std.proofs.Common.{◌≡◌}
use Rattle.coap_msg.specs.OptionsLeft.{options_left}
use Rattle.coap_opts.specs.Found.{noted_of, noted_then}
use Rattle.coap_opts.proofs.conditions.note_options.Given as goal

abbrev pub invariant-loop-number : goal.invariant-loop-number
invariant-loop-number l =
    noted_then l.initial.noted (noted_of l.counts l.options) ≡ noted_then l.noted (noted_of l.counts (options_left l.number-iterator))
