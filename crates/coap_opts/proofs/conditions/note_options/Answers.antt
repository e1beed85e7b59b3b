use Rattle.coap_msg.specs.OptionsLeft.{options_left}
use Rattle.coap_opts.proofs.NotedOptions.{option_kept}
use Rattle.coap_opts.proofs.conditions.note_options.Goals as goal

pub loop-number-preserved : goal.loop-number-preserved
loop-number-preserved c =
    option_kept c.args.counts c.args.noted.now c.loop-number.noted c.note_option.new.noted c.args.options.now (options_left c.loop-number.number-iterator)
    (options_left c.next.new.self) (c.in-Some.number, c.in-Some.value.now) c.loop-number.invariant c.in-Some.ensures.steps c.in_ok-note_option.ensures
