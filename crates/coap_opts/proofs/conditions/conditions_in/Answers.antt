use Rattle.std.proofs.Common.{◌∙◌, ap}
use Rattle.coap_opts.specs.Found.{asked_by}
use Rattle.coap_opts.proofs.NotedOptions.{nothing_before}
use Rattle.coap_opts.proofs.conditions.conditions_in.Goals as goal

pub returns : goal.returns
returns c =
    c.asked_by.ensures
    ∙ ap asked_by
    (nothing_before c.args.counts c.none.result c.none-2.result c.note_options.new.noted c.args.options.now c.none.ensures c.none-2.ensures c.in_ok-note_options.ensures)
