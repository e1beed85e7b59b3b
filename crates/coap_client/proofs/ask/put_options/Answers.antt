-- Where the path has no room after Observe, all options have none.
use Rattle.std.proofs.Common.{◌++◌}
use Rattle.std.proofs.lemmas.Result.{err_from_is_err_and}
use Rattle.coap_msg.specs.declared.constants.TheConstants.{URI_PATH}
use Rattle.coap_msg.specs.Opts.{segment_options}
use Rattle.coap_msg.proofs.OptionParts.{no_room_after_part}
use Rattle.coap_client.specs.Asking.{observe_option, format_option, both_blocks}
use Rattle.coap_client.proofs.ask.put_options.Goals as goal

pub returns-in_err-put_path : goal.returns-in_err-put_path
returns-in_err-put_path c =
    let p = err_from_is_err_and c.from_residual-in_err-put_path.result c.from_residual-in_err-put_path.ensures.1 in
    rw p.1 (no_room_after_part c.args.options.now c.put_observe.new.options (observe_option c.args.ask.now.observe) (segment_options URI_PATH c.args.ask.now.path.now)
    (format_option c.args.ask.now.format ++ both_blocks c.args.ask.now.block2 c.args.ask.now.block1) c.in_ok-put_observe.ensures.ok c.in_err-put_path.ensures.ok)
