-- Where Content-Format has no room, it and the blocks have none.
use Rattle.std.proofs.Common.{sym, append_assoc}
use Rattle.std.proofs.lemmas.Result.{err_from_is_err_and}
use Rattle.coap_msg.proofs.OptionParts.{no_room_for_all}
use Rattle.coap_client.specs.Asking.{format_option, both_blocks}
use Rattle.coap_client.proofs.ask.put_rest.Goals as goal

pub returns-in_err-put_format : goal.returns-in_err-put_format
returns-in_err-put_format c =
    let p = err_from_is_err_and c.from_residual.result c.from_residual.ensures.1 in
    rw p.1 (no_room_for_all _ (both_blocks c.args.ask.now.block2 c.args.ask.now.block1) _ c.args.options.now.room
    (sym (append_assoc c.args.options.now.list (format_option c.args.ask.now.format) (both_blocks c.args.ask.now.block2 c.args.ask.now.block1)))
    c.in_err-put_format.ensures.ok)
