-- Where Block2 has no room, both blocks have none.
use Rattle.std.proofs.Common.{sym, append_assoc}
use Rattle.std.proofs.lemmas.Result.{err_from_is_err_and}
use Rattle.coap_msg.specs.declared.constants.TheConstants.{BLOCK1, BLOCK2}
use Rattle.coap_msg.proofs.OptionParts.{no_room_for_all}
use Rattle.coap_client.specs.Asking.{block_option}
use Rattle.coap_client.proofs.ask.put_blocks.Goals as goal

pub returns-in_err-put_block : goal.returns-in_err-put_block
returns-in_err-put_block c =
    let p = err_from_is_err_and c.from_residual.result c.from_residual.ensures.1 in
    rw p.1 (no_room_for_all _ (block_option BLOCK1 c.args.ask.now.block1) _ c.args.options.now.room
    (sym (append_assoc c.args.options.now.list (block_option BLOCK2 c.args.ask.now.block2) (block_option BLOCK1 c.args.ask.now.block1)))
    c.in_err-put_block.ensures.ok)
