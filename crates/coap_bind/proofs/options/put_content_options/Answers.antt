-- Where ETag has no room, both options have none.
use Rattle.std.proofs.Common.{sym, append_assoc}
use Rattle.std.proofs.lemmas.Result.{err_from_is_err_and}
use Rattle.coap_msg.proofs.OptionParts.{no_room_for_all}
use Rattle.coap_bind.specs.Blocks.{content_format}
use Rattle.coap_bind.specs.Writing.{etag_options}
use Rattle.coap_bind.proofs.options.put_content_options.Goals as goal

pub returns-in_err-put_optional-clause-ok : goal.returns-in_err-put_optional-clause-ok
returns-in_err-put_optional-clause-ok c =
    let p = err_from_is_err_and c.from_residual.result c.from_residual.ensures.1 in
    rw p.1 (no_room_for_all _ (content_format c.args.format) _ c.args.options.now.room
    (sym (append_assoc c.args.options.now.list (etag_options c.args.version) (content_format c.args.format)))
    c.in_err-put_optional.ensures.ok)
