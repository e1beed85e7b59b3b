-- The options and the message have room.
use Rattle.std.proofs.Common.{◌≤◌, ◌∙◌, List, [], ◌++◌, length, ap, subst, sym, arith}
use Rattle.coap_msg.specs.Grammar.{CoapOption, CoapMessage, options_spelling}
use Rattle.coap_msg.specs.Opts.{WrittenOptions}
use Rattle.coap_bind.specs.Blocks.{block_options, content_format}
use Rattle.coap_bind.specs.Writing.{etag_options}
use Rattle.coap_bind.proofs.LengthLaws.{both_written, is_written, message_fits, options_written, told_length, told_options}
use Rattle.coap_bind.proofs.writing.put_told.Goals as goal

pub unwrap-requires : goal.unwrap-requires
unwrap-requires c =
    let few = told_options c.args.told.version c.args.told.format in
    let F : WrittenOptions → Type 0 = λ w. length (options_spelling 0 (w.list ++ (etag_options c.args.told.version ++ content_format c.args.told.format))) ≤ w.room in
    let room : F (record { list = []; room = 1152 }) = omega arith in
    (options_written c.put_content_options.result _ _ _ c.put_content_options.ensures.ok (subst F (sym c.on-options.ensures) room)).0

pub unwrap-requires-2 : goal.unwrap-requires-2
unwrap-requires-2 c =
    let few = told_length c.args.told.version c.args.told.format c.args.told.portion.block in
    let F : WrittenOptions → Type 0 = λ w. length (options_spelling 0 ((w.list ++ (etag_options c.args.told.version ++ content_format c.args.told.format)) ++ block_options c.args.told.portion.block)) ≤ w.room in
    let room : F (record { list = []; room = 1152 }) = omega arith in
    (both_written c.put_content_options.result c.put_block.result _ _ _ _ _ c.put_content_options.ensures.ok c.put_block.ensures (subst F (sym c.on-options.ensures) room)).1

pub unwrap-requires-3 : goal.unwrap-requires-3
unwrap-requires-3 c =
    let few = told_length c.args.told.version c.args.told.format c.args.told.portion.block in
    let F : WrittenOptions → Type 0 = λ w. length (options_spelling 0 ((w.list ++ (etag_options c.args.told.version ++ content_format c.args.told.format)) ++ block_options c.args.told.portion.block)) ≤ w.room in
    let room : F (record { list = []; room = 1152 }) = omega arith in
    let wrote = (both_written c.put_content_options.result c.put_block.result _ _ _ _ _ c.put_content_options.ensures.ok c.put_block.ensures (subst F (sym c.on-options.ensures) room)).2 in
    let L : List CoapOption → Type 0 = λ os. length (options_spelling 0 os) ≤ 16 in
    let start = ap (λ (w : WrittenOptions). (w.list ++ (etag_options c.args.told.version ++ content_format c.args.told.format)) ++ block_options c.args.told.portion.block) c.on-options.ensures in
    let options : L c.put_block.new.options.list = subst L (sym (wrote ∙ start)) few in
    let sent : CoapMessage = record {
      kind = c.kind_and_id-kind.result.0;
      code = c.args.told.code;
      id = c.kind_and_id-kind.result.1;
      token = c.as_bytes.result.now;
      options = c.put_block.new.options.list;
      payload = c.args.told.portion.payload.now;
    } in
    is_written c.encode.result _ _ c.encode.ensures.no_room c.told-out (message_fits sent c.as_bytes.ensures.bound options c.requires.payload)
