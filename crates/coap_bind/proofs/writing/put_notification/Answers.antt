-- The options and the message have room.
use Rattle.std.proofs.Common.{◌≤◌, ◌∙◌, List, [], ◌∷◌, ◌++◌, take, Some, length, ap, subst, sym, arith, length-take}
use Rattle.coap_msg.specs.declared.constants.TheConstants.{CONTENT_FORMAT, JSON}
use Rattle.coap_msg.specs.Numbers.{number_bytes}
use Rattle.coap_msg.specs.declared.message.Type4.TheVariants.{Con}
use Rattle.coap_msg.specs.Grammar.{CoapOption, CoapMessage, options_spelling}
use Rattle.coap_msg.specs.Opts.{WrittenOptions}
use Rattle.coap_bind.specs.Writing.{observe_options}
use Rattle.coap_bind.proofs.LengthLaws.{notification_options_length, message_fits, options_written, is_written}
use Rattle.coap_bind.proofs.writing.put_notification.Goals as goal

pub unwrap-requires : goal.unwrap-requires
unwrap-requires c =
    let F : WrittenOptions → Type 0 = λ w. length (options_spelling 0 (w.list ++ (observe_options (Some c.args.notice.now.sequence) ++ (CONTENT_FORMAT, number_bytes JSON) ∷ []))) ≤ w.room in
    let room : F (record { list = []; room = 1152 }) = let few = notification_options_length c.args.notice.now.sequence in omega arith in
    (options_written c.put_notification_options.result _ _ _ c.put_notification_options.ensures (subst F (sym c.on-options.ensures) room)).0

pub unwrap-requires-2 : goal.unwrap-requires-2
unwrap-requires-2 c =
    let few = notification_options_length c.args.notice.now.sequence in
    let F : WrittenOptions → Type 0 = λ w. length (options_spelling 0 (w.list ++ (observe_options (Some c.args.notice.now.sequence) ++ (CONTENT_FORMAT, number_bytes JSON) ∷ []))) ≤ w.room in
    let room : F (record { list = []; room = 1152 }) = omega arith in
    let wrote = (options_written c.put_notification_options.result _ _ _ c.put_notification_options.ensures (subst F (sym c.on-options.ensures) room)).1 in
    let L : List CoapOption → Type 0 = λ os. length (options_spelling 0 os) ≤ 16 in
    let start = ap (λ (w : WrittenOptions). w.list ++ (observe_options (Some c.args.notice.now.sequence) ++ (CONTENT_FORMAT, number_bytes JSON) ∷ [])) c.on-options.ensures in
    let options : L c.put_notification_options.new.options.list = subst L (sym (wrote ∙ start)) few in
    let token : length (take c.args.notice.now.token_length c.args.notice.now.token) ≤ 8 = let n = c.requires.notice.token in let l = length-take c.args.notice.now.token_length c.args.notice.now.token in omega arith in
    let sent : CoapMessage = record {
      kind = Con;
      code = 69;
      id = c.args.notice.now.id;
      token = take c.args.notice.now.token_length c.args.notice.now.token;
      options = c.put_notification_options.new.options.list;
      payload = c.args.value.now;
    } in
    is_written c.encode.result _ _ c.encode.ensures.no_room c.told-out (message_fits sent token options c.requires.value)
