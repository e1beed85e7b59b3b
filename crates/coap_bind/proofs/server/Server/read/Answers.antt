-- The wish that is met is that of the request that was read.
use Rattle.std.proofs.Common.{◌≤◌, length, slice_get, sym, subst, refl}
use Rattle.std.specs.Prelude.{IfSome}
use Rattle.coap_msg.specs.MessageOf.{message_of}
use Rattle.coap_blocks.specs.Parts.{living, longest_request}
use Rattle.coap_opts.specs.AskSeen.{ask_seen}
use Rattle.coap_bind.specs.declared.blocks.BlockWish.TheVariants.{Act}
use Rattle.coap_bind.specs.declared.pending.PendingReply.{PendingReply}
use Rattle.coap_bind.specs.declared.server.Server.{Server}
use Rattle.coap_bind.proofs.ReadingLaws.{no_ticket, reads_fault}
use Rattle.coap_bind.proofs.TreatLaws.{added_of, added_whole, block_of, has_whole, is_read, joining_is_block, treat_answered, treat_later, treat_whole, wanted_is, whole_found, whole_pending}
use Rattle.coap_bind.proofs.WholeLaws.{short_in_room}
use Rattle.coap_bind.proofs.server.Server.read.Goals as goal

pub returns-in-Act-clause-ok : goal.returns-in-Act-clause-ok
returns-in-Act-clause-ok c =
    let what = ask_seen c.in-Ok.ask in
    let m = message_of c.args.received.message.now in
    let p : PendingReply = record c.args.pending { observing = c.observing_of-observing.result } in
    let r = is_read c.args.pending c.observing_of-observing.result what m c.requires.head c.in-Ok.ensures.ok.1 c.in-Ok.ensures.ok.0 c.observing_of-observing.ensures in
    c.ask.ensures.ok m r (wanted_is p m.code what m Act r (sym c.in-Act.ensures))

pub returns-in-LaterBlock-clause-ok : goal.returns-in-LaterBlock-clause-ok
returns-in-LaterBlock-clause-ok c =
    let what = ask_seen c.in-Ok.ask in
    let m = message_of c.args.received.message.now in
    let p : PendingReply = record c.args.pending { observing = c.observing_of-observing.result } in
    let r = is_read c.args.pending c.observing_of-observing.result what m c.requires.head c.in-Ok.ensures.ok.1 c.in-Ok.ensures.ok.0 c.observing_of-observing.ensures in
    treat_later p c.args.received.moment m.code what m c.in-LaterBlock.block c.give_later.result _ _ _ _ r (sym c.in-LaterBlock.ensures) c.give_later.ensures

pub answer_block-requires-clause-whole : goal.answer_block-requires-clause-whole
answer_block-requires-clause-whole c =
    let p : PendingReply = record c.args.pending { observing = c.observing_of-observing.result } in
    has_whole (block_of p c.args.received.moment c.args.received.message.now.code c.in-Joining.block (ask_seen c.in-Ok.ask)) (living c.args.received.moment c.args.self.now.parts) c.add-added.new.self c.add-added.result
    c.add-added.ensures.joined c.add-added.ensures.place

pub returns-in-Err-clause-ok : goal.returns-in-Err-clause-ok
returns-in-Err-clause-ok c =
    reads_fault c.args.pending c.args.received.moment (message_of c.args.received.message.now) c.in-Err.fault c.refuse_fault.result _ _ _ _ c.requires.head c.in-Err.ensures.fault c.refuse_fault.ensures

pub returns-in-Err-clause-open : goal.returns-in-Err-clause-open
returns-in-Err-clause-open c = no_ticket c.args.pending c.in-Err.fault c.refuse_fault.result _ _ _ _ c.refuse_fault.ensures

pub take_whole-body-requires-clause-room : goal.take_whole-body-requires-clause-room
take_whole-body-requires-clause-room c =
    let p : PendingReply = record c.args.pending { observing = c.observing_of-observing.result } in
    let is = whole_found p (ask_seen c.in-Ok.ask).request.path c.in-Joining.block c.add-added.result c.in-Ok-answer_block.place c.answer_block.result _ _ _ _ c.answer_block.ensures c.in-Ok-answer_block.is in
    let short = (has_whole (block_of p c.args.received.moment c.args.received.message.now.code c.in-Joining.block (ask_seen c.in-Ok.ask)) (living c.args.received.moment c.args.self.now.parts) c.add-added.new.self c.add-added.result
    c.add-added.ensures.joined c.add-added.ensures.place c.in-Ok-answer_block.place is.added_is).1 in
    short_in_room _ longest_request (length c.args.room.now) c.requires.room
    (subst (λ (x : Server). IfSome (slice_get x.parts c.in-Ok-answer_block.place) (λ q. length q.bytes ≤ longest_request)) (sym is.same) short)

pub invariant_of-result : goal.invariant_of-result
invariant_of-result c = joining_is_block c.args.received.message.now.code c.observing_of-observing.result (ask_seen c.in-Ok.ask) c.in-Joining.block c.in-Ok.ensures.blocks (sym c.in-Joining.ensures)

pub returns-in-Ok-answer_block-clause-ok : goal.returns-in-Ok-answer_block-clause-ok
returns-in-Ok-answer_block-clause-ok c =
    let what = ask_seen c.in-Ok.ask in
    let m = message_of c.args.received.message.now in
    let b = c.in-Joining.block in
    let p : PendingReply = record c.args.pending { observing = c.observing_of-observing.result } in
    let r = is_read c.args.pending c.observing_of-observing.result what m c.requires.head c.in-Ok.ensures.ok.1 c.in-Ok.ensures.ok.0 c.observing_of-observing.ensures in
    let added = added_of p c.args.received.moment m.code what m b c.args.self.now c.add-added.result c.add-added.new.self r (sym c.in-Joining.ensures) c.add-added.ensures.joined in
    let is = whole_found p what.request.path b c.add-added.result c.in-Ok-answer_block.place c.answer_block.result _ _ _ _ c.answer_block.ensures c.in-Ok-answer_block.is in
    let whole = added_whole p c.args.received.moment what m b c.add-added.result c.in-Ok-answer_block.place _ _ _ _ c.answer_block.new.self added is in (
      _,
      treat_whole p c.args.received.moment what (ask_seen c.with_body.result) (whole_pending p b) m b c.in-Ok-answer_block.place c.take_whole-body.result.now c.args.self.now c.answer_block.new.self c.take_whole-body.new.self
          is.apart refl c.take_whole-body.ensures.bytes c.with_body.ensures c.take_whole-body.ensures.after whole,
      (refl, is.same_bytes),
    )

pub returns-clause-ok : goal.returns-clause-ok
returns-clause-ok c =
    let what = ask_seen c.in-Ok.ask in
    let m = message_of c.args.received.message.now in
    let b = c.in-Joining.block in
    let p : PendingReply = record c.args.pending { observing = c.observing_of-observing.result } in
    let r = is_read c.args.pending c.observing_of-observing.result what m c.requires.head c.in-Ok.ensures.ok.1 c.in-Ok.ensures.ok.0 c.observing_of-observing.ensures in
    let added = added_of p c.args.received.moment m.code what m b c.args.self.now c.add-added.result c.add-added.new.self r (sym c.in-Joining.ensures) c.add-added.ensures.joined in
    treat_answered p c.args.received.moment what m b c.add-added.result c.in-Err-answer_block.size c.answer_block.result _ _ c.args.self.now _ _ c.answer_block.ensures c.in-Err-answer_block.is added
