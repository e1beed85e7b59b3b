-- The reply to an outcome with a short place fits.
use Rattle.coap_bind.proofs.LengthLaws.{replies_fit}
use Rattle.cases_bindings.proofs.datagrams.put_done.Goals as goal

pub answer-size-requires-clause-room : goal.answer-size-requires-clause-room
answer-size-requires-clause-room c =
    replies_fit c.in-Ask.ticket c.args.outcome.now _ c.datagram.new.self c.in-Ask.ensures.ticket c.requires.place
