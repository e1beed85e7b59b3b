-- The reply fits.
use Rattle.thing_ops.specs.declared.outcome.Outcome.TheVariants.{Changed}
use Rattle.coap_bind.proofs.LengthLaws.{replies_fit}
use Rattle.cases_bindings.proofs.transfers.taken.Goals as goal

pub answer-size-requires-clause-room : goal.answer-size-requires-clause-room
answer-size-requires-clause-room c =
    replies_fit c.in-Ask.ticket Changed _ c.datagram.new.self c.in-Ask.ensures.ticket tt
