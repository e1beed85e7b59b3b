use Rattle.std.proofs.Common.{take, refl}
use Rattle.servient_world.specs.World.{client_place, server_place}
use Rattle.servient_ends.specs.Ends.{does_due}
use Rattle.servient_rehearsal.specs.declared.world.End.TheVariants as end
use Rattle.servient_rehearsal.specs.Noted.{noted_of, with_datagram, with_end}
use Rattle.servient_rehearsal.proofs.ClientLaws.{retransmitted_turn, given_up_turn, waited_turn}
use Rattle.servient_rehearsal.proofs.PlayLaws.{on_ok, client_played, client_plays, client_plays_at_most}
use Rattle.servient_rehearsal.proofs.asking.do_due.Goals as goal

pub returns-in-Send-clause-ok : goal.returns-in-Send-clause-ok
returns-in-Send-clause-ok c =
    client_plays c.sent.result does_due c.args.client.now c.due.new.self c.args.notes.now c.sent.new.self
    (with_datagram client_place server_place (take c.in-Send.size c.due.new.out) (noted_of c.args.notes.now.world)) c.args.notes.now.registered
    (λ site s slots. retransmitted_turn site s slots c.args.client.now c.due.new.self c.args.notes.now c.in-Send.size _ c.due.new.out c.in-Send.ensures.ok)
    c.sent.ensures.noted (on_ok c.sent.result c.sent.ensures.registered)

pub returns-in-Send-clause-fault : goal.returns-in-Send-clause-fault
returns-in-Send-clause-fault c =
    client_plays_at_most c.sent.result does_due c.args.client.now c.due.new.self c.args.notes.now
    (with_datagram client_place server_place (take c.in-Send.size c.due.new.out) (noted_of c.args.notes.now.world)) c.args.notes.now.registered
    (λ site s slots. retransmitted_turn site s slots c.args.client.now c.due.new.self c.args.notes.now c.in-Send.size _ c.due.new.out c.in-Send.ensures.ok)

pub returns-in-TimedOut-clause-ok : goal.returns-in-TimedOut-clause-ok
returns-in-TimedOut-clause-ok c =
    client_plays c.ended.result does_due c.args.client.now c.due.new.self c.args.notes.now c.ended.new.self
    (with_end end.TimedOut (noted_of c.args.notes.now.world)) c.args.notes.now.registered
    (λ site s slots. given_up_turn site s slots c.args.client.now c.due.new.self c.args.notes.now _ c.due.new.out c.in-TimedOut.ensures.ok)
    c.ended.ensures.noted (on_ok c.ended.result c.ended.ensures.registered)

pub returns-in-TimedOut-clause-fault : goal.returns-in-TimedOut-clause-fault
returns-in-TimedOut-clause-fault c =
    client_plays_at_most c.ended.result does_due c.args.client.now c.due.new.self c.args.notes.now
    (with_end end.TimedOut (noted_of c.args.notes.now.world)) c.args.notes.now.registered
    (λ site s slots. given_up_turn site s slots c.args.client.now c.due.new.self c.args.notes.now _ c.due.new.out c.in-TimedOut.ensures.ok)

pub returns-in-Nothing-clause-ok : goal.returns-in-Nothing-clause-ok
returns-in-Nothing-clause-ok c =
    client_played does_due c.args.client.now c.due.new.self c.args.notes.now c.args.notes.now (noted_of c.args.notes.now.world) c.args.notes.now.registered
    (λ site s slots. waited_turn site s slots c.args.client.now c.due.new.self c.args.notes.now _ c.due.new.out c.in-Nothing.ensures.ok) refl refl
