use Rattle.std.proofs.Common.{refl}
use Rattle.std.proofs.lemmas.Result.{on_ok_weaker}
use Rattle.servient_ends.specs.Ends.{delivers}
use Rattle.servient_rehearsal.specs.Noted.{noted_of}
use Rattle.servient_rehearsal.specs.Playing.{kept}
use Rattle.servient_rehearsal.proofs.TurnLaws.{turns_play}
use Rattle.servient_rehearsal.proofs.ClientLaws.{nobody_turn}
use Rattle.servient_rehearsal.proofs.PlayLaws.{on_error_weaker}
use Rattle.servient_rehearsal.proofs.playing.deliver.Goals as goal

pub returns-in-Nobody-clause-ok : goal.returns-in-Nobody-clause-ok
returns-in-Nobody-clause-ok g c =
    turns_play c.args.servient.now.exposed.site (delivers c.args.index) (kept c.args.servient.now c.args.client.now c.args.notes.now) c.args.servient.now c.args.client.now c.args.notes.now
    (g.R.Handlers.slots c.args.rack.now) (g.R.Handlers.slots c.args.rack.now) (noted_of c.args.notes.now.world) c.args.notes.now.registered
    (nobody_turn c.args.servient.now.exposed.site c.args.servient.now (g.R.Handlers.slots c.args.rack.now) c.args.index c.args.client.now c.args.notes.now c.in-Nobody.ensures) refl refl

pub returns-in-Client-clause-ok : goal.returns-in-Client-clause-ok
returns-in-Client-clause-ok g c =
    on_ok_weaker c.take_sent.result (λ plays. plays c.args.servient.now.exposed.site c.args.servient.now (g.R.Handlers.slots c.args.rack.now)) c.take_sent.ensures.ok

pub returns-in-Client-clause-fault : goal.returns-in-Client-clause-fault
returns-in-Client-clause-fault g c =
    on_error_weaker c.take_sent.result (λ plays. plays c.args.servient.now.exposed.site c.args.servient.now c.take_sent.new.notes (g.R.Handlers.slots c.args.rack.now)) c.take_sent.ensures.fault

pub returns-in-Servient-clause-ok : goal.returns-in-Servient-clause-ok
returns-in-Servient-clause-ok g c = on_ok_weaker c.hear_sent.result (λ plays. plays c.args.client.now) c.hear_sent.ensures.ok

pub returns-in-Servient-clause-fault : goal.returns-in-Servient-clause-fault
returns-in-Servient-clause-fault g c = on_error_weaker c.hear_sent.result (λ plays. plays c.args.client.now c.hear_sent.new.notes) c.hear_sent.ensures.fault
