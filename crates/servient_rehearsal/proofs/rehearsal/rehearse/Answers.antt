use Rattle.servient_rehearsal.proofs.MoveLaws.{rehearsed, rehearsed_some}
use Rattle.servient_rehearsal.proofs.PlayLaws.{on_error}
use Rattle.servient_rehearsal.proofs.rehearsal.rehearse.Goals as goal

pub returns-in_err-play_all-clause-fault : goal.returns-in_err-play_all-clause-fault
returns-in_err-play_all-clause-fault g c =
    on_error c.from_residual.result
    (rehearsed_some c.args.servient.now c.play_all.new.servient c.requires.servient.0 c.requires.servient.1 c.args.client.now c.play_all.new.client c.args.moves.now.items c.new-notes.result c.play_all.new.notes
    (g.R.Handlers.slots c.args.rack.now) (g.R.Handlers.slots c.play_all.new.rack) c.requires.servient.2 c.requires.client c.new-notes.ensures.noted c.new-notes.ensures.registered c.in_err-play_all.ensures.fault)

pub returns-clause-ok : goal.returns-clause-ok
returns-clause-ok g c =
    rehearsed c.args.servient.now c.play_all.new.servient c.requires.servient.0 c.requires.servient.1 c.args.client.now c.play_all.new.client c.args.moves.now.items c.new-notes.result c.play_all.new.notes
    (g.R.Handlers.slots c.args.rack.now) (g.R.Handlers.slots c.play_all.new.rack) c.requires.servient.2 c.requires.client c.new-notes.ensures.noted c.new-notes.ensures.registered c.in_ok-play_all.ensures.ok
