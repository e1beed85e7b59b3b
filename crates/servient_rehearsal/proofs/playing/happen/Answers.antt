use Rattle.std.proofs.Common.{sym}
use Rattle.std.proofs.lemmas.Result.{on_ok_weaker}
use Rattle.servient_ends.specs.Ends.{event_at}
use Rattle.servient_rehearsal.specs.Moves.{turn_besides}
use Rattle.servient_rehearsal.proofs.EventLaws.{besides_turns, not_given_turn, end_turn, given_may_come}
use Rattle.servient_rehearsal.proofs.PlayLaws.{servient_played, servient_plays, servient_plays_at_most, hears_go_on}
use Rattle.servient_rehearsal.proofs.playing.happen.Goals as goal

pub returns-then-not-is_given-clause-ok : goal.returns-then-not-is_given-clause-ok
returns-then-not-is_given-clause-ok g c =
    servient_played c.args.servient.now.exposed.site (turn_besides c.args.what c.args.bytes.now) c.args.servient.now c.args.notes.now (g.R.Handlers.slots c.args.rack.now)
    (λ client. not_given_turn c.args.servient.now.exposed.site c.args.what c.args.bytes.now c.args.servient.now client c.args.notes.now (g.R.Handlers.slots c.args.rack.now) (sym c.if-not-is_given.ensures))

pub returns-then-is_from_an_end-clause-ok : goal.returns-then-is_from_an_end-clause-ok
returns-then-is_from_an_end-clause-ok g c =
    servient_played c.args.servient.now.exposed.site (turn_besides c.args.what c.args.bytes.now) c.args.servient.now c.args.notes.now (g.R.Handlers.slots c.args.rack.now)
    (λ client. end_turn c.args.servient.now.exposed.site c.args.what c.args.bytes.now c.args.servient.now client c.args.notes.now (g.R.Handlers.slots c.args.rack.now)
    (sym c.if-not-is_given.ensures) (sym c.if-is_from_an_end.ensures))

pub hear-requires-clause-what : goal.hear-requires-clause-what
hear-requires-clause-what g c = (given_may_come c.args.what c.args.bytes.now (sym c.if-not-is_given.ensures)).0

pub hear-requires-clause-bytes : goal.hear-requires-clause-bytes
hear-requires-clause-bytes g c = (given_may_come c.args.what c.args.bytes.now (sym c.if-not-is_given.ensures)).1

pub returns-clause-ok : goal.returns-clause-ok
returns-clause-ok g c =
    servient_plays c.hear.result c.args.servient.now.exposed.site (turn_besides c.args.what c.args.bytes.now) (event_at c.args.notes.now.world.moment c.args.what c.args.bytes.now)
    c.args.servient.now c.hear.new.servient c.args.notes.now c.hear.new.notes (g.R.Handlers.slots c.args.rack.now) (g.R.Handlers.slots c.hear.new.rack)
    (λ client. besides_turns c.args.servient.now.exposed.site c.args.what c.args.bytes.now c.args.servient.now c.hear.new.servient client c.args.notes.now
    (g.R.Handlers.slots c.args.rack.now) (g.R.Handlers.slots c.hear.new.rack) (sym c.if-not-is_given.ensures) (sym c.if-is_from_an_end.ensures))
    c.hear.ensures.ok c.hear.ensures.registered

pub returns-clause-fault : goal.returns-clause-fault
returns-clause-fault g c =
    servient_plays_at_most c.hear.result c.args.servient.now.exposed.site (turn_besides c.args.what c.args.bytes.now) (event_at c.args.notes.now.world.moment c.args.what c.args.bytes.now)
    c.args.servient.now c.hear.new.servient c.args.notes.now (g.R.Handlers.slots c.args.rack.now) (g.R.Handlers.slots c.hear.new.rack)
    (λ client. besides_turns c.args.servient.now.exposed.site c.args.what c.args.bytes.now c.args.servient.now c.hear.new.servient client c.args.notes.now
    (g.R.Handlers.slots c.args.rack.now) (g.R.Handlers.slots c.hear.new.rack) (sym c.if-not-is_given.ensures) (sym c.if-is_from_an_end.ensures))
    c.hear.ensures.fault

pub returns-clause-goes_on : goal.returns-clause-goes_on
returns-clause-goes_on g c =
    on_ok_weaker c.hear.result
    (λ hears. hears_go_on c.args.servient.now.exposed.site (event_at c.args.notes.now.world.moment c.args.what c.args.bytes.now) c.args.servient.now c.hear.new.servient c.args.notes.now c.hear.new.notes
    (g.R.Handlers.slots c.args.rack.now) (g.R.Handlers.slots c.hear.new.rack) hears)
    c.hear.ensures.ok
