use Rattle.std.proofs.Common.{◌∙◌, ℕ, List, take, length, min, refl, ap, arith}
use Rattle.std.proofs.lemmas.Result.{on_ok_weaker}
use Rattle.std.proofs.lemmas.List.{length-take-le}
use Rattle.servient_outside.specs.declared.net.What.TheVariants as what
use Rattle.servient_world.specs.World.{server_place}
use Rattle.servient_ends.specs.Ends.{delivers, event_at}
use Rattle.servient_rehearsal.proofs.TurnLaws.{nothing_done}
use Rattle.servient_rehearsal.proofs.EventLaws.{sent_turns}
use Rattle.servient_rehearsal.proofs.PlayLaws.{on_error, comes_here, servient_plays, servient_plays_at_most, hears_go_on}
use Rattle.servient_rehearsal.proofs.playing.hear_sent.Goals as goal

pub hear-requires-clause-what : goal.hear-requires-clause-what
hear-requires-clause-what g c = omega (arith, c.min-size.ensures)

pub hear-requires-clause-bytes : goal.hear-requires-clause-bytes
hear-requires-clause-bytes g c =
    ap (λ (l : List ℕ). length l) (c.as_slice.ensures ∙ c.in_ok-bytes.ensures) ∙ length-take-le c.min-size.result c.as_slice-bytes.result.now (omega (arith, c.min-size.ensures))

pub returns-in_err-bytes-clause-fault : goal.returns-in_err-bytes-clause-fault
returns-in_err-bytes-clause-fault g c =
    on_error c.from_residual.result
    (λ client after. nothing_done c.args.servient.now.exposed.site (delivers c.args.index) c.args.servient.now c.args.servient.now client c.args.notes.now after
    (g.R.Handlers.slots c.args.rack.now) (g.R.Handlers.slots c.args.rack.now) refl refl)

pub returns-clause-ok : goal.returns-clause-ok
returns-clause-ok g c =
    let here = comes_here server_place c.args.index c.args.notes.now.world c.index-datagram.result.now c.requires.there c.index-datagram.ensures in
    servient_plays c.hear.result c.args.servient.now.exposed.site (delivers c.args.index) (event_at c.args.notes.now.world.moment (what.Datagram c.index-datagram.result.now.from c.min-size.result) c.as_slice.result.now)
    c.args.servient.now c.hear.new.servient c.args.notes.now c.hear.new.notes (g.R.Handlers.slots c.args.rack.now) (g.R.Handlers.slots c.hear.new.rack)
    (λ client. sent_turns c.args.servient.now.exposed.site c.args.index c.index-datagram.result.now c.min-size.result c.as_slice.result.now c.args.servient.now c.hear.new.servient client c.args.notes.now
    (g.R.Handlers.slots c.args.rack.now) (g.R.Handlers.slots c.hear.new.rack) here.at here.may here.to
    (c.min-size.ensures ∙ ap (λ (l : List ℕ). min (length l) 2048) c.as_slice-bytes.ensures)
    (c.as_slice.ensures ∙ (c.in_ok-bytes.ensures ∙ ap (λ (l : List ℕ). take c.min-size.result l) c.as_slice-bytes.ensures)))
    c.hear.ensures.ok c.hear.ensures.registered

pub returns-clause-fault : goal.returns-clause-fault
returns-clause-fault g c =
    let here = comes_here server_place c.args.index c.args.notes.now.world c.index-datagram.result.now c.requires.there c.index-datagram.ensures in
    servient_plays_at_most c.hear.result c.args.servient.now.exposed.site (delivers c.args.index) (event_at c.args.notes.now.world.moment (what.Datagram c.index-datagram.result.now.from c.min-size.result) c.as_slice.result.now)
    c.args.servient.now c.hear.new.servient c.args.notes.now (g.R.Handlers.slots c.args.rack.now) (g.R.Handlers.slots c.hear.new.rack)
    (λ client. sent_turns c.args.servient.now.exposed.site c.args.index c.index-datagram.result.now c.min-size.result c.as_slice.result.now c.args.servient.now c.hear.new.servient client c.args.notes.now
    (g.R.Handlers.slots c.args.rack.now) (g.R.Handlers.slots c.hear.new.rack) here.at here.may here.to
    (c.min-size.ensures ∙ ap (λ (l : List ℕ). min (length l) 2048) c.as_slice-bytes.ensures)
    (c.as_slice.ensures ∙ (c.in_ok-bytes.ensures ∙ ap (λ (l : List ℕ). take c.min-size.result l) c.as_slice-bytes.ensures)))
    c.hear.ensures.fault

pub returns-clause-goes_on : goal.returns-clause-goes_on
returns-clause-goes_on g c =
    on_ok_weaker c.hear.result
    (λ hears. hears_go_on c.args.servient.now.exposed.site (event_at c.args.notes.now.world.moment (what.Datagram c.index-datagram.result.now.from c.min-size.result) c.as_slice.result.now) c.args.servient.now c.hear.new.servient c.args.notes.now c.hear.new.notes
    (g.R.Handlers.slots c.args.rack.now) (g.R.Handlers.slots c.hear.new.rack) hears)
    c.hear.ensures.ok
