use Rattle.std.proofs.Common.{◌≡◌, ◌∙◌, ◌<◌, List, ◌∷◌, [], true, false, length, sym, ap, subst, arith}
use Rattle.thing_site.specs.Site.{Placed, ExposedThing, Site, events_of, emitters_of}
use Rattle.thing_site.specs.Fits.{Fits}
use Rattle.thing_core.specs.Kept.{Kept}
use Rattle.thing_core.specs.Rounds.{events_left, PollsNext}
use Rattle.thing_core.specs.Performing.{PollsSome}
use Rattle.thing_core.proofs.SlotLaws.{ThingsHave, site_stands, all_events_stand}
use Rattle.thing_core.proofs.PerformLaws.{events_are_emitters}
use Rattle.thing_core.proofs.RoundLaws.{left_stand, left_few, round_keeps, round_made}
use Rattle.thing_core.proofs.exposed.Exposed.poll_next.Goals as goal

pub poll_next-requires-clause-slots : goal.poll_next-requires-clause-slots
poll_next-requires-clause-slots g c =
    left_stand (length (g.R.Handlers.slots c.args.rack.now)) c.as_slice.result.now c.args.round.now
    (all_events_stand (length (g.R.Handlers.slots c.args.rack.now)) c.as_slice.result.now
    (subst (λ (ts : List ExposedThing). ThingsHave (λ p. p.slot < length (g.R.Handlers.slots c.args.rack.now)) ts) (sym c.as_slice.ensures)
    (site_stands (g.R.Handlers.slots c.args.rack.now) c.self.inside.things
    (subst (λ (x : Site). Fits x (g.R.Handlers.slots c.args.rack.now)) (sym (ap (λ (k : Kept). k.site) c.self.view_is)) c.requires.fits))))

pub poll_next-requires-clause-room : goal.poll_next-requires-clause-room
poll_next-requires-clause-room g c =
    let kept : length c.self.inside.machine.state.last ≡ length (emitters_of c.self.inside.things.things) = c.self.invariant in
    let none : c.self.inside.machine.pending ≡ [] = ap (λ (k : Kept). k.pending) c.self.view_is ∙ c.requires.pending in
    omega (
      arith,
      kept,
      left_few c.as_slice.result.now c.args.round.now,
      events_are_emitters c.self.inside.things.things,
      ap (λ (ts : List ExposedThing). length (events_of ts)) c.as_slice.ensures,
      c.emitters-room.ensures.count,
      c.emitters-room.ensures.room none,
    )

pub invariant_of-self : goal.invariant_of-self
invariant_of-self g c =
    round_keeps c.self.inside.machine c.poll_next.new.machine (g.R.Handlers.slots c.args.rack.now) (g.R.Handlers.slots c.poll_next.new.rack)
    (λ p. events_left c.args.round.now c.as_slice.result.now ≡ p ∷ events_left c.poll_next.new.round c.as_slice.result.now)
    c.poll_next.result c.poll_next.ensures.one c.poll_next.ensures.machine
    ∙ c.self.invariant

pub returns : goal.returns
returns g c =
    let new : Kept = record { site = c.self.inside.things; state = c.poll_next.new.machine.state; pending = c.poll_next.new.machine.pending } in
    let before = g.R.Handlers.slots c.args.rack.now in
    let after = g.R.Handlers.slots c.poll_next.new.rack in
    subst (λ (k : Kept). PollsNext c.poll_next.result c.args.round.now c.poll_next.new.round k new before after) c.self.view_is
    (round_made c.self.inside.things c.args.round.now c.poll_next.new.round c.self.inside.machine c.poll_next.new.machine before after c.poll_next.result
    (ap (λ (k : Kept). k.pending) c.self.view_is ∙ c.requires.pending)
    (subst (λ (ts : List ExposedThing). c.poll_next.result ≡ true → (p : Placed) × (events_left c.args.round.now ts ≡ p ∷ events_left c.poll_next.new.round ts)
    × PollsSome (p ∷ []) c.self.inside.machine c.poll_next.new.machine before after) c.as_slice.ensures c.poll_next.ensures.one)
    (subst (λ (ts : List ExposedThing). c.poll_next.result ≡ false → events_left c.args.round.now ts ≡ []) c.as_slice.ensures c.poll_next.ensures.none)
    c.poll_next.ensures.machine c.poll_next.ensures.rack)
