use Rattle.std.proofs.Common.{◌≡◌, ◌<◌, List, [], ◌++◌, length, refl, sym, ap, subst, ◌∙◌, arith}
use Rattle.thing_site.specs.Site.{ExposedThing, Site, events_of, emitters_of}
use Rattle.thing_site.specs.Fits.{Fits}
use Rattle.thing_core.specs.Kept.{Kept}
use Rattle.thing_core.specs.Performing.{MakesPolls, PollsSome}
use Rattle.thing_core.proofs.SlotLaws.{ThingsHave, site_stands, all_events_stand}
use Rattle.thing_core.proofs.LastLaws.{polls_keep}
use Rattle.thing_core.proofs.PerformLaws.{polls_made, events_are_emitters}
use Rattle.thing_core.proofs.exposed.Exposed.tick.Goals as goal

pub poll_all-requires-clause-slots : goal.poll_all-requires-clause-slots
poll_all-requires-clause-slots g c =
    all_events_stand (length (g.R.Handlers.slots c.args.rack.now)) c.as_slice.result.now
    (subst (λ (ts : List ExposedThing). ThingsHave (λ p. p.slot < length (g.R.Handlers.slots c.args.rack.now)) ts) (sym c.as_slice.ensures)
    (site_stands (g.R.Handlers.slots c.args.rack.now) c.self.inside.things
    (subst (λ (x : Site). Fits x (g.R.Handlers.slots c.args.rack.now)) (sym (ap (λ (k : Kept). k.site) c.self.view_is)) c.requires.fits)))

pub poll_all-requires-clause-room : goal.poll_all-requires-clause-room
poll_all-requires-clause-room g c =
    let kept : length c.self.inside.machine.state.last ≡ length (emitters_of c.self.inside.things.things) = c.self.invariant in
    let none : c.self.inside.machine.pending ≡ [] = ap (λ (k : Kept). k.pending) c.self.view_is ∙ c.requires.pending in
    omega (
      arith,
      kept,
      events_are_emitters c.self.inside.things.things,
      ap (λ (ts : List ExposedThing). length (events_of ts)) c.as_slice.ensures,
      c.emitters-room.ensures.count,
      c.emitters-room.ensures.room none,
    )

pub invariant_of-self : goal.invariant_of-self
invariant_of-self g c =
    let k = c.poll_all.ensures in
    polls_keep (events_of c.as_slice.result.now ++ []) (k.emissions ++ []) c.self.inside.machine.state ((k.leads []).seen ++ []) c.poll_all.new.machine.state
    ((k.leads []).leads [] [] c.poll_all.new.machine.state (refl, record { next = refl; saw = refl }))
    ∙ c.self.invariant

pub returns : goal.returns
returns g c =
    let new : Kept = record { site = c.self.inside.things; state = c.poll_all.new.machine.state; pending = c.poll_all.new.machine.pending } in
    subst (λ (k : Kept). MakesPolls k new (g.R.Handlers.slots c.args.rack.now) (g.R.Handlers.slots c.poll_all.new.rack)) c.self.view_is
    (polls_made c.self.inside.things c.self.inside.machine c.poll_all.new.machine (g.R.Handlers.slots c.args.rack.now) (g.R.Handlers.slots c.poll_all.new.rack)
    (ap (λ (k : Kept). k.pending) c.self.view_is ∙ c.requires.pending)
    (subst (λ (ts : List ExposedThing). PollsSome (events_of ts) c.self.inside.machine c.poll_all.new.machine (g.R.Handlers.slots c.args.rack.now) (g.R.Handlers.slots c.poll_all.new.rack))
    c.as_slice.ensures c.poll_all.ensures))
