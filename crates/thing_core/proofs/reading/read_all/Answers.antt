use Rattle.std.proofs.Common.{◌≡◌, ◌∙◌, List, [], length, refl, sym, subst}
use Rattle.thing_site.specs.Site.{Placed}
use Rattle.thing_core.specs.Thing.{readable, ReadsEach}
use Rattle.thing_core.specs.Performing.{AllStand}
use Rattle.thing_core.proofs.MoveLaws.{memory_out}
use Rattle.thing_core.proofs.PlacedLists.{readable_of, readable_stand}
use Rattle.thing_core.proofs.reading.read_all.Goals as goal

pub returns-in-Err : goal.returns-in-Err
returns-in-Err g c = memory_out (ReadsEach (readable c.args.thing.now) []) c.args.machine.now c.args.machine.now (g.R.Handlers.slots c.args.rack.now) refl refl

pub read_fields-requires-clause-slots : goal.read_fields-requires-clause-slots
read_fields-requires-clause-slots g c =
    let e : c.as_slice-in-Some.result.now ≡ readable_of c.args.thing.now.affordances =
    c.as_slice-in-Some.ensures.value ∙ c.in-Ok.ensures in
    subst (λ (ps : List Placed). AllStand (length (g.R.Handlers.slots c.args.rack.now)) ps) (sym e)
    (readable_stand (length (g.R.Handlers.slots c.args.rack.now)) c.args.thing.now.affordances c.requires)

pub returns : goal.returns
returns g c = memory_out (ReadsEach (readable c.args.thing.now) []) c.args.machine.now c.args.machine.now (g.R.Handlers.slots c.args.rack.now) refl refl
