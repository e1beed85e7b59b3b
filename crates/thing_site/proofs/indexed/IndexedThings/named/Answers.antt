use Rattle.std.proofs.Common.{ap}
use Rattle.thing_site.specs.Site.{Site}
use Rattle.thing_site.proofs.IndexLaws.{thing_found, thing_missing}
use Rattle.thing_site.proofs.indexed.IndexedThings.named.Goals as goal

pub returns-in-Ok : goal.returns-in-Ok
returns-in-Ok c =
    thing_found c.self.inside.things.items c.as_slice.result.now c.args.self.now.things c.self.inside.index.items c.as_slice-2.result.now c.args.segment.now c.in-Ok.place c.index.result.now c.index-in-Ok.result.now
    c.self.invariant (ap (λ (x : Site). x.things) c.self.view_is) c.as_slice.ensures.value c.as_slice-2.ensures.value c.in-Ok.ensures.bound c.in-Ok.ensures.place c.index.ensures c.index-in-Ok.ensures

pub returns-in-Err : goal.returns-in-Err
returns-in-Err c =
    thing_missing c.self.inside.things.items c.as_slice.result.now c.args.self.now.things c.self.inside.index.items c.as_slice-2.result.now c.args.segment.now c.in-Err.field-0
    c.self.invariant (ap (λ (x : Site). x.things) c.self.view_is) c.as_slice.ensures.value c.as_slice-2.ensures.value c.in-Err.ensures.place
