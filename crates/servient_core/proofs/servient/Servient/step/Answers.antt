use Rattle.std.proofs.Common.{◌∙◌, sym, subst, ap, arith}
use Rattle.servient_base.specs.Moves.{Refines}
use Rattle.thing_site.specs.Fits.{Fits}
use Rattle.thing_core.specs.Kept.{Kept}
use Rattle.thing_site.specs.Site.{Site}
use Rattle.servient_outside.specs.declared.net.EventWithBytes.{EventWithBytes}
use Rattle.servient_trace.specs.Trace.{Shows, outside}
use Rattle.servient_core.specs.Machine.{Follows, Step}
use Rattle.servient_core.specs.Serving.{StandsFor}
use Rattle.servient_core.specs.declared.layers.Layers.{Layers}
use Rattle.servient_core.proofs.PartLaws.{steps, fits_after}
use Rattle.servient_core.proofs.servient.Servient.step.Goals as goal

pub returns-clause-step : goal.returns-clause-step
returns-clause-step g c =
    let k = c.self.inside.layers in
    let e : EventWithBytes = record { event = c.args.event.now; bytes = c.args.bytes.now } in
    let slots = g.R.Handlers.slots c.follow.new.rack in
    let w = outside (g.N.Net.seen c.args.net.now) (g.R.Handlers.slots c.args.rack.now) in
    let v = outside (g.N.Net.seen c.follow.new.net) slots in
    let u = outside (g.N.Net.seen c.end_event.new.net) slots in
    subst (λ (x : Layers). Refines StandsFor Shows (Step x.exposed.site e) x c.end_event.new.self w u) c.self.view_is
    (steps k.exposed.site e k c.follow.new.self c.end_event.new.self c.max-self-inside.result w v u c.max-self-inside.ensures c.follow.ensures.refines (c.end_event.ensures.ends slots))

pub returns-clause-fits : goal.returns-clause-fits
returns-clause-fits g c =
    let k = c.self.inside.layers in
    let w = outside (g.N.Net.seen c.args.net.now) (g.R.Handlers.slots c.args.rack.now) in
    let v = outside (g.N.Net.seen c.follow.new.net) (g.R.Handlers.slots c.follow.new.rack) in
    subst (λ (x : Site). Fits x v.slots) (sym (ap (λ (x : Kept). x.site) c.end_event.ensures.exposed ∙ c.follow.ensures.site))
    (fits_after (Follows k.exposed.site c.args.event.now.what c.args.bytes.now) (record k { moment = c.max-self-inside.result }) c.follow.new.self k.exposed.site w v
    c.follow.ensures.refines (subst (λ (x : Layers). Fits x.exposed.site w.slots) (sym c.self.view_is) c.requires.fits))

pub follow-requires-clause-ready : goal.follow-requires-clause-ready
follow-requires-clause-ready g c = record {
  pending = c.self.invariant.pending;
  moment = omega (arith, c.self.invariant.moment, c.max-self-inside.ensures);
  clock = omega (arith, c.self.invariant.clock, c.max-self-inside.ensures, c.requires.event.moment);
  room = c.self.invariant.room;
}
