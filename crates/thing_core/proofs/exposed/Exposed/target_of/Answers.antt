use Rattle.std.proofs.Common.{List, ap, ◌∙◌}
use Rattle.thing_site.specs.Places.{target_at}
use Rattle.thing_state.specs.State.{Invocation}
use Rattle.thing_state.specs.Places.{place_of}
use Rattle.thing_core.specs.Kept.{Kept}
use Rattle.thing_core.proofs.exposed.Exposed.target_of.Goals as goal

pub returns : goal.returns
returns c =
    c.target_at.ensures ∙ ap target_at c.place_of-place.ensures
    ∙ ap (λ (is : List Invocation). target_at (place_of c.args.path.now c.self.inside.things is)) c.invocations.ensures.items
    ∙ ap (λ (k : Kept). target_at (place_of c.args.path.now k.site k.state.invocations)) c.self.view_is
