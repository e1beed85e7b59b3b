use Rattle.std.proofs.lemmas.Result.{err_from_is_err_and}
use Rattle.std.proofs.Common.{◌+◌, List, subst}
use Rattle.tm_resolve.specs.ModelLinks.{kept_link}
use Rattle.tm_derive.specs.Submodels.{link_faults, segments_of}
use Rattle.tm_derive.specs.Refusals.{IsRefusal}
use Rattle.tm_derive.specs.declared.place.ThingPlace.{ThingPlace}
use Rattle.tm_derive.proofs.Children.{child_refused}
use Rattle.tm_derive.proofs.submodels.children_of.Goals as goal

pub returns-in_err-child : goal.returns-in_err-child
returns-in_err-child c =
    let p = err_from_is_err_and c.from_residual.result c.from_residual.ensures.1 in
    let above = c.args.parent.now.above.now in
    let place = c.args.parent.now.place.now in
    let models = c.args.parent.now.library.now in
    rw (p.1, p.2)
    (child_refused models above place c.args.links.now c.loop-index.children.items c.loop-index.index c.index-links-index.result c.in_err-child.field-0.0
    c.loop-index-test.true c.index-links-index.is c.loop-index.invariant
    (subst (λ (ps : List ThingPlace). IsRefusal c.in_err-child.field-0.0 (link_faults models above place (segments_of ps) (c.loop-index.index + 1) (kept_link c.index-links-index.result))) c.as_slice.ensures.value c.in_err-child.ensures))
