use Rattle.std.proofs.Common.{◌∙◌, ℕ, List, ap, subst, sym}
use Rattle.std.specs.List.{AllByRecursion}
use Rattle.wot_json.specs.Tree.{Json}
use Rattle.wot_terms.specs.Faults.{IsValid}
use Rattle.wot_terms.specs.ThingLists.{kept_things}
use Rattle.thing_site.specs.Site.{ExposedThing, Site}
use Rattle.thing_site.specs.Fits.{Fits}
use Rattle.thing_site.proofs.Fitting.{valid_things, faultless_fits}
use Rattle.thing_site.proofs.indexed.IndexedThings.new.Goals as goal

pub place_all-requires : goal.place_all-requires
place_all-requires g c =
    valid_things c.as_slice.result.now
    (subst (λ (ts : List (List ℕ × Json)). AllByRecursion (λ t. IsValid t.1) ts) (sym c.as_slice.ensures) c.requires)

pub returns-clause-fits : goal.returns-clause-fits
returns-clause-fits g c =
    subst (λ (site : Site). Fits site (g.R.Handlers.slots c.args.rack.now)) (sym (c.in_ok-of.ensures ∙ ap (λ (ts : List ExposedThing). record { things = ts; left_out = c.args.left_out }) c.in_ok-held.ensures.0))
    (faultless_fits (g.R.Handlers.slots c.args.rack.now) c.args.left_out c.args.slots.now (kept_things c.as_slice.result.now) c.in_ok-held.ensures.1)
