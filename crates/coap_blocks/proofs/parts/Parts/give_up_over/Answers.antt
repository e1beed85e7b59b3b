-- Each turn gives up one that doesn't live.
use Rattle.std.proofs.Common.{◌∙◌, not, length, List, sym, ap, refl, arith}
use Rattle.std.specs.Prelude.{Some}
use Rattle.std.proofs.lemmas.List.Edits.{length-remove}
use Rattle.std.proofs.lemmas.List.Quantifiers.{position-Some}
use Rattle.coap_blocks.specs.Paths.{lives}
use Rattle.coap_blocks.specs.Parts.{Part, living}
use Rattle.coap_blocks.proofs.Lists.{place_removed, filter_rest, none_fails}
use Rattle.coap_blocks.proofs.Joining.{any_part}
use Rattle.coap_blocks.proofs.parts.Parts.give_up_over.Goals as goal

pub loop-place-init : goal.loop-place-init
loop-place-init c = refl

pub give_up-requires : goal.give_up-requires
give_up-requires c = (position-Some (λ (p : Part). not (lives c.args.now p.moment)) c.loop-place.self c.in-Some.place any_part (sym c.in-Some.ensures)).0

pub loop-place-smaller : goal.loop-place-smaller
loop-place-smaller c =
    let within = (position-Some (λ (p : Part). not (lives c.args.now p.moment)) c.loop-place.self c.in-Some.place any_part (sym c.in-Some.ensures)).0 in
    omega (arith, ap (λ (ps : List Part). length ps) c.give_up.ensures, length-remove c.loop-place.self c.in-Some.place within)

pub loop-place-preserved : goal.loop-place-preserved
loop-place-preserved c =
    ap (living c.args.now) (c.give_up.ensures ∙ place_removed (λ (p : Part). not (lives c.args.now p.moment)) c.loop-place.self (Some c.in-Some.place) (sym c.in-Some.ensures))
    ∙ filter_rest (λ (p : Part). lives c.args.now p.moment) c.loop-place.self
    ∙ c.loop-place.invariant

pub returns : goal.returns
returns c =
    sym (none_fails (λ (p : Part). lives c.args.now p.moment) c.loop-place.self (sym c.place_of_over.ensures ∙ c.in_default.is))
    ∙ c.loop-place.invariant
