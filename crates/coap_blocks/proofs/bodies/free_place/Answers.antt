use Rattle.std.proofs.Common.{◌≡◌, ◌∙◌, ap, sym, arith}
use Rattle.std.specs.List.{position}
use Rattle.std.specs.Prelude.{Some, None}
use Rattle.std.proofs.lemmas.List.Quantifiers.{position-Some}
use Rattle.coap_blocks.specs.Bodies.{is_body_of, last}
use Rattle.coap_blocks.proofs.Places.{any_body, own_goes, all_others}
use Rattle.coap_blocks.proofs.bodies.free_place.Goals as goal

pub remove-requires : goal.remove-requires
remove-requires c =
    let at : position (is_body_of c.args.from c.args.path.now) c.args.kept.now.items ≡ Some c.in-Some.place =
    ap (position (is_body_of c.args.from c.args.path.now)) (sym c.as_slice.ensures.value) ∙ sym c.place_of.ensures ∙ c.in-Some.is in
    omega (arith, (position-Some (is_body_of c.args.from c.args.path.now) c.args.kept.now.items c.in-Some.place any_body at).0, c.args.kept.now.ok.0)

pub returns-in-Some-clause-kept : goal.returns-in-Some-clause-kept
returns-in-Some-clause-kept c =
    let at : position (is_body_of c.args.from c.args.path.now) c.args.kept.now.items ≡ Some c.in-Some.place =
    ap (position (is_body_of c.args.from c.args.path.now)) (sym c.as_slice.ensures.value) ∙ sym c.place_of.ensures ∙ c.in-Some.is in
    c.remove.ensures.items ∙ own_goes c.args.from c.args.path.now c.args.kept.now.items c.in-Some.place (sym at) (omega (arith, c.requires, c.args.kept.now.ok.0))

pub returns-in-None-clause-kept : goal.returns-in-None-clause-kept
returns-in-None-clause-kept c =
    let at : position (is_body_of c.args.from c.args.path.now) c.args.kept.now.items ≡ None =
    ap (position (is_body_of c.args.from c.args.path.now)) (sym c.as_slice.ensures.value) ∙ sym c.place_of.ensures ∙ c.in-None.is in
    c.unused_place.ensures.kept ∙ ap (last 15) (all_others c.args.from c.args.path.now c.args.kept.now.items (sym at))
