use Rattle.std.proofs.Common.{◌∙◌, List, length, remove, ap, arith}
use Rattle.coap_blocks.specs.Parts.{Part}
use Rattle.coap_blocks.proofs.parts.Parts.give_up.Goals as goal

pub remove-part-requires : goal.remove-part-requires
remove-part-requires c = omega (arith, c.requires, ap (λ (ps : List Part). length ps) c.self.view_is, c.self.inside.kept.ok.0)

pub push_reserved-requires : goal.push_reserved-requires
push_reserved-requires c = omega (arith, c.self.invariant.places, c.self.invariant.spare_room, c.remove-part.ensures.len)

pub returns : goal.returns
returns c = c.remove-part.ensures.items ∙ ap (λ (ps : List Part). remove ps c.args.place) c.self.view_is
