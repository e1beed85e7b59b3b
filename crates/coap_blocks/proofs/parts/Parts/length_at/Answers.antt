use Rattle.std.proofs.Common.{List, length, ap, arith}
use Rattle.coap_blocks.specs.Parts.{Part}
use Rattle.coap_blocks.proofs.parts.Parts.length_at.Goals as goal

pub returns-clause-place : goal.returns-clause-place
returns-clause-place c = omega (arith, c.requires, ap (λ (ps : List Part). length ps) c.self.view_is, c.self.inside.kept.ok.0, c.self.invariant.places)
