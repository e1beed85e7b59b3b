use Rattle.std.proofs.Common.{◌≡◌, List, ℕ, decimal, subst, ◌∙◌}
use Rattle.servient_base.specs.Writing.{Puts}
use Rattle.servient_base.proofs.Pieces.{puts_then}
use Rattle.thing_ops.proofs.words.put_numbered.Goals as goal

pub returns : goal.returns
returns c =
    let number : c.as_bytes.result.now ≡ decimal c.args.number = c.as_bytes.ensures.value ∙ c.format.ensures.text in
    puts_then c.args.name.now (decimal c.args.number) 0 c.put-at.result c.put.result c.args.out.now c.put-at.new.out c.put.new.out c.put-at.ensures
    (subst (λ (text : List ℕ). Puts text c.put-at.result c.put.result c.put-at.new.out c.put.new.out) number c.put.ensures)
