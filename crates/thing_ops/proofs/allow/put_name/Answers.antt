use Rattle.std.proofs.Common.{◌≡◌, List, ℕ, codes, subst, sym, ◌∙◌, arith}
use Rattle.servient_base.specs.Writing.{Puts}
use Rattle.servient_base.proofs.Pieces.{puts_then}
use Rattle.thing_ops.specs.Verbs.{verb_name}
use Rattle.thing_ops.proofs.VerbNames.{name_after}
use Rattle.thing_ops.proofs.allow.put_name.Goals as goal

pub returns-else-at-eq0-clause-text : goal.returns-else-at-eq0-clause-text
returns-else-at-eq0-clause-text c =
    let name : c.as_bytes-else-at-eq0.result.now ≡ verb_name c.args.verb = c.as_bytes-else-at-eq0.ensures.value ∙ c.name-else-at-eq0.ensures.text in
    subst (λ (text : List ℕ). Puts text c.args.at c.put-else-at-eq0.result c.args.out.now c.put-else-at-eq0.new.out) (sym (name_after c.args.at c.args.verb (omega arith)))
    (puts_then (codes ", ") (verb_name c.args.verb) c.args.at c.put-after.result c.put-else-at-eq0.result c.args.out.now c.put-after.new.out c.put-else-at-eq0.new.out c.put-after.ensures
    (subst (λ (text : List ℕ). Puts text c.put-after.result c.put-else-at-eq0.result c.put-after.new.out c.put-else-at-eq0.new.out) name c.put-else-at-eq0.ensures))
