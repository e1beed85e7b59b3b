use Rattle.std.proofs.Common.{List, rules, sym, subst, ◌∙◌}
use Rattle.std.specs.Prelude.{IfErr}
use Rattle.wot_json.specs.Meaning.{json_of}
use Rattle.tm_parts.specs.Substitution.{IsSubstitutionRefusal}
use Rattle.tm_parts.specs.declared.substitution.PartFault.{PartFault}
use Rattle.tm_parts.proofs.Alike.{values_alike, faults_alike}
use Rattle.tm_parts.proofs.substitution.substitute.Goals as goal

pub returns-in_err-judge-clause-fault : goal.returns-in_err-judge-clause-fault
returns-in_err-judge-clause-fault c =
    let same = faults_alike (json_of c.args.tree.now) c.in_ok-values.values c.args.bindings.now c.in_ok-values.ensures in
    subst (λ (faults : List PartFault). IfErr c.from_residual-in_err-judge.result (λ e. IsSubstitutionRefusal e faults)) same (search rules)

pub returns-clause-ok : goal.returns-clause-ok
returns-clause-ok c = (
  c.in_ok-built.ensures ∙ values_alike (json_of c.args.tree.now) c.in_ok-values.values c.args.bindings.now c.in_ok-values.ensures,
  sym (faults_alike (json_of c.args.tree.now) c.in_ok-values.values c.args.bindings.now c.in_ok-values.ensures) ∙ c.in_ok-judge.ensures.ok,
)
