use Rattle.std.proofs.Common.{inl, inr, ap, ◌∙◌, sym}
use Rattle.std.specs.Prelude.{Some}
use Rattle.wot_json.specs.Meaning.{json_of}
use Rattle.wot_terms.specs.Faults.{faults_of}
use Rattle.tm_derive.specs.declared.fault.DeriveFault.{DeriveFault}
use Rattle.tm_derive.proofs.Values.{first_invalid}
use Rattle.tm_derive.proofs.judging.judge_terms.Goals as goal

pub returns-in-Err-Td : goal.returns-in-Err-Td
returns-in-Err-Td c =
    let first = first_invalid c.args.segment.now (faults_of (json_of c.args.tree.now)) c.in-Err-Td.fault (rw c.in-Err-Td.field-0-is at c.in-Err-Td.ensures.fault) in
    elim c.invalid_fault.ensures [ inl memory ↦ inl memory | inr same ↦ inr (first ∙ ap (λ (f : DeriveFault). Some f) (sym same)) ]
