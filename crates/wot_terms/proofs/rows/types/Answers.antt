use Rattle.std.proofs.Common.{[], codes}
use Rattle.wot_json.specs.Meaning.{json_of}
use Rattle.wot_terms.proofs.Findings.{there}
use Rattle.wot_terms.specs.Faults.{type_of_thing}
use Rattle.wot_terms.proofs.rows.types.Goals as goal

pub returns-in-Some : goal.returns-in-Some
returns-in-Some c =
    there (codes "@type") (type_of_thing) [] c.args.root.now (json_of c.in-Some.value.now) c.in_member.result (rw c.in-Some.is at c.get.ensures)
    (c.in_member.ensures ((type_of_thing) (json_of c.in-Some.value.now)) c.type_of_thing.ensures)
