use Rattle.std.proofs.Common.{codes}
use Rattle.wot_json.specs.Tree.{members_of}
use Rattle.wot_json.specs.Meaning.{json_of}
use Rattle.wot_terms.proofs.Findings.{there}
use Rattle.wot_terms.specs.Faults.{here, texts, is_defined}
use Rattle.wot_terms.proofs.rows.security.Goals as goal

pub returns-in-Some : goal.returns-in-Some
returns-in-Some c =
    there (codes "security") (texts (is_defined (members_of c.args.root.now))) here c.args.root.now (json_of c.in-Some.value.now) c.in_member.result (rw c.in-Some.is at c.get.ensures)
    (c.in_member.ensures ((texts (is_defined (members_of c.args.root.now))) (json_of c.in-Some.value.now)) c.definition_names.ensures)
