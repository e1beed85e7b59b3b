use Rattle.std.proofs.Common.{rules}
use Rattle.std.specs.Prelude.{Some, None}
use Rattle.http_fields.proofs.Places.{through_first}
use Rattle.http_fields.proofs.marks.length_through_mark.Goals as goal

pub returns-in-Some-clause-ok : goal.returns-in-Some-clause-ok
returns-in-Some-clause-ok c = through_first c.args.mark.now c.args.bytes.now (Some c.in-Some.place) c.requires (search rules)

pub returns-in-None-clause-ok : goal.returns-in-None-clause-ok
returns-in-None-clause-ok c = through_first c.args.mark.now c.args.bytes.now None c.requires (search rules)
