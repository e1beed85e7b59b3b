use Rattle.std.proofs.Common.{rules}
use Rattle.http_fields.proofs.Places.{cut_at, not_cut}
use Rattle.http_fields.proofs.lines.cut.Goals as goal

pub returns-in-Some-clause-before : goal.returns-in-Some-clause-before
returns-in-Some-clause-before c = (cut_at c.args.byte c.args.bytes.now c.in-Some.place (search rules)).0

pub returns-in-Some-clause-after : goal.returns-in-Some-clause-after
returns-in-Some-clause-after c = (cut_at c.args.byte c.args.bytes.now c.in-Some.place (search rules)).1

pub returns-in-None-clause-before : goal.returns-in-None-clause-before
returns-in-None-clause-before c = (not_cut c.args.byte c.args.bytes.now (search rules)).0

pub returns-in-None-clause-after : goal.returns-in-None-clause-after
returns-in-None-clause-after c = (not_cut c.args.byte c.args.bytes.now (search rules)).1
