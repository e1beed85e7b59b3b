use Rattle.std.proofs.Common.{rules}
use Rattle.directory_requests.proofs.Places.{place_of_first, place_of_none}
use Rattle.directory_requests.proofs.window.place_of.Goals as goal

pub returns-in-Some-clause-ok : goal.returns-in-Some-clause-ok
returns-in-Some-clause-ok c = place_of_first c.args.byte c.args.bytes.now c.in-Some.place (search rules)

pub returns-in-None-clause-ok : goal.returns-in-None-clause-ok
returns-in-None-clause-ok c = place_of_none c.args.byte c.args.bytes.now (search rules)
