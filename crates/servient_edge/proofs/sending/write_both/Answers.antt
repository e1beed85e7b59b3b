use Rattle.std.proofs.Common.{◌++◌, Ok}
use Rattle.servient_edge.proofs.SendingLaws.{takes_written, takes_none}
use Rattle.servient_edge.proofs.sending.write_both.Goals as goal

-- there was no room, and nothing was taken
pub returns-then-eq-clause-bytes : goal.returns-then-eq-clause-bytes
returns-then-eq-clause-bytes g c = takes_none c.args.c _ _ (c.args.head.now ++ c.args.body.now) c.in-Err.refusal c.in-Err.ensures.asked

-- what was taken is what the system says
pub returns-in-Ok-clause-bytes : goal.returns-in-Ok-clause-bytes
returns-in-Ok-clause-bytes g c = takes_written c.args.c _ _ (c.args.head.now ++ c.args.body.now) (Ok c.in-Ok.count) c.in-Ok.ensures.asked

-- it was refused
pub returns-else-eq-clause-bytes : goal.returns-else-eq-clause-bytes
returns-else-eq-clause-bytes g c = takes_none c.args.c _ _ (c.args.head.now ++ c.args.body.now) c.in-Err.refusal c.in-Err.ensures.asked
