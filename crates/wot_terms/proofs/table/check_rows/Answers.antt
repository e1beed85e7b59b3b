use Rattle.std.proofs.Common.{arith}
use Rattle.wot_json.specs.Tree.{members_of}
use Rattle.wot_terms.proofs.TableRows.{all_met, first_of_all, met_more}
use Rattle.wot_terms.proofs.table.check_rows.Goals as goal

pub returns-in-Err-clause-fault : goal.returns-in-Err-clause-fault
returns-in-Err-clause-fault c =
    rw c.in_row.ensures (first_of_all (members_of c.args.root.now) c.loop-number.number c.in-Err.fault (omega arith) c.loop-number.invariant (rw c.in-Err.is at c.row.ensures))

pub loop-number-preserved : goal.loop-number-preserved
loop-number-preserved c = met_more (members_of c.args.root.now) c.loop-number.number c.loop-number.invariant (rw c.in-Ok.is at c.row.ensures)

pub returns-clause-ok : goal.returns-clause-ok
returns-clause-ok c = all_met (members_of c.args.root.now) c.loop-number.number (omega arith) c.loop-number.invariant
