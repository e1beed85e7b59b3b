use Rattle.wot_terms.proofs.RowOrder.{each_row}
use Rattle.wot_terms.proofs.laws.faults_come_in_preorder.Goals as goal

pub returns : goal.returns
returns c = each_row
