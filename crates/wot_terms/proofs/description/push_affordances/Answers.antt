use Rattle.wot_terms.proofs.AffordanceLists.{none_held}
use Rattle.wot_terms.proofs.description.push_affordances.Goals as goal

pub returns-in-None : goal.returns-in-None
returns-in-None c =
    none_held c.args.kind c.holder.result.now c.args.root.now c.args.list.now.items c.holder.ensures (rw c.in-None.is at c.get.ensures)
