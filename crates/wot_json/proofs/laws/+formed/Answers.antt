use Rattle.std.proofs.Common.{subst, sym}
use Rattle.wot_json.specs.Meaning.{json_of}
use Rattle.wot_json.specs.WellFormed.{IsWellFormed}
use Rattle.wot_json.specs.declared.tree.Tree.{Tree}
use Rattle.wot_json.proofs.WellFormed.{IsWellFormed-object}
use Rattle.wot_json.proofs.laws.+formed.Goals as goal

pub tree_is_well_formed-returns-in-Obj : goal.tree_is_well_formed-returns-in-Obj
tree_is_well_formed-returns-in-Obj t c = subst (λ (v : Tree). IsWellFormed (json_of v)) (sym c.in-Obj.is) (IsWellFormed-object _ c.members_are_well_formed.ensures.ordered c.members_are_well_formed.ensures.members)
