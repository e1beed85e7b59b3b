use Rattle.tm_derive.proofs.Children.{ChildrenGoOn}
use Rattle.tm_derive.proofs.submodels.children_of.Given as goal

abbrev pub invariant-loop-index : goal.invariant-loop-index
invariant-loop-index l = ChildrenGoOn l.parent.library.now l.parent.above.now l.parent.place.now l.links l.children.items l.index
