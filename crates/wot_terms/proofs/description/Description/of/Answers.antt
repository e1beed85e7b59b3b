use Rattle.wot_json.specs.Tree.{members_of}
use Rattle.wot_terms.specs.declared.kind.Kind.TheVariants as kind
use Rattle.wot_terms.proofs.ValidParts.{valid_schemas}
use Rattle.wot_terms.proofs.description.Description.of.Goals as goal

pub push_affordances-requires : goal.push_affordances-requires
push_affordances-requires c = valid_schemas (members_of c.in-Obj.root) kind.Property (rw c.in-Obj.is at c.requires)

pub push_affordances-requires-in-Obj : goal.push_affordances-requires-in-Obj
push_affordances-requires-in-Obj c = valid_schemas (members_of c.in-Obj.root) kind.Action (rw c.in-Obj.is at c.requires)

pub push_affordances-requires-in-Obj-2 : goal.push_affordances-requires-in-Obj-2
push_affordances-requires-in-Obj-2 c = valid_schemas (members_of c.in-Obj.root) kind.Event (rw c.in-Obj.is at c.requires)
