use Rattle.wot_schema.proofs.ListShapes.{element_count-elements_of}
use Rattle.wot_schema.proofs.rules.Rules.accept_contents.Goals as goal

-- src/rules.rt:76:5
pub returns-in-List : goal.returns-in-List
returns-in-List c = rw (c.in-List.is, element_count-elements_of c.in-List.items, ← c.len.ensures) c.has-in-List.ensures
