use Rattle.std.proofs.Common.{arith}
use Rattle.wot_schema.proofs.ListShapes.{faultless_list}
use Rattle.wot_schema.proofs.shape.list_with_element.Goals as goal

pub returns-in-List : goal.returns-in-List
returns-in-List c = rw c.in-List.is (faultless_list c.in-List.items (omega arith))
