use Rattle.std.proofs.Common.{ap}
use Rattle.servient_script.specs.Print.{text_if_any}
use Rattle.turn_lines.proofs.Putting.{put_then, put_same}
use Rattle.turn_lines.proofs.line.put_if_any.Goals as goal

pub returns-in-Some : goal.returns-in-Some
returns-in-Some g c = put_same _ _ (ap text_if_any c.in-Some.is) c.put_tree.ensures

pub returns-in-None : goal.returns-in-None
returns-in-None g c = put_same _ _ (ap text_if_any c.in-None.is) c.push.ensures
