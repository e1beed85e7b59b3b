use Rattle.std.proofs.Common.{rules, ℕ, ap, refl}
use Rattle.wot_json.specs.Json.{escaped_byte}
use Rattle.turn_lines.proofs.Putting.{put_same}
use Rattle.turn_lines.proofs.tree_text.put_escaped.Goals as goal

pub returns-in-34 : goal.returns-in-34
returns-in-34 g c = put_same _ _ (ap escaped_byte c.in-34.is) c.push.ensures

pub returns-in-92 : goal.returns-in-92
returns-in-92 g c = put_same _ _ (ap escaped_byte c.in-92.is) c.push-in-92.ensures

pub returns-in-8 : goal.returns-in-8
returns-in-8 g c = put_same _ _ (ap escaped_byte c.in-8.is) c.push-in-8.ensures

pub returns-in-9 : goal.returns-in-9
returns-in-9 g c = put_same _ _ (ap escaped_byte c.in-9.is) c.push-in-9.ensures

pub returns-in-10 : goal.returns-in-10
returns-in-10 g c = put_same _ _ (ap escaped_byte c.in-10.is) c.push-in-10.ensures

pub returns-in-12 : goal.returns-in-12
returns-in-12 g c = put_same _ _ (ap escaped_byte c.in-12.is) c.push-in-12.ensures

pub returns-in-13 : goal.returns-in-13
returns-in-13 g c = put_same _ _ (ap escaped_byte c.in-13.is) c.push-in-13.ensures

pub returns-in_default : goal.returns-in_default
returns-in_default g c = put_same _ _ (search rules) c.push-in_default.ensures

pub returns-in-0-to-31 : goal.returns-in-0-to-31
returns-in-0-to-31 g c = put_same _ _ (search rules) c.push-in-0-to-31.ensures
