use Rattle.std.proofs.Common.{sym, ◌∙◌}
use Rattle.std.specs.Prelude.{Some, None}
use Rattle.wot_json.specs.Meaning.{json_of}
use Rattle.tm_parts.proofs.Models.{model_by_type}
use Rattle.tm_parts.proofs.library.is_thing_model.Goals as goal

pub returns-in-Some : goal.returns-in-Some
returns-in-Some c =
    c.has_text.ensures ∙ sym (model_by_type c.args.tree.now c.in-Obj.members (Some (json_of c.in-Some.types.now)) c.in-Obj.is c.in-Some.ensures)

pub returns-in-None : goal.returns-in-None
returns-in-None c =
    sym (model_by_type c.args.tree.now c.in-Obj.members None c.in-Obj.is c.in-None.ensures)
