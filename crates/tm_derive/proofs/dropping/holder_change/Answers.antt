use Rattle.std.proofs.Common.{ap, ◌∙◌, List, ℕ}
use Rattle.std.specs.Prelude.{Some}
use Rattle.wot_json.specs.Tree.{Json, object, members_of}
use Rattle.tm_derive.specs.Selected.{is_out}
use Rattle.tm_derive.proofs.Values.{holder_changed}
use Rattle.tm_derive.proofs.dropping.holder_change.Goals as goal

pub returns-in_ok-dropped_members-in-Obj : goal.returns-in_ok-dropped_members-in-Obj
returns-in_ok-dropped_members-in-Obj c =
    ap (λ (ms : List (List ℕ × Json)). Some (object (members_of ms))) c.in_ok-dropped_members-in-Obj.ensures
    ∙ holder_changed (is_out c.args.selection.now) c.args.holder.now c.args.held.now c.in-Obj.members c.in-Obj.is
