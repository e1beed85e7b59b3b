use Rattle.std.proofs.Common.{ap, ◌∙◌}
use Rattle.std.specs.Prelude.{Some, None}
use Rattle.wot_json.specs.Tree.{Json}
use Rattle.tm_derive.proofs.Values.{version_changed}
use Rattle.tm_derive.proofs.finishing.changed_version.Goals as goal

pub returns-in_ok-instance_patch-in-None : goal.returns-in_ok-instance_patch-in-None
returns-in_ok-instance_patch-in-None c =
    ap (λ (v : Json). Some v) c.in_ok-instance_patch-in-None.ensures
    ∙ version_changed c.args.instance.now c.args.version.now c.in-Obj.members None c.in-Obj.is c.in-None.ensures

pub returns-in-Some : goal.returns-in-Some
returns-in-Some c = version_changed c.args.instance.now c.args.version.now c.in-Obj.members _ c.in-Obj.is (rw c.in-Some.is at c.get.ensures)
