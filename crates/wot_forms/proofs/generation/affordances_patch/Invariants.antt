use Rattle.std.proofs.Common.{◌≡◌, ◌++◌, drop}
use Rattle.wot_json.specs.Meaning.{json_members}
use Rattle.wot_forms.specs.FormsPatch.{affordances_patch}
use Rattle.wot_forms.proofs.generation.affordances_patch.Given as goal

abbrev pub invariant-loop-member : goal.invariant-loop-member
invariant-loop-member l =
    json_members l.patch.items ++ affordances_patch (l.at.bases.now) (l.at.segment.now) l.kind (json_members (drop l.member-index l.list))
    ≡ affordances_patch (l.at.bases.now) (l.at.segment.now) l.kind (json_members l.list)
