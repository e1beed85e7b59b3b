use Rattle.std.proofs.Common.{◌≡◌, drop, map}
use Rattle.std.specs.List.{flat_map}
use Rattle.wot_json.specs.Tree.{members_of}
use Rattle.wot_schema.specs.Checks.{judge_of}
use Rattle.wot_schema.specs.Faults.{row_faults}
use Rattle.wot_schema.proofs.shape.check_rows.Given as goal

abbrev pub invariant-loop-name : goal.invariant-loop-name
invariant-loop-name l = flat_map (row_faults (members_of l.members)) (map (λ r. (r.0.now, judge_of r.0.now r.1)) l.rows) ≡ flat_map (row_faults (members_of l.members)) (map (λ r. (r.0.now, judge_of r.0.now r.1)) (drop l.name-index l.rows))
