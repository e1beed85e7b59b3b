use Rattle.std.proofs.Common.{ℕ, List, [], map}
use Rattle.std.specs.List.{flat_map}
use Rattle.std.proofs.lemmas.Result.{err_from_is_err_and}
use denote.Bor.{Bor}
use Rattle.wot_json.specs.Tree.{members_of}
use Rattle.wot_schema.specs.Checks.{judge_of}
use Rattle.wot_schema.specs.Faults.{row_faults}
use Rattle.wot_schema.specs.declared.shape.Shape.{Shape}
use Rattle.wot_schema.specs.declared.shape.Shape.TheVariants as shape
use Rattle.wot_schema.proofs.FirstFaults.{row_stops}
use Rattle.wot_schema.proofs.shape.check_rows.Goals as goal

abbrev Row : Type 0
Row = Bor (List ℕ) × Shape

pub returns-in_err-check_row : goal.returns-in_err-check_row
returns-in_err-check_row c =
    let p = err_from_is_err_and c.from_residual.result c.from_residual.ensures.1 in
    rw (p.1, p.2)
    (row_stops {B = Row} c.args.rows.now (λ r. (r.0.now, judge_of r.0.now r.1)) c.loop-name.name-index (record { ref_ptr = (0, 0); now = [] }, shape.Nothing) (members_of c.args.members.now)
    (flat_map (row_faults (members_of c.args.members.now)) (map {A = Row} (λ r. (r.0.now, judge_of r.0.now r.1)) c.args.rows.now)) _ c.loop-name-test.true c.loop-name.invariant c.in_err-check_row.ensures)
