use Rattle.std.proofs.Common.{ℕ, List, [], map}
use Rattle.std.proofs.lemmas.Result.{err_from_is_err_and}
use denote.Bor.{Bor}
use Rattle.wot_json.specs.Tree.{members_of}
use Rattle.wot_terms.specs.Faults.{optional_members}
use Rattle.wot_terms.specs.Rows.{judge_of}
use Rattle.wot_terms.proofs.Findings.{name_stops}
use Rattle.wot_terms.proofs.demand.optional_each.Goals as goal

pub returns-in_err-optional : goal.returns-in_err-optional
returns-in_err-optional c =
    let p = err_from_is_err_and c.from_residual.result c.from_residual.ensures.1 in
    rw (p.1, p.2)
    (name_stops {B = Bor (List ℕ)} c.args.names.now (λ s. s.now) c.loop-name.name-index (record { ref_ptr = (0, 0); now = [] }) (judge_of c.args.demand) (members_of c.args.members.now)
    (optional_members (map {A = Bor (List ℕ)} (λ s. s.now) c.args.names.now) (judge_of c.args.demand) (members_of c.args.members.now)) _ c.loop-name-test.true c.loop-name.invariant c.in_err-optional.ensures)
