use Rattle.std.proofs.Common.{◌≡◌, drop, map}
use Rattle.wot_json.specs.Tree.{members_of}
use Rattle.wot_terms.specs.Faults.{optional_members}
use Rattle.wot_terms.specs.Rows.{judge_of}
use Rattle.wot_terms.proofs.demand.optional_each.Given as goal

abbrev pub invariant-loop-name : goal.invariant-loop-name
invariant-loop-name l = optional_members (map (λ s. s.now) l.names) (judge_of l.demand) (members_of l.members) ≡ optional_members (map (λ s. s.now) (drop l.name-index l.names)) (judge_of l.demand) (members_of l.members)
