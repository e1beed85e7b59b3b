-- Rows of a plan, one after another.
use Rattle.std.proofs.Common.{ℕ, List, sym, ap, subst, Result, Ok, Err}
use Rattle.servient_plan.specs.declared.plan.PlanFault.{PlanFault}
use Rattle.servient_plan.specs.declared.plan.PlanFault.TheVariants.{At, NoMemory}
use Rattle.servient_plan.specs.Plan.{Reads, then_row}

-- a row is refused, and so is what begins with it
pub refused_there : {A B : Type 0} (f : PlanFault) (r : Result A (List ℕ)) (next : A → Result B (List ℕ)) → Reads {A = A} (Err f) r → Reads {A = B} (Err f) (then_row r next)
refused_there (At p) r next is = ap (λ row. then_row row next) is
refused_there NoMemory r next is = tt

-- a row is taken, and what begins with it is as the next row says
pub goes_on_there : {A B : Type 0} (a : A) (r : Result A (List ℕ)) (next : A → Result B (List ℕ)) (result : Result B PlanFault) → Reads {A = A} (Ok a) r → Reads result (next a) → Reads result (then_row r next)
goes_on_there a r next result is further = subst (λ row. Reads result (then_row row next)) (sym is) further
