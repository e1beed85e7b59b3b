use Rattle.std.proofs.Common.{◌∙◌, List, ℕ, sym, ap}
use Rattle.std.specs.Ordering.{nat_cmp}
use Rattle.std.specs.Cmp.Lexicographic.{slice_cmp}
use Rattle.thing_site.specs.Order.{rank}
use Rattle.thing_site.proofs.Halving.{by_rank, then_by_name}
use Rattle.thing_site.proofs.site.compare.Goals as goal

pub returns-in-Equal : goal.returns-in-Equal
returns-in-Equal c =
    c.cmp-in-Equal.ensures
    ∙ ap (λ (name : List ℕ). slice_cmp nat_cmp name c.args.name.now) (c.as_bytes.ensures.value ∙ c.as_str.ensures)
    ∙ then_by_name (rank c.args.affordance.now.kind) (rank c.args.kind) c.args.affordance.now.name c.args.name.now
    (sym c.in-Equal.is ∙ c.cmp.ensures ∙ (λ i. nat_cmp (c.rank.ensures i) (c.rank-2.ensures i)))

pub returns-in_default : goal.returns-in_default
returns-in_default c =
    by_rank (rank c.args.affordance.now.kind) (rank c.args.kind) c.args.affordance.now.name c.args.name.now c.cmp.result c.in_default.not-Equal
    (c.cmp.ensures ∙ (λ i. nat_cmp (c.rank.ensures i) (c.rank-2.ensures i)))
