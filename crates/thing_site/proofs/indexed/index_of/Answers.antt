use Rattle.std.proofs.Common.{List, ℕ, take, sym, subst, arith}
use Rattle.thing_site.specs.Index.{Indexes}
use Rattle.thing_site.proofs.IndexLaws.{no_index, whole_index}
use Rattle.thing_site.proofs.indexed.index_of.Goals as goal

pub loop-number-init : goal.loop-number-init
loop-number-init c =
    subst (λ (ns : List ℕ). Indexes c.args.things.now ns (take 0 c.args.things.now)) (sym c.new-index.ensures.items) (no_index c.args.things.now)

pub returns : goal.returns
returns c =
    whole_index c.args.things.now c.loop-number.index.items c.loop-number.number
    (omega (arith, c.loop-number-test.false)) c.loop-number.invariant
