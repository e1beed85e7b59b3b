use Rattle.std.proofs.Common.{sym, ◌∙◌, arith}
use Rattle.thing_ops.specs.declared.verb.Verb.TheVariants as verb
use Rattle.thing_ops.specs.Verbs.{in_order}
use Rattle.thing_ops.proofs.VerbNames.{line_more, line_same}
use Rattle.thing_ops.proofs.allow.Allow.write.Goals as goal
use Rattle.thing_ops.proofs.allow.Allow.write.Goals.{then-takes, else-takes}

pub loop-verb-preserved : goal.loop-verb-preserved
loop-verb-preserved c =
    elim c.if-takes.branch [
      | then-takes w ↦ rw (w.out-is, w.at-is) (
        line_more c.args.self in_order c.loop-verb.verb-index verb.Get c.loop-verb.at w.put_name-at.result c.args.out.now c.loop-verb.out w.put_name-at.new.out
            c.loop-verb-test.true (sym c.takes.ensures ∙ w.if-takes.true) c.loop-verb.invariant.0 w.put_name-at.ensures.text,
        omega (arith, c.loop-verb.invariant.1, w.put_name-at.ensures.short),
      )
      | else-takes w ↦ rw (w.out-is, w.at-is) (
        line_same c.args.self in_order c.loop-verb.verb-index verb.Get c.loop-verb.at c.args.out.now c.loop-verb.out
            c.loop-verb-test.true (sym c.takes.ensures ∙ w.if-takes.false) c.loop-verb.invariant.0,
        omega (arith, c.loop-verb.invariant.1),
      )
    ]
