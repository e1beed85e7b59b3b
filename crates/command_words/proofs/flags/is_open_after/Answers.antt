use Rattle.command_words.proofs.FlagLaws.{open_step}
use Rattle.command_words.proofs.flags.is_open_after.Goals as goal

pub loop-word-preserved : goal.loop-word-preserved
loop-word-preserved c =
    open_step c.args.other.now c.args.words.now c.loop-word.word-index _ c.loop-word.open c.opens-open.result c.loop-word-test.true c.opens-open.ensures c.loop-word.invariant
