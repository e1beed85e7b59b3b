use Rattle.std.proofs.Common.{sym}
use Rattle.command_words.proofs.FlagLaws.{flag_step}
use Rattle.command_words.proofs.flags.place_of_flag.Goals as goal

pub loop-index-preserved : goal.loop-index-preserved
loop-index-preserved c =
    flag_step c.args.flag.now c.args.words.now c.loop-index.index _ c.loop-index-test.true (sym c.if-eq.ensures) (sym c.if-eq-2.ensures) c.loop-index.invariant
