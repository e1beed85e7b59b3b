use Rattle.wot_json.proofs.PointerTexts.{compare_longer}
use Rattle.wot_json.proofs.lookup.compare.Goals as goal

pub returns-in-None : goal.returns-in-None
returns-in-None c = λ other is.
    let left = c.loop-byte.invariant other is in
    compare_longer c.args.name.now other left.0 c.loop-byte.byte-index c.loop-byte-test.true left.2 (c.in-None.ensures left.0 left.1)
