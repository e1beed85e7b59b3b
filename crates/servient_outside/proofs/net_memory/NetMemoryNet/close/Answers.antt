use Rattle.std.proofs.Common.{refl}
use Rattle.servient_outside.specs.declared.net.Act.TheVariants as act
use Rattle.servient_outside.proofs.ActsKept.{shows_act}
use Rattle.servient_outside.proofs.net_memory.NetMemoryNet.close.Goals as goal

pub returns-clause-shows : goal.returns-clause-shows
returns-clause-shows c =
    let done = (act.Closed c.args.c) in
    shows_act c.args.self.now c.keep.new.self done tt (c.keep.ensures.history done refl) c.keep.ensures.left c.keep.ensures.events_stay
