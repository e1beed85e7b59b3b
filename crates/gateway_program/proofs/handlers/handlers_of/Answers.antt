use Rattle.std.proofs.Common.{arith}
use Rattle.gateway_program.proofs.Racks.{made_more}
use Rattle.gateway_program.proofs.handlers.handlers_of.Goals as goal

pub loop-slot-preserved : goal.loop-slot-preserved
loop-slot-preserved c = (
  made_more c.loop-slot.slot c.args.entries.now c.loop-slot.handlers.items c.push.new.self.items c.in_ok-handler.handler c.loop-slot.invariant.0 c.in_ok-handler.ensures c.in_ok-push.ensures.items,
  omega (arith, c.in_ok-push.ensures.len, c.loop-slot.invariant.1),
)
