use Rattle.std.proofs.Common.{arith, subst}
use Rattle.std.specs.Prelude.{Option}
use Rattle.http_bind.specs.Slots.{Held, longest_piece, HasRoomFor}
use Rattle.http_bind.proofs.Calls.{lengthens, held_is}
use Rattle.http_bind.proofs.Staying.{longer_stays, found_at}
use Rattle.http_bind.proofs.bind.HttpBind.bytes.Goals as goal

pub invariant_of-self : goal.invariant_of-self
invariant_of-self c =
    longer_stays c.args.c c.args.piece.now c.args.now c.index_mut.result.now c.append.new.self c.self.inside.slots.items c.self.inside.waits c.self.invariant
    (found_at c.args.c c.self.inside.slots.items c.index_mut.result.now (omega (arith, c.self.invariant.count)) c.index_mut.ensures.value)
    (subst (λ (h : Option Held). HasRoomFor longest_piece h)
    (held_is c.args.c c.args.self.now c.self.inside.slots.items c.self.inside.waits c.index_mut.result.now (record { all = c.self.view_is; within = omega (arith, c.self.invariant.count); found = c.index_mut.ensures.value })) c.requires.room)
    c.requires.length c.append.ensures

pub returns-clause-leads : goal.returns-clause-leads
returns-clause-leads c =
    lengthens c.args.c c.args.piece.now c.args.now c.args.self.now c.self.inside.slots.items c.self.inside.waits c.index_mut.result.now c.append.new.self
    (record { all = c.self.view_is; within = omega (arith, c.self.invariant.count); found = c.index_mut.ensures.value }) c.append.ensures
