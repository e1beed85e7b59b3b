use Rattle.std.proofs.Common.{arith, rules}
use Rattle.thing_ops.proofs.SegmentLists.{leads_by_one, leads_by_two, leads_by_kind, leads_by_four, leads_nowhere}
use Rattle.thing_ops.proofs.routing.route_of_pieces.Goals as goal

pub returns-then-eq : goal.returns-then-eq
returns-then-eq c = leads_by_one _ c.args.bytes.now c.args.ends.now c.piece.result.now (omega (arith, c.in-1.is)) c.piece.ensures (search rules)

pub returns-else-eq : goal.returns-else-eq
returns-else-eq c = leads_by_one _ c.args.bytes.now c.args.ends.now c.piece.result.now (omega (arith, c.in-1.is)) c.piece.ensures (search rules)

pub returns-then-eq-3 : goal.returns-then-eq-3
returns-then-eq-3 c = leads_by_two _ c.args.bytes.now c.args.ends.now c.piece-first.result.now c.piece-second.result.now (omega (arith, c.in-2.is)) c.piece-first.ensures c.piece-second.ensures (search rules)

pub returns-then-is_entry_id : goal.returns-then-is_entry_id
returns-then-is_entry_id c = leads_by_two _ c.args.bytes.now c.args.ends.now c.piece-first.result.now c.piece-second.result.now (omega (arith, c.in-2.is)) c.piece-first.ensures c.piece-second.ensures (search rules)

pub returns-then-eq-5 : goal.returns-then-eq-5
returns-then-eq-5 c = leads_by_two _ c.args.bytes.now c.args.ends.now c.piece-first.result.now c.piece-second.result.now (omega (arith, c.in-2.is)) c.piece-first.ensures c.piece-second.ensures (search rules)

pub returns-else-eq-5 : goal.returns-else-eq-5
returns-else-eq-5 c = leads_by_two _ c.args.bytes.now c.args.ends.now c.piece-first.result.now c.piece-second.result.now (omega (arith, c.in-2.is)) c.piece-first.ensures c.piece-second.ensures (search rules)

pub returns-then-eq-6 : goal.returns-then-eq-6
returns-then-eq-6 c = leads_by_kind _ c.args.bytes.now c.args.ends.now c.piece-kind.result.now (omega (arith, c.in-3.is)) c.piece-kind.ensures (λ thing name. search rules)

pub returns-then-eq-7 : goal.returns-then-eq-7
returns-then-eq-7 c = leads_by_kind _ c.args.bytes.now c.args.ends.now c.piece-kind.result.now (omega (arith, c.in-3.is)) c.piece-kind.ensures (λ thing name. search rules)

pub returns-then-eq-8 : goal.returns-then-eq-8
returns-then-eq-8 c = leads_by_kind _ c.args.bytes.now c.args.ends.now c.piece-kind.result.now (omega (arith, c.in-3.is)) c.piece-kind.ensures (λ thing name. search rules)

pub returns-else-eq-8 : goal.returns-else-eq-8
returns-else-eq-8 c = leads_by_kind _ c.args.bytes.now c.args.ends.now c.piece-kind.result.now (omega (arith, c.in-3.is)) c.piece-kind.ensures (λ thing name. search rules)

pub returns-in-4 : goal.returns-in-4
returns-in-4 c =
    leads_by_four _ c.args.bytes.now c.args.ends.now c.piece-in-4.result.now c.piece-in-4-2.result.now c.piece-in-4-3.result.now c.piece-in-4-4.result.now (omega (arith, c.in-4.is))
    c.piece-in-4.ensures c.piece-in-4-2.ensures c.piece-in-4-3.ensures c.piece-in-4-4.ensures c.route_of_four.ensures

pub returns-in_default : goal.returns-in_default
returns-in_default c =
    leads_nowhere c.args.bytes.now c.args.ends.now (omega (arith, c.in_default)) (omega (arith, c.in_default)) (omega (arith, c.in_default)) (omega (arith, c.in_default))
