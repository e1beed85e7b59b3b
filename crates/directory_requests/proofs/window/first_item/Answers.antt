use Rattle.std.proofs.Common.{arith}
use Rattle.directory_requests.proofs.Places.{further_pieces, one_piece}
use Rattle.directory_requests.proofs.window.first_item.Goals as goal

pub returns-then-place-items-clause-items : goal.returns-then-place-items-clause-items
returns-then-place-items-clause-items c = further_pieces 38 c.args.items.now c.place_of-place.result c.place_of-place.ensures.ok (omega arith)

pub returns-else-place-items-clause-items : goal.returns-else-place-items-clause-items
returns-else-place-items-clause-items c = one_piece 38 c.args.items.now (omega arith)
