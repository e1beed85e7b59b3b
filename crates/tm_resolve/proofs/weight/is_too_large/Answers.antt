use Rattle.tm_resolve.proofs.Visits.{first_within, first_beyond}
use Rattle.tm_resolve.proofs.weight.is_too_large.Goals as goal

pub returns-in-Ok : goal.returns-in-Ok
returns-in-Ok c = first_within c.args.sources.now.models c.new-chain.result.items c.args.root.now c.in-Ok.field-0 c.new-chain.ensures.items c.in-Ok.ensures.weight

pub returns-in-Err-TooLarge : goal.returns-in-Err-TooLarge
returns-in-Err-TooLarge c =
    first_beyond c.args.sources.now.models c.new-chain.result.items c.args.root.now c.new-chain.ensures.items (rw c.in-Err-TooLarge.field-0-is at c.in-Err-TooLarge.ensures.weight)
