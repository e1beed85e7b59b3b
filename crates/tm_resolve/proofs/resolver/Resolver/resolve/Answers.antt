use Rattle.tm_resolve.proofs.Whole.{large_model, model_ok, model_fault}
use Rattle.tm_resolve.proofs.resolver.Resolver.resolve.Goals as goal

pub returns-then-branch-clause-fault : goal.returns-then-branch-clause-fault
returns-then-branch-clause-fault c =
    large_model c.args.self.now.sources.models c.args.root.now c.in_ok-copy_of.field-0 c.in_ok-copy_of-2.field-0 c.in_ok-is_too_large.field-0 c.at.result
    c.in_ok-copy_of.ensures c.in_ok-copy_of-2.ensures c.in_ok-is_too_large.ensures c.if-branch.true c.at.ensures

pub returns-clause-ok : goal.returns-clause-ok
returns-clause-ok c =
    model_ok c.args.self.now.sources.models c.args.root.now c.in_ok-copy_of.field-0 c.in_ok-copy_of-2.field-0 c.in_ok-is_too_large.field-0 c.new-chain.result.items c.target_value.result
    c.in_ok-copy_of.ensures c.in_ok-copy_of-2.ensures c.in_ok-is_too_large.ensures c.if-branch.false c.new-chain.ensures.items c.target_value.ensures.outcome

pub returns-clause-fault : goal.returns-clause-fault
returns-clause-fault c =
    model_fault c.args.self.now.sources.models c.args.root.now c.in_ok-copy_of.field-0 c.in_ok-copy_of-2.field-0 c.in_ok-is_too_large.field-0 c.new-chain.result.items c.target_value.result
    c.in_ok-copy_of.ensures c.in_ok-copy_of-2.ensures c.in_ok-is_too_large.ensures c.if-branch.false c.new-chain.ensures.items c.target_value.ensures.outcome
