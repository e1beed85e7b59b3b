use Rattle.tm_resolve.specs.Resolver.{resolver_models}
use Rattle.tm_derive.specs.Derivation.{derived}
use Rattle.tm_derive.proofs.WholeDerivation.{derived_by, ok_of, fault_of}
use Rattle.tm_derive.proofs.NoFaults.{derived_good, if_root, if_distinct, if_valid, if_plain}
use Rattle.tm_derive.proofs.derivation.derive.Goals as goal

pub returns-clause-ok : goal.returns-clause-ok
returns-clause-ok c =
    ok_of (derived c.args.library.now c.args.bindings.now c.args.choices.now c.args.frame.now c.args.root.now) c.derive_with.result
    (derived_by c.args.library.now c.args.bindings.now c.args.choices.now c.args.frame.now c.args.root.now (resolver_models c.in_ok-resolver.resolver) c.derive_with.result c.in_ok-resolver.ensures c.derive_with.ensures)

pub returns-clause-fault : goal.returns-clause-fault
returns-clause-fault c =
    fault_of (derived c.args.library.now c.args.bindings.now c.args.choices.now c.args.frame.now c.args.root.now) c.derive_with.result
    (derived_by c.args.library.now c.args.bindings.now c.args.choices.now c.args.frame.now c.args.root.now (resolver_models c.in_ok-resolver.resolver) c.derive_with.result c.in_ok-resolver.ensures c.derive_with.ensures)

pub returns-clause-root : goal.returns-clause-root
returns-clause-root c =
    if_root c.args.frame.now.segment c.derive_with.result (derived_good c.args.library.now c.args.bindings.now c.args.choices.now c.args.frame.now c.args.root.now c.derive_with.result (returns-clause-ok c))

pub returns-clause-distinct : goal.returns-clause-distinct
returns-clause-distinct c =
    if_distinct c.args.frame.now.segment c.derive_with.result (derived_good c.args.library.now c.args.bindings.now c.args.choices.now c.args.frame.now c.args.root.now c.derive_with.result (returns-clause-ok c))

pub returns-clause-valid : goal.returns-clause-valid
returns-clause-valid c =
    if_valid c.args.frame.now.segment c.derive_with.result (derived_good c.args.library.now c.args.bindings.now c.args.choices.now c.args.frame.now c.args.root.now c.derive_with.result (returns-clause-ok c))

pub returns-clause-plain : goal.returns-clause-plain
returns-clause-plain c =
    if_plain c.args.frame.now.segment c.derive_with.result (derived_good c.args.library.now c.args.bindings.now c.args.choices.now c.args.frame.now c.args.root.now c.derive_with.result (returns-clause-ok c))
