use Rattle.wot_directory.specs.Directory.{without_entry}
use Rattle.wot_registry.specs.Times.{without_times}
use Rattle.wot_registry.proofs.Standing.{without_is, is_of_parts}
use Rattle.wot_registry.proofs.registry.Registry.remove_now.Goals as goal

pub invariant_of-self-2 : goal.invariant_of-self-2
invariant_of-self-2 c =
    is_of_parts c.self.inside.epoch c.remove.new.self (without_entry c.args.id.now c.self.inside.directory)
    c.remove-2.new.self (without_times c.args.id.now c.self.inside.times) c.in_ok-remove.ensures.ok.after_is c.remove-2.ensures
    (without_is c.args.id.now _ c.self.invariant)
