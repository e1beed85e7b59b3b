use Rattle.std.proofs.Common.{Option, drop}
use Rattle.std.specs.Option.{option_copied}
use Rattle.wot_consumer.specs.declared.chosen.Chosen.{Chosen}
use Rattle.wot_consumer.specs.Choice.{IsFirst}
use Rattle.wot_consumer.proofs.choice.first.Given as goal

abbrev pub invariant-loop-form : goal.invariant-loop-form
invariant-loop-form l = (o : Option Chosen) → IsFirst l.wanted (option_copied l.base) (drop l.form-index l.forms) o → IsFirst l.wanted (option_copied l.base) l.forms o
