-- The operations of the command line as forms name them (TD 1.1, section 5.3.4.2).
use Rattle.command_words.specs.declared.command.Operation.{Operation}
use Rattle.command_words.specs.declared.command.Operation.TheVariants as command
use Rattle.wot_terms.specs.declared.op.Op.{Op}
use Rattle.wot_terms.specs.declared.op.Op.TheVariants as form

abbrev pub form_operation : Operation → Op
form_operation command.ReadProperty = form.ReadProperty
form_operation command.WriteProperty = form.WriteProperty
form_operation command.InvokeAction = form.InvokeAction
form_operation command.ReadAllProperties = form.ReadAllProperties
form_operation command.ObserveProperty = form.ObserveProperty
