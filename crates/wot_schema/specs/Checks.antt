-- The code's names of the demands of the table's rows and of the findings of a check; for private clauses.
use Rattle.std.specs.Prelude.{◌≡◌, ℕ, List, [], Some, IsSome, Result, Ok, Err, slice_get}
use Rattle.wot_schema.specs.declared.fault.SchemaFault.{SchemaFault}
use Rattle.wot_schema.specs.declared.fault.SchemaFault.TheVariants as schema_fault
use Rattle.wot_schema.specs.declared.shape.Shape.{Shape}
use Rattle.wot_schema.specs.declared.shape.Shape.TheVariants as shape
use Rattle.wot_schema.specs.Faults.{Judge, nothing, type_name, any_value, list_with_element, whole_number, number_above_zero, count, object_or_list, any_object, list_of_texts}

-- A value was checked: it has no fault, or the result is its first. Out of memory comes only where there is a fault.
abbrev pub FindsFirst : List SchemaFault → Result (Unit {0}) SchemaFault → Type 0
FindsFirst faults (Ok u) = faults ≡ []
FindsFirst faults (Err schema_fault.NoMemory) = IsSome (slice_get faults 0)
FindsFirst faults (Err (schema_fault.Malformed place)) = slice_get faults 0 ≡ Some (schema_fault.Malformed place)
FindsFirst faults (Err (schema_fault.Unsupported place word)) = slice_get faults 0 ≡ Some (schema_fault.Unsupported place word)

-- the demand on the member of this name
abbrev pub judge_of : List ℕ → Shape → Judge
judge_of name shape.Nothing s = nothing name s
judge_of name shape.TypeName s = type_name s
judge_of name shape.Anything s = any_value s
judge_of name shape.ListWithElement s = list_with_element s
judge_of name shape.Integer s = whole_number s
judge_of name shape.IntegerAboveZero s = number_above_zero s
judge_of name shape.Count s = count s
judge_of name shape.ObjectOrList s = object_or_list s
judge_of name shape.Object s = any_object s
judge_of name shape.ListOfTexts s = list_of_texts s
