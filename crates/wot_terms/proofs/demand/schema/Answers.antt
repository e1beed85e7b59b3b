use Rattle.std.specs.Prelude.{Err, IsOk}
use Rattle.wot_json.specs.Meaning.{json_of}
use Rattle.wot_schema.specs.declared.fault.SchemaFault.{SchemaFault}
use Rattle.wot_schema.specs.declared.fault.SchemaFault.TheVariants.{NoMemory}
use Rattle.wot_schema.specs.Faults.{schema_faults}
use Rattle.wot_terms.specs.Faults.{pointer_of}
use Rattle.wot_terms.proofs.ValidParts.{none_of}
use Rattle.wot_terms.proofs.demand.schema.Goals as goal

refused : (e : SchemaFault) → IsOk {T = Unit {0}} (Err e) → ⊥
refused e ok = cc

pub returns-in-Err-NoMemory : goal.returns-in-Err-NoMemory
returns-in-Err-NoMemory c = λ none. refused NoMemory (c.in-Err-NoMemory.ensures.complete (none_of pointer_of (schema_faults (json_of c.args.value.now)) none))
