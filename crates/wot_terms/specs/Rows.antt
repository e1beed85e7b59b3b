-- The code's names of the demands of a row, and of its findings.
use Rattle.std.specs.Prelude.{◌≡◌, ◌≢◌, ℕ, ◌==◌, List, [], ◌∷◌, Option, Some, Result, Ok, Err, slice_get, codes, if◌then◌else◌}
use Rattle.std.specs.Str.{bytes_eq}
use Rattle.wot_terms.specs.declared.kind.Kind.{Kind}
use Rattle.wot_terms.specs.declared.fault.RowFault.{RowFault}
use Rattle.wot_terms.specs.declared.fault.RowFault.TheVariants as row_fault
use Rattle.wot_terms.specs.declared.fault.CheckFault.{CheckFault}
use Rattle.wot_terms.specs.declared.fault.CheckFault.TheVariants as check_fault
use Rattle.wot_terms.specs.declared.demand.Demand.{Demand}
use Rattle.wot_terms.specs.declared.demand.Demand.TheVariants as demand
use Rattle.wot_terms.specs.declared.entries.EntryRule.{EntryRule}
use Rattle.wot_terms.specs.declared.entries.EntryRule.TheVariants as entry
use Rattle.wot_terms.specs.declared.forms.FormRow.{FormRow}
use Rattle.wot_terms.specs.declared.forms.FormRow.TheVariants as form_row
use Rattle.wot_terms.specs.declared.affordances.AffordanceRow.{AffordanceRow}
use Rattle.wot_terms.specs.declared.affordances.AffordanceRow.TheVariants as affordance_row
use Rattle.wot_terms.specs.Faults.{Places, Judge, MembersJudge, is, is_text_with, is_text_not_empty, anything, text, truth_value, any_object, schema, object_with, if_object, required_member, link, forms_of, form_href, form_operations, form_texts, affordance_forms, affordance_flags, affordance_schemas, table}

-- The finding of a part with these wrong places: nothing, where it has none; or the first; or out of memory, and it
-- has one.
abbrev pub IsFinding : Places → Result (Unit {0}) RowFault → Type 0
IsFinding places (Ok u) = places ≡ []
IsFinding places (Err row_fault.NoMemory) = places ≢ []
IsFinding places (Err (row_fault.At pointer)) = slice_get places 0 ≡ Some pointer

abbrev pub judge_of : Demand → Judge
judge_of demand.Anything v = anything v
judge_of demand.Text v = text v
judge_of demand.TextNotEmpty v = is is_text_not_empty v
judge_of demand.TruthValue v = truth_value v
judge_of demand.NoSecurity v = is (is_text_with (bytes_eq (codes "nosec"))) v
judge_of demand.Schema v = schema v

abbrev pub form_judge : FormRow → Option Kind → MembersJudge
form_judge form_row.Href place ms = form_href place ms
form_judge form_row.Operations place ms = form_operations place ms
form_judge form_row.Texts place ms = form_texts place ms

-- the demand on an element of a list or a member of an object
abbrev pub entry_judge : EntryRule → Judge
entry_judge entry.Object v = any_object v
entry_judge entry.Text v = text v
entry_judge entry.Definition v = object_with (required_member (codes "scheme") (is (is_text_with (bytes_eq (codes "nosec"))))) v
entry_judge entry.RootForm v = object_with (required_member (codes "op") anything) v
entry_judge entry.Link v = object_with link v
entry_judge (entry.Form row place) v = if_object (form_judge row place) v

abbrev pub affordance_judge : AffordanceRow → Kind → MembersJudge
affordance_judge affordance_row.Forms k ms = affordance_forms k ms
affordance_judge (affordance_row.EachForm row) k ms = forms_of (form_judge row) (Some k) ms
affordance_judge affordance_row.Flags k ms = affordance_flags k ms
affordance_judge affordance_row.Schemas k ms = affordance_schemas k ms

-- of rows, the places of the one with this number
abbrev pub places_in : ℕ → List (ℕ × Places) → Places
places_in n [] = []
places_in n (row ∷ rows) = if n == row.0 then row.1 else places_in n rows

abbrev pub row_places : ℕ → MembersJudge
row_places n ms = places_in n (table ms)

-- the fault of a row with this number
abbrev pub fault_in : ℕ → RowFault → CheckFault
fault_in n row_fault.NoMemory = check_fault.NoMemory
fault_in n (row_fault.At pointer) = check_fault.Td (record { number = n; pointer = pointer })
