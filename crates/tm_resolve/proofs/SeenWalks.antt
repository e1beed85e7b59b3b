-- Walks through lists and objects that are seen with values in place of placeholders, as a whole.
use Rattle.std.proofs.Common.{◌≡◌, ℕ, ◌<◌, ◌≤◌, List, [], ◌∷◌, ◌++◌, length, map, get_or, false, inl, inr, refl, sym, subst}
use Rattle.std.specs.Prelude.{Option, Some, None, Result}
use Rattle.std.specs.Str.{bytes_eq}
use Rattle.wot_json.specs.Tree.{Json, object, Elements, elements_of, Members, members_of}
use Rattle.wot_json.specs.Lookup.{member_list, member_named}
use Rattle.wot_json.specs.Meaning.{json_items, json_members}
use Rattle.wot_json.specs.Places.{step_text, element_step_text}
use Rattle.wot_json.specs.declared.tree.Tree.{Tree}
use Rattle.tm_parts.specs.Placeholders.{first_of}
use Rattle.tm_parts.specs.References.{reference}
use Rattle.tm_parts.specs.Substitution.{Values, substituted_elements, substituted_members}
use Rattle.tm_parts.specs.declared.reference.Reference.{Reference}
use Rattle.tm_resolve.specs.Links.{reference_name, reference_of}
use Rattle.tm_resolve.specs.Seen.{with_values}
use Rattle.tm_resolve.specs.Value.{part_value, elements_value, members_value, imported_value}
use Rattle.tm_resolve.specs.Faults.{Steps, fault_at, import_faults, part_faults, element_faults, member_faults, reference_faults}
use Rattle.tm_resolve.specs.Walking.{Gives, IsRefusal}
use Rattle.tm_resolve.specs.declared.fault.ResolveFault.{ResolveFault}
use Rattle.tm_resolve.specs.declared.fault.ResolveKind.TheVariants.{BadRef}
use Rattle.tm_resolve.proofs.Loops.{ElementsGoOn, MembersGoOn, elements_refused, elements_end, members_refused, members_end}
use Rattle.tm_resolve.proofs.SeenParts.{named_by, elements_seen, kept_members_seen}

-- a refusal by the faults of a target is one by the faults of a `tm:ref` that leads to it
first_imported : (from : Reference) (value : Json) (faults : List ResolveFault) (e : ResolveFault) → first_of faults ≡ Some e → first_of (import_faults from value faults) ≡ Some e
first_imported from value [] e is = absurd (cc)
first_imported from value (fault ∷ faults) e is = is

import_refused : (from : Reference) (value : Json) (faults : List ResolveFault) (e : ResolveFault) → IsRefusal e faults → IsRefusal e (import_faults from value faults)
import_refused from value faults e (inl memory) = inl memory
import_refused from value faults e (inr first) = inr (first_imported from value faults e first)

pub reference_refused : (steps : Steps) (chain : List Reference) (from : Reference) (v : Json) (target : Reference) (e : ResolveFault) → reference_of from.url v ≡ Some target
    → IsRefusal e (steps.faults from chain target) → IsRefusal e (reference_faults steps chain from (Some v))
reference_refused steps chain from v target e found refused =
    subst (λ (o : Option Reference). IsRefusal e (elim o as (λ _. List ResolveFault) [ None ↦ fault_at BadRef from ∷ [] | Some t ↦ import_faults from (steps.value chain t) (steps.faults from chain t) ])) (sym found)
    (import_refused from (steps.value chain target) (steps.faults from chain target) e refused)

-- an object gives what its `tm:ref`, if it has one, and its other members give
pub seen_object_gives : (steps : Steps) (chain : List Reference) (from : Reference) (ms : Members) (found : Option Json) (r : Result Tree ResolveFault) → member_named reference_name (member_list ms) ≡ found
    → Gives (imported_value steps.value from.url chain found (object (members_value steps.value from.url chain ms))) (reference_faults steps chain from found ++ member_faults steps chain from ms) r
    → Gives (part_value steps.value from.url chain (object ms)) (part_faults steps chain from (object ms)) r
seen_object_gives steps chain from ms found r is gives =
    subst (λ (o : Option Json). Gives (imported_value steps.value from.url chain o (object (members_value steps.value from.url chain ms))) (reference_faults steps chain from o ++ member_faults steps chain from ms) r) (sym is) gives

-- an element that is refused ends the walk through a list
pub seen_elements_refused : (steps : Steps) (chain : List Reference) (from : Reference) (values : Values) (list : List Tree) (done : List Json) (index : ℕ) (item : Tree) (e : ResolveFault)
    → index < length list → item ≡ get_or list index item → ElementsGoOn steps chain from (with_values values) list done index
    → IsRefusal e (part_faults steps chain (reference from.url (from.pointer ++ element_step_text index)) (with_values values item)) → IsRefusal e (element_faults steps chain from 0 (substituted_elements (elements_of (json_items list)) values))
seen_elements_refused steps chain from values list done index item e within is so_far refused =
    subst (λ (es : Elements). IsRefusal e (element_faults steps chain from 0 es)) (elements_seen values list)
    (elements_refused steps chain from (with_values values) list (map (with_values values) list) done index item e refl within is so_far refused)

-- and so does the end of its elements
pub seen_elements_end : (steps : Steps) (chain : List Reference) (from : Reference) (values : Values) (list : List Tree) (done : List Json) (index : ℕ) → length list ≤ index → ElementsGoOn steps chain from (with_values values) list done index
    → (elements_of done ≡ elements_value steps.value from.url chain (substituted_elements (elements_of (json_items list)) values)) × (element_faults steps chain from 0 (substituted_elements (elements_of (json_items list)) values) ≡ [])
seen_elements_end steps chain from values list done index past so_far =
    subst (λ (es : Elements). (elements_of done ≡ elements_value steps.value from.url chain es) × (element_faults steps chain from 0 es ≡ [])) (elements_seen values list)
    (elements_end steps chain from (with_values values) list (map (with_values values) list) done index refl past so_far)

-- a member that is refused ends the walk through an object
pub seen_members_refused : (steps : Steps) (chain : List Reference) (from : Reference) (values : Values) (list : List (List ℕ × Tree)) (members done : List (List ℕ × Json)) (index : ℕ) (m : List ℕ × Tree) (e : ResolveFault)
    → json_members list ≡ members → index < length list → m ≡ get_or list index m → bytes_eq m.0 reference_name ≡ false → MembersGoOn steps chain from (with_values values) list done index
    → IsRefusal e (part_faults steps chain (reference from.url (from.pointer ++ step_text m.0)) (with_values values m.1)) → IsRefusal e (member_faults steps chain from (substituted_members (members_of members) values))
seen_members_refused steps chain from values list members done index m e same within is other so_far refused =
    subst (λ (ms : Members). IsRefusal e (member_faults steps chain from ms)) (kept_members_seen values list members same)
    (members_refused steps chain from (with_values values) list (map (named_by (with_values values)) list) done index m e refl within is other so_far refused)

-- and so does the end of its members
pub seen_members_end : (steps : Steps) (chain : List Reference) (from : Reference) (values : Values) (list : List (List ℕ × Tree)) (members done : List (List ℕ × Json)) (index : ℕ) → json_members list ≡ members → length list ≤ index
    → MembersGoOn steps chain from (with_values values) list done index
    → (members_of done ≡ members_value steps.value from.url chain (substituted_members (members_of members) values)) × (member_faults steps chain from (substituted_members (members_of members) values) ≡ [])
seen_members_end steps chain from values list members done index same past so_far =
    subst (λ (ms : Members). (members_of done ≡ members_value steps.value from.url chain ms) × (member_faults steps chain from ms ≡ [])) (kept_members_seen values list members same)
    (members_end steps chain from (with_values values) list (map (named_by (with_values values)) list) done index refl past so_far)
