-- The faults of a part of a Thing Model, all of them in order: those of an extension come before those of
-- the model, those of a `tm:ref` before those of the members beside it, and those of elements and members
-- in the order of the value.
use Rattle.std.specs.Prelude.{◌+◌, Bool, true, false, ℕ, zero, suc, List, [], ◌∷◌, ◌++◌, Option, Some, None, Result, Ok, Err, if◌then◌else◌}
use Rattle.std.specs.Str.{bytes_eq}
use Rattle.wot_json.specs.Tree.{Json, null, boolean, integer, string, array, object, Elements, no_elements, element, Members, no_members, member}
use Rattle.wot_json.specs.Lookup.{member_list, member_named}
use Rattle.wot_json.specs.Places.{step_text, element_step_text}
use Rattle.wot_json.specs.Pointer.{part_of}
use Rattle.tm_parts.specs.References.{reference}
use Rattle.tm_parts.specs.Sources.{Sources, source_named}
use Rattle.tm_parts.specs.declared.reference.Reference.{Reference}
use Rattle.tm_parts.specs.declared.substitution.PartFault.{PartFault}
use Rattle.tm_parts.specs.declared.substitution.PartFault.TheVariants as part
use Rattle.tm_resolve.specs.Chain.{is_in_chain}
use Rattle.tm_resolve.specs.Links.{reference_name, reference_of, extensions, links_place, link_place, linked_model}
use Rattle.tm_resolve.specs.Value.{ValueStep, value_within}
use Rattle.tm_resolve.specs.Weight.{is_whole}
use Rattle.tm_resolve.specs.declared.fault.ResolveKind.{ResolveKind}
use Rattle.tm_resolve.specs.declared.fault.ResolveKind.TheVariants.{BadRef, BadHref, MissingModel, MissingNode, NotObject, Circular, TwoExtends, NotText, InName}
use Rattle.tm_resolve.specs.declared.fault.ResolveFault.{ResolveFault}
use Rattle.tm_resolve.specs.declared.fault.ResolveFault.TheVariants.{At, NoMemory}

-- the fault of this kind at a part of a model
abbrev pub fault_at : ResolveKind → Reference → ResolveFault
fault_at kind from = At kind from.url from.pointer

-- a fault of the substitution in the model under this URL
abbrev pub fault_in : List ℕ → PartFault → ResolveFault
fault_in url (part.InName pointer) = At InName url pointer
fault_in url (part.NotText name) = At NotText url name
fault_in url part.NoMemory = NoMemory

-- the part to which one more step leads
abbrev pub part_below : Reference → List ℕ → Reference
part_below from step = reference from.url (from.pointer ++ step)

-- The result of a step: the value of its target, and the faults on the way, by the part that leads to the target, the
-- chain before the step and its target.
pub record Steps : Type 0 where
  pub value : ValueStep
  pub faults : Reference → List Reference → Reference → List ResolveFault

-- the value is an object
abbrev pub is_object : Json → Bool
is_object (object ms) = true
is_object v = false

-- the faults of a `tm:ref` whose target has this value and these faults: only a value without faults of its
-- own has to be an object
abbrev pub import_faults : Reference → Json → List ResolveFault → List ResolveFault
import_faults from value (fault ∷ faults) = fault ∷ faults
import_faults from value [] = if is_object value then [] else fault_at NotObject from ∷ []

-- the faults of the value of a `tm:ref`, where there is one
abbrev pub reference_faults : Steps → List Reference → Reference → Option Json → List ResolveFault
reference_faults steps chain from None = []
reference_faults steps chain from (Some value) =
    elim (reference_of from.url value) [
      | None ↦ fault_at BadRef from ∷ []
      | Some target ↦ import_faults from (steps.value chain target) (steps.faults from chain target)
    ]

-- the faults of a part, of the elements of a list counted from an index on, and of the members of an object but for
-- `tm:ref`
abbrev mutual
  pub part_faults : Steps → List Reference → Reference → Json → List ResolveFault
  part_faults steps chain from null = []
  part_faults steps chain from (boolean b) = []
  part_faults steps chain from (integer z) = []
  part_faults steps chain from (string s) = []
  part_faults steps chain from (array es) = element_faults steps chain from 0 es
  part_faults steps chain from (object ms) =
      reference_faults steps chain from (member_named reference_name (member_list ms)) ++ member_faults steps chain from ms

  pub element_faults : Steps → List Reference → Reference → ℕ → Elements → List ResolveFault
  element_faults steps chain from index no_elements = []
  element_faults steps chain from index (element v es) =
      part_faults steps chain (part_below from (element_step_text index)) v ++ element_faults steps chain from (index + 1) es

  pub member_faults : Steps → List Reference → Reference → Members → List ResolveFault
  member_faults steps chain from no_members = []
  member_faults steps chain from (member n v ms) =
      if bytes_eq n reference_name
      then member_faults steps chain from ms
      else part_faults steps chain (part_below from (step_text n)) v ++ member_faults steps chain from ms

-- The faults of the links to the models that a model extends: it extends one at most, and the link leads to a model.
abbrev pub extension_faults : Steps → List Reference → List ℕ → List (ℕ × Json) → List ResolveFault
extension_faults steps chain url [] = []
extension_faults steps chain url (link ∷ []) =
    elim (linked_model url link.1) [
      | None ↦ At BadHref url (link_place link.0) ∷ []
      | Some base ↦ steps.faults (reference url (link_place link.0)) chain base
    ]
extension_faults steps chain url (link ∷ next ∷ links) = At TwoExtends url links_place ∷ []

-- the faults of a target whose part this is, with it in the chain
abbrev pub target_faults : Steps → List Reference → Reference → Json → List ResolveFault
target_faults steps chain target part =
    (if is_whole target then extension_faults steps chain target.url (extensions part) else [])
    ++ part_faults steps chain target part

-- the faults of a step whose target's model is this one: there is a part at the pointer, in the
-- model without its extension
abbrev pub model_faults : (Json → List ResolveFault) → Reference → Reference → Result Json PartFault → List ResolveFault
model_faults inside from target (Err fault) = fault_in target.url fault ∷ []
model_faults inside from target (Ok whole) = elim (part_of target.pointer whole) [ None ↦ fault_at MissingNode from ∷ [] | Some part ↦ inside part ]

-- The faults of a step: the library has the model, the target isn't in the chain, the substitution in the model has no
-- fault, and it has the part. Then come the faults inside.
abbrev pub step_faults : (Json → List ResolveFault) → Reference → List Reference → Reference → Option (Result Json PartFault) → List ResolveFault
step_faults inside from chain target None = fault_at MissingModel from ∷ []
step_faults inside from chain target (Some source) = if is_in_chain target chain then fault_at Circular from ∷ [] else model_faults inside from target source

-- The faults of a step, where the chain has room for n more targets. Beyond that room nothing is looked at, and the
-- expansion is too large.
abbrev pub faults_within : ℕ → Sources → Reference → List Reference → Reference → List ResolveFault
faults_within zero sources from chain target = step_faults (λ part. []) from chain target (source_named target.url sources)
faults_within (suc room) sources from chain target =
    step_faults (target_faults (record { value = value_within room sources; faults = faults_within room sources }) (chain ++ target ∷ []) target)
    from chain target (source_named target.url sources)
