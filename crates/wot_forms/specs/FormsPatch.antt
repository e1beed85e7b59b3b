-- The merge patch (RFC 7396) that puts generated forms into a description.
use Rattle.std.specs.Prelude.{ℕ, List, [], ◌∷◌, ◌++◌, Option, Some, codes, ⊤}
use Rattle.std.specs.List.{flat_map}
use Rattle.wot_json.specs.Tree.{Json, null, object, array, Members, elements_of, members_of, AreOrdered}
use Rattle.wot_json.specs.Lookup.{member_list, value_under}
use Rattle.wot_terms.specs.declared.kind.Kind.{Kind}
use Rattle.wot_terms.specs.declared.kind.Kind.TheVariants as kind
use Rattle.wot_terms.specs.Faults.{holder}
use Rattle.wot_forms.specs.declared.bases.Bases.{Bases}
use Rattle.wot_forms.specs.Generated.{generated_forms, generated_root_forms}

-- an object that has these forms alone
abbrev pub forms_alone : List Json → Json
forms_alone forms = object (members_of ((codes "forms", array (elements_of forms)) ∷ []))

-- the patch of a value under the name of an affordance of a kind: none where it is no object
abbrev pub affordance_patch : Bases → List ℕ → Kind → List ℕ → Json → List (List ℕ × Json)
affordance_patch bases segment k name (object ms) = (name, forms_alone (generated_forms bases segment k name (object ms))) ∷ []
affordance_patch bases segment k name v = []

-- the patch of all affordances of a kind
abbrev pub affordances_patch : Bases → List ℕ → Kind → List (List ℕ × Json) → List (List ℕ × Json)
affordances_patch bases segment k affordances = flat_map (λ m. affordance_patch bases segment k m.0 m.1) affordances

-- the patch of the member of a description for a kind: none where it is no object
abbrev pub holder_patch : Bases → List ℕ → Kind → Option Json → List (List ℕ × Json)
holder_patch bases segment k (Some (object affordances)) =
    (holder k, object (members_of (affordances_patch bases segment k (member_list affordances)))) ∷ []
holder_patch bases segment k held = []

-- the patch of the description as a whole, from its properties: its forms, or null, which takes them away
abbrev pub root_patch : Bases → List ℕ → Option Json → Json
root_patch bases segment (Some (object properties)) = array (elements_of (generated_root_forms bases segment (member_list properties)))
root_patch bases segment held = null

-- the members of the whole patch, in byte order of their names
abbrev pub forms_patch : Bases → List ℕ → Members → List (List ℕ × Json)
forms_patch bases segment ms =
    holder_patch bases segment kind.Action (value_under (holder kind.Action) ms) ++
    (holder_patch bases segment kind.Event (value_under (holder kind.Event) ms) ++
    ((codes "forms", root_patch bases segment (value_under (holder kind.Property) ms)) ∷
    holder_patch bases segment kind.Property (value_under (holder kind.Property) ms)))

-- where the value is an object, the names of its members are in byte order, each once
abbrev pub IsOrderedWithin : Option Json → Type 0
IsOrderedWithin (Some (object ms)) = AreOrdered (member_list ms)
IsOrderedWithin held = ⊤
