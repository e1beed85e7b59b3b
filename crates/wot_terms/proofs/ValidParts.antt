-- Conclusions on the parts of a valid description.
use Rattle.std.proofs.Common.{◌≡◌, ◌<◌, ◌+◌, ◌++◌, ℕ, List, [], ◌∷◌, length, get_or, drop, map, codes, true, false, Option, Some, None, IfSome, refl, subst, if◌then◌else◌}
use Rattle.std.specs.Prelude.{◌==◌}
use Rattle.std.specs.List.{flat_map}
use Rattle.std.specs.Option.{option_map_or}
use Rattle.wot_json.specs.Tree.{Json, null, boolean, integer, string, array, object, Members, no_members, member, members_of}
use Rattle.wot_json.specs.Meaning.{json_of, json_members}
use Rattle.wot_json.specs.declared.tree.Tree.{Tree}
use Rattle.wot_json.specs.Lookup.{value_under}
use Rattle.wot_schema.specs.Faults.{schema_faults}
use Rattle.wot_schema.proofs.Steps.{rest_at}
use Rattle.wot_terms.specs.declared.kind.Kind.{Kind}
use Rattle.wot_terms.specs.declared.kind.Kind.TheVariants as kind
use Rattle.wot_terms.specs.Faults.{Places, MembersJudge, in_member, holder, optional_member, each_member, object_with, if_object, any_object, affordances, affordance_maps, affordances_of, each_affordance, affordance_schemas, schema, pointer_of, row_faults, table, faults_of}
use Rattle.wot_terms.specs.Rows.{places_in, row_places}
use Rattle.wot_terms.specs.Schemas.{IsSchema, HasSchemas, HaveSchemas, HoldsSchemas, HoldSchemas}

none_left : {A : Type 0} (xs ys : List A) → xs ++ ys ≡ [] → xs ≡ []
none_left [] ys none = refl
none_left (x ∷ xs) ys none = absurd cc

none_right : {A : Type 0} (xs ys : List A) → xs ++ ys ≡ [] → ys ≡ []
none_right [] ys none = none
none_right (x ∷ xs) ys none = absurd cc

pub none_of : {A B : Type 0} (f : A → B) (xs : List A) → map f xs ≡ [] → xs ≡ []
none_of f [] none = refl
none_of f (x ∷ xs) none = absurd cc

rows_none : (k : ℕ) (rows : List (ℕ × Places)) → flat_map row_faults rows ≡ [] → places_in k rows ≡ []
rows_none k [] none = refl
rows_none k (row ∷ rows) none =
    elim (k == row.0) as (λ b. (if b then row.1 else places_in k rows) ≡ []) [
      | true ↦ none_of (λ p. (row.0, p)) row.1 (none_left (row_faults row) (flat_map row_faults rows) none)
      | false ↦ rows_none k rows (none_right (row_faults row) (flat_map row_faults rows) none)
    ]

valid_row : (ms : Members) (k : ℕ) → faults_of (object ms) ≡ [] → row_places k ms ≡ []
valid_row ms k none = rows_none k (table ms) none

each_none : (asked : Kind → MembersJudge) (ms : Members) (k : Kind) → each_affordance asked ms ≡ [] → affordances_of asked k ms ≡ []
each_none asked ms kind.Action none = none_left (affordances_of asked kind.Action ms) (affordances_of asked kind.Event ms ++ affordances_of asked kind.Property ms) none
each_none asked ms kind.Event none =
    none_left (affordances_of asked kind.Event ms) (affordances_of asked kind.Property ms)
    (none_right (affordances_of asked kind.Action ms) (affordances_of asked kind.Event ms ++ affordances_of asked kind.Property ms) none)
each_none asked ms kind.Property none =
    none_right (affordances_of asked kind.Event ms) (affordances_of asked kind.Property ms)
    (none_right (affordances_of asked kind.Action ms) (affordances_of asked kind.Event ms ++ affordances_of asked kind.Property ms) none)

maps_none : (ms : Members) (k : Kind) → affordance_maps ms ≡ [] → affordances k ms ≡ []
maps_none ms kind.Action none = none_left (affordances kind.Action ms) (affordances kind.Event ms ++ affordances kind.Property ms) none
maps_none ms kind.Event none =
    none_left (affordances kind.Event ms) (affordances kind.Property ms)
    (none_right (affordances kind.Action ms) (affordances kind.Event ms ++ affordances kind.Property ms) none)
maps_none ms kind.Property none =
    none_right (affordances kind.Event ms) (affordances kind.Property ms)
    (none_right (affordances kind.Action ms) (affordances kind.Event ms ++ affordances kind.Property ms) none)

is_schema : (v : Json) → schema v ≡ [] → IsSchema v
is_schema v none = none_of pointer_of (schema_faults v) none

part_schema : (name : List ℕ) (o : Option Json) → in_member name (option_map_or schema o []) ≡ [] → IfSome o IsSchema
part_schema name None none = tt
part_schema name (Some v) none = is_schema v (none_of _ (schema v) none)

member_schema : (name : List ℕ) (ms : Members) → optional_member name schema ms ≡ [] → IfSome (value_under name ms) IsSchema
member_schema name ms none = part_schema name (value_under name ms) none

of_object : (k : Kind) (ms : Members) → affordance_schemas k ms ≡ [] → HasSchemas k (object ms)
of_object kind.Property ms none = (is_schema (object ms) none, is_schema (object ms) none)
of_object kind.Action ms none = (
  member_schema (codes "input") ms (none_left (optional_member (codes "input") schema ms) (optional_member (codes "output") schema ms ++ []) none),
  member_schema (codes "output") ms (none_left (optional_member (codes "output") schema ms) [] (none_right (optional_member (codes "input") schema ms) (optional_member (codes "output") schema ms ++ []) none)),
)
of_object kind.Event ms none =
    let later : List (List ℕ) = optional_member (codes "data") schema ms ++ (optional_member (codes "subscription") schema ms ++ []) in (
      tt,
      member_schema (codes "data") ms (none_left (optional_member (codes "data") schema ms) (optional_member (codes "subscription") schema ms ++ []) (none_right (optional_member (codes "cancellation") schema ms) later none)),
    )

of_value : (k : Kind) (v : Json) → any_object v ≡ [] → if_object (affordance_schemas k) v ≡ [] → HasSchemas k v
of_value k null is none = absurd cc
of_value k (boolean b) is none = absurd cc
of_value k (integer n) is none = absurd cc
of_value k (string s) is none = absurd cc
of_value k (array es) is none = absurd cc
of_value k (object ms) is none = of_object k ms none

of_members : (k : Kind) (ms : Members) → each_member any_object ms ≡ [] → each_member (if_object (affordance_schemas k)) ms ≡ [] → HaveSchemas k ms
of_members k no_members are none = tt
of_members k (member name v ms) are none = (
  of_value k v
      (none_of _ (any_object v) (none_left (in_member name (any_object v)) (each_member any_object ms) are))
      (none_of _ (if_object (affordance_schemas k) v) (none_left (in_member name (if_object (affordance_schemas k) v)) (each_member (if_object (affordance_schemas k)) ms) none)),
  of_members k ms
      (none_right (in_member name (any_object v)) (each_member any_object ms) are)
      (none_right (in_member name (if_object (affordance_schemas k) v)) (each_member (if_object (affordance_schemas k)) ms) none),
)

of_holder : (k : Kind) (v : Json) → object_with (each_member any_object) v ≡ [] → if_object (each_member (if_object (affordance_schemas k))) v ≡ [] → HoldsSchemas k v
of_holder k null are none = tt
of_holder k (boolean b) are none = tt
of_holder k (integer n) are none = tt
of_holder k (string s) are none = tt
of_holder k (array es) are none = tt
of_holder k (object ms) are none = of_members k ms are none

of_found : (k : Kind) (o : Option Json) → in_member (holder k) (option_map_or (object_with (each_member any_object)) o []) ≡ [] →
    in_member (holder k) (option_map_or (if_object (each_member (if_object (affordance_schemas k)))) o []) ≡ [] → IfSome o (HoldsSchemas k)
of_found k None are none = tt
of_found k (Some v) are none = of_holder k v (none_of _ (object_with (each_member any_object) v) are) (none_of _ (if_object (each_member (if_object (affordance_schemas k))) v) none)

-- in a valid description each affordance has schemas without a fault
pub valid_schemas : (ms : Members) (k : Kind) → faults_of (object ms) ≡ [] → HoldSchemas k ms
valid_schemas ms k none = of_found k (value_under (holder k) ms) (maps_none ms k (valid_row ms 9 none)) (each_none affordance_schemas ms k (valid_row ms 16 none))

-- the affordances that are left, from one of them on
pub schemas_left : (k : Kind) (ts : List (List ℕ × Tree)) (i : ℕ) (t : List ℕ × Tree) → i < length ts → t ≡ get_or ts i t →
    HaveSchemas k (members_of (json_members (drop i ts))) → HasSchemas k (json_of t.1) × HaveSchemas k (members_of (json_members (drop (i + 1) ts)))
schemas_left k ts i t within is have = subst (λ us. HaveSchemas k (members_of (json_members us))) (rest_at ts i t within is) have
