-- The affordances of a valid description are objects.
use Rattle.std.proofs.Common.{◌≡◌, ℕ, true, false, List, [], ◌∷◌, ◌++◌, Option, Some, None, refl}
use Rattle.std.specs.Prelude.{◌==◌, if◌then◌else◌}
use Rattle.std.specs.List.{AllByRecursion, flat_map}
use Rattle.std.specs.Option.{option_map_or}
use Rattle.wot_json.specs.Tree.{Json, null, boolean, integer, string, array, object, Members, no_members, member}
use Rattle.wot_json.specs.Lookup.{member_list, value_under}
use Rattle.wot_terms.specs.declared.kind.Kind.{Kind}
use Rattle.wot_terms.specs.declared.kind.Kind.TheVariants as kind
use Rattle.wot_terms.specs.Faults.{holder, in_member, each_member, any_object, object_with, affordances, affordance_maps, Places, table, row_faults, faults_of}
use Rattle.wot_terms.specs.Rows.{places_in}
use Rattle.wot_terms.proofs.ValidParts.{none_of}
use Rattle.wot_forms.specs.Generated.{is_object}
use Rattle.description_laws.proofs.Members.{Field}
use Rattle.description_laws.proofs.OneThing.{members_for}

none_left : {A : Type 0} (xs ys : List A) → xs ++ ys ≡ [] → xs ≡ []
none_left [] ys none = refl
none_left (x ∷ xs) ys none = absurd cc

none_right : {A : Type 0} (xs ys : List A) → xs ++ ys ≡ [] → ys ≡ []
none_right [] ys none = none
none_right (x ∷ xs) ys none = absurd cc

rows_none : (k : ℕ) (rows : List (ℕ × Places)) → flat_map row_faults rows ≡ [] → places_in k rows ≡ []
rows_none k [] none = refl
rows_none k (row ∷ rows) none =
    elim (k == row.0) as (λ b. (if b then row.1 else places_in k rows) ≡ []) [
      | true ↦ none_of (λ p. (row.0, p)) row.1 (none_left (row_faults row) (flat_map row_faults rows) none)
      | false ↦ rows_none k rows (none_right (row_faults row) (flat_map row_faults rows) none)
    ]

maps : (ms : Members) → faults_of (object ms) ≡ [] → affordance_maps ms ≡ []
maps ms none = rows_none 9 (table ms) none

of_kind : (k : Kind) (ms : Members) → affordance_maps ms ≡ [] → affordances k ms ≡ []
of_kind kind.Action ms none = none_left (affordances kind.Action ms) (affordances kind.Event ms ++ affordances kind.Property ms) none
of_kind kind.Event ms none =
    none_left (affordances kind.Event ms) (affordances kind.Property ms)
    (none_right (affordances kind.Action ms) (affordances kind.Event ms ++ affordances kind.Property ms) none)
of_kind kind.Property ms none =
    none_right (affordances kind.Event ms) (affordances kind.Property ms)
    (none_right (affordances kind.Action ms) (affordances kind.Event ms ++ affordances kind.Property ms) none)

abbrev pub IsObjectField : Field → Type 0
IsObjectField m = is_object m.1 ≡ true

one : (v : Json) → any_object v ≡ [] → is_object v ≡ true
one (object ms) none = refl
one null none = absurd cc
one (boolean b) none = absurd cc
one (integer z) none = absurd cc
one (string s) none = absurd cc
one (array es) none = absurd cc

all : (ms : Members) → each_member any_object ms ≡ [] → AllByRecursion IsObjectField (member_list ms)
all no_members none = tt
all (member name v ms) none = (
  one v (none_of _ (any_object v) (none_left (in_member name (any_object v)) (each_member any_object ms) none)),
  all ms (none_right (in_member name (any_object v)) (each_member any_object ms) none),
)

held : (k : Kind) (o : Option Json) → in_member (holder k) (option_map_or (object_with (each_member any_object)) o []) ≡ [] → AllByRecursion IsObjectField (member_list (members_for o))
held k (Some (object ms)) none = all ms (none_of _ (each_member any_object ms) none)
held k (Some null) none = tt
held k (Some (boolean b)) none = tt
held k (Some (integer z)) none = tt
held k (Some (string s)) none = tt
held k (Some (array es)) none = tt
held k None none = tt

pub are_objects : (ms : Members) (k : Kind) → faults_of (object ms) ≡ [] → AllByRecursion IsObjectField (member_list (members_for (value_under (holder k) ms)))
are_objects ms k none = held k (value_under (holder k) ms) (of_kind k ms (maps ms none))
