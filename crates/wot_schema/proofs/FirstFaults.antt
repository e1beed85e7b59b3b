-- The first fault of faults that come part by part.
use Rattle.std.proofs.Common.{append-nil, ◌≡◌, ◌<◌, ◌+◌, ◌++◌, ℕ, List, [], ◌∷◌, length, get_or, drop, map, Option, Some, None, Result, Err, refl, sym, ap, subst, ◌∙◌}
use Rattle.std.specs.Prelude.{IfSome}
use Rattle.std.specs.List.{flat_map}
use Rattle.std.specs.Option.{option_map_or}
use Rattle.std.proofs.lemmas.List.{drop_more}
use Rattle.wot_json.specs.Tree.{Json, Members, elements_of, members_of}
use Rattle.wot_json.specs.Meaning.{json_of, json_items, json_members}
use Rattle.wot_json.specs.declared.tree.Tree.{Tree}
use Rattle.wot_json.specs.Lookup.{value_under}
use Rattle.wot_json.specs.Places.{step_text}
use Rattle.wot_schema.specs.declared.fault.SchemaFault.{SchemaFault}
use Rattle.wot_schema.specs.declared.fault.SchemaFault.TheVariants as schema_fault
use Rattle.wot_schema.specs.Checks.{FindsFirst}
use Rattle.wot_schema.specs.Faults.{Judge, fault_through, faults_in_member, faults_in_element, schema_faults, faults_of_list, faults_of_members, row_faults, table, table_faults, IsMet, AreRowsMet}
use Rattle.wot_schema.proofs.Steps.{rest_at}

abbrev Faults : Type 0
Faults = List SchemaFault

abbrev Outcome : Type 0
Outcome = Result (Unit {0}) SchemaFault

-- the finding of the first part is that of all
pub stops : (f g : Faults) (e : SchemaFault) → FindsFirst f (Err e) → FindsFirst (f ++ g) (Err e)
stops [] g schema_fault.NoMemory first = absurd cc
stops [] g (schema_fault.Malformed p) first = absurd cc
stops [] g (schema_fault.Unsupported p w) first = absurd cc
stops (x ∷ f) g schema_fault.NoMemory first = first
stops (x ∷ f) g (schema_fault.Malformed p) first = first
stops (x ∷ f) g (schema_fault.Unsupported p w) first = first

-- after a part with no fault comes what is found of the others
pub goes_on : (f g : Faults) (e : SchemaFault) → f ≡ [] → FindsFirst g (Err e) → FindsFirst (f ++ g) (Err e)
goes_on f g e none first = subst (λ fs. FindsFirst (fs ++ g) (Err e)) (sym none) first

-- ---- through a step

-- a step that ends where the rest begins
pub through_step : (step token : List ℕ) (fs : Faults) (r : Outcome) → step ≡ token ++ [] → FindsFirst (map (fault_through step) fs) r → FindsFirst (map (fault_through token) fs) r
through_step step token fs r is found = subst (λ s. FindsFirst (map (fault_through s) fs) r) (is ∙ append-nil token) found

-- ---- rows, elements and members

-- a member with its row's faults, seen from the object
pub member_there : (name : List ℕ) (J : Judge) (ms : Members) (s : Json) (r : Outcome) → Some s ≡ value_under name ms → FindsFirst (faults_in_member name (J s)) r → FindsFirst (row_faults ms (name, J)) r
member_there name J ms s r is found = subst (λ o. FindsFirst (faults_in_member name (option_map_or J o [])) r) is found

-- of rows, the first fault of the first row that has one is the first of all
pub row_stops : {B : Type 0} (rows : List B) (row : B → List ℕ × Judge) (i : ℕ) (b : B) (ms : Members) (fs : Faults) (e : SchemaFault) → i < length rows →
    fs ≡ flat_map (row_faults ms) (map row (drop i rows)) → FindsFirst (row_faults ms (row (get_or rows i b))) (Err e) → FindsFirst fs (Err e)
row_stops rows row i b ms fs e within left first =
    subst (λ gs. FindsFirst gs (Err e)) (sym (left ∙ ap (λ bs. flat_map (row_faults ms) (map row bs)) (drop_more rows i b within)))
    (stops (row_faults ms (row (get_or rows i b))) (flat_map (row_faults ms) (map row (drop (i + 1) rows))) e first)

pub element_stops : (fs : Faults) (ts : List Tree) (i : ℕ) (t : Tree) (e : SchemaFault) → i < length ts → t ≡ get_or ts i t →
    fs ≡ faults_of_list i (elements_of (json_items (drop i ts))) → FindsFirst (faults_in_element i (schema_faults (json_of t))) (Err e) → FindsFirst fs (Err e)
element_stops fs ts i t e within is left first =
    subst (λ gs. FindsFirst gs (Err e)) (sym (left ∙ ap (λ us. faults_of_list i (elements_of (json_items us))) (rest_at ts i t within is)))
    (stops (faults_in_element i (schema_faults (json_of t))) (faults_of_list (i + 1) (elements_of (json_items (drop (i + 1) ts)))) e first)

pub element_passed : (fs : Faults) (ts : List Tree) (i : ℕ) (t : Tree) → i < length ts → t ≡ get_or ts i t →
    fs ≡ faults_of_list i (elements_of (json_items (drop i ts))) → faults_in_element i (schema_faults (json_of t)) ≡ [] → fs ≡ faults_of_list (i + 1) (elements_of (json_items (drop (i + 1) ts)))
element_passed fs ts i t within is left none =
    left ∙ ap (λ us. faults_of_list i (elements_of (json_items us))) (rest_at ts i t within is) ∙ ap (λ gs. gs ++ faults_of_list (i + 1) (elements_of (json_items (drop (i + 1) ts)))) none

pub named_stops : (fs : Faults) (ts : List (List ℕ × Tree)) (i : ℕ) (t : List ℕ × Tree) (name : List ℕ) (e : SchemaFault) → i < length ts → t ≡ get_or ts i t → name ≡ t.0 →
    fs ≡ faults_of_members (members_of (json_members (drop i ts))) → FindsFirst (faults_in_member name (schema_faults (json_of t.1))) (Err e) → FindsFirst fs (Err e)
named_stops fs ts i t name e within is named left first =
    subst (λ gs. FindsFirst gs (Err e)) (sym (left ∙ ap (λ us. faults_of_members (members_of (json_members us))) (rest_at ts i t within is)))
    (stops (faults_in_member t.0 (schema_faults (json_of t.1))) (faults_of_members (members_of (json_members (drop (i + 1) ts)))) e
    (subst (λ n. FindsFirst (faults_in_member n (schema_faults (json_of t.1))) (Err e)) named first))

pub named_passed : (fs : Faults) (ts : List (List ℕ × Tree)) (i : ℕ) (t : List ℕ × Tree) (name : List ℕ) → i < length ts → t ≡ get_or ts i t → name ≡ t.0 →
    fs ≡ faults_of_members (members_of (json_members (drop i ts))) → faults_in_member name (schema_faults (json_of t.1)) ≡ [] → fs ≡ faults_of_members (members_of (json_members (drop (i + 1) ts)))
named_passed fs ts i t name within is named left none =
    left ∙ ap (λ us. faults_of_members (members_of (json_members us))) (rest_at ts i t within is)
    ∙ ap (λ gs. gs ++ faults_of_members (members_of (json_members (drop (i + 1) ts)))) (ap (λ n. faults_in_member n (schema_faults (json_of t.1))) (sym named) ∙ none)

-- ---- schemas without a fault

first_none : (f g : Faults) → f ++ g ≡ [] → f ≡ []
first_none [] g none = refl
first_none (x ∷ f) g none = absurd cc

rest_none : (f g : Faults) → f ++ g ≡ [] → g ≡ []
rest_none [] g none = none
rest_none (x ∷ f) g none = absurd cc

-- two parts have no fault
pub parts_none : (f g : Faults) → f ++ g ≡ [] → (f ≡ []) × (g ≡ [])
parts_none f g none = (first_none f g none, rest_none f g none)

-- faults that are none through a step are none
pub none_through : (step : List ℕ) (fs : Faults) → map (fault_through step) fs ≡ [] → fs ≡ []
none_through step [] none = refl
none_through step (f ∷ fs) none = absurd cc

-- a row without a fault is met
row_met : (ms : Members) (name : List ℕ) (J : Judge) → row_faults ms (name, J) ≡ [] → IsMet ms (name, J)
row_met ms name J none = of_option (value_under name ms) J (none_through (step_text name) (option_map_or J (value_under name ms) []) none)
  where
    of_option : (o : Option Json) (J : Judge) → option_map_or J o [] ≡ [] → IfSome o (λ s. J s ≡ [])
    of_option None J none = tt
    of_option (Some s) J none = none

-- each of these rows is met
abbrev AllMet : Members → List (List ℕ × Judge) → Type 0
AllMet ms [] = Unit {0}
AllMet ms (row ∷ rows) = IsMet ms row × AllMet ms rows

all_met : (ms : Members) (rows : List (List ℕ × Judge)) → flat_map (row_faults ms) rows ≡ [] → AllMet ms rows
all_met ms [] none = tt
all_met ms (row ∷ rows) none =
    let parts = parts_none (row_faults ms row) (flat_map (row_faults ms) rows) none in
    (row_met ms row.0 row.1 parts.0, all_met ms rows parts.1)

pub table_met : (ms : Members) → table_faults ms ≡ [] → AreRowsMet ms
table_met ms none =
    let all : AllMet ms table = all_met ms table none in record {
      type = all.1.1.1.0;
      choice = all.1.1.1.1.1.0;
      minimum = all.1.1.1.1.1.1.1.0;
      maximum = all.1.1.1.1.1.1.1.1.0;
      exclusive_minimum = all.1.1.1.1.1.1.1.1.1.0;
      exclusive_maximum = all.1.1.1.1.1.1.1.1.1.1.0;
      multiple_of = all.1.1.1.1.1.1.1.1.1.1.1.0;
      min_length = all.1.1.1.1.1.1.1.1.1.1.1.1.0;
      max_length = all.1.1.1.1.1.1.1.1.1.1.1.1.1.0;
      min_items = all.1.1.1.1.1.1.1.1.1.1.1.1.1.1.1.0;
      max_items = all.1.1.1.1.1.1.1.1.1.1.1.1.1.1.1.1.0;
      required = all.1.1.1.1.1.1.1.1.1.1.1.1.1.1.1.1.1.1.0;
    }
