-- The faults of a schema are at places of the schema.
use Rattle.std.proofs.Common.{◌≡◌, ◌+◌, ◌++◌, inl, ℕ, zero, suc, pos, negsuc, List, [], ◌∷◌, map, Bool, true, false, Option, Some, None, refl, sym, ap, subst, ◌∙◌, arith, codes, if◌then◌else◌, append_assoc}
use Rattle.std.specs.Prelude.{option_and_then}
use Rattle.std.specs.List.{flat_map, list_any}
use Rattle.std.specs.Option.{option_map_or}
use Rattle.std.specs.Str.{bytes_eq}
use Rattle.std.proofs.lemmas.Slice.Eq.{bytes_eq-Decides}
use Rattle.wot_json.specs.Tree.{Json, null, boolean, integer, string, array, object, Elements, no_elements, element, Members, no_members, member, AreOrdered}
use Rattle.wot_json.specs.Lookup.{value_under, member_list}
use Rattle.wot_json.specs.WellFormed.{IsWellFormed, ElementsAreWellFormed, MembersAreWellFormed}
use Rattle.wot_schema.specs.declared.fault.SchemaFault.{SchemaFault}
use Rattle.wot_schema.specs.declared.fault.SchemaFault.TheVariants.{Unsupported, Malformed, NoMemory}
use Rattle.wot_schema.specs.Acceptance.{Holder, one_of, items, properties, name_of}
use Rattle.wot_schema.specs.Faults.{Judge, fault_through, faults_in_member, faults_in_element, wrong_form, nothing, type_names, type_name, any_value, list_with_element, whole_number, number_above_zero, count, object_or_list, are_texts, list_of_texts, any_object, table, row_faults, table_faults, schema_faults, faults_within, faults_below, faults_of_list, faults_of_members}
use Rattle.wot_terms.specs.Faults.{pointer_of, schema}
use Rattle.wot_terms.specs.Order.{Step, to_member, to_element, Path, step_pointer, pointer_along, element_of, part_through, value_along, IsPointerIn, Each}
use Rattle.wot_terms.proofs.PlaceOrder.{each_append, each_weaker, each_map, further_place, rest_ordered, names_after, other_name}

abbrev pub IsFaultIn : Json → SchemaFault → Type 0
IsFaultIn v f = IsPointerIn v (pointer_of f)

at_value : (v : Json) → IsPointerIn v []
at_value v = ([], refl, inl refl)

further_pointer : (s : Step) (v w : Json) (q : List ℕ) → part_through s v ≡ Some w → IsPointerIn w q → IsPointerIn v (step_pointer s ++ q)
further_pointer s v w q is p = (s ∷ p.0, ap (λ r. step_pointer s ++ r) p.1, further_place s v w p.0 is p.2)

-- a pointer from the end of a path is one from its beginning
pub pointer_from : (path : Path) (v w : Json) (q : List ℕ) → value_along path v ≡ Some w → IsPointerIn w q → IsPointerIn v (pointer_along path ++ q)
pointer_from [] v w q is p = let same : w ≡ v = cc in subst (λ x. IsPointerIn x q) same p
pointer_from (s ∷ path) v w q is p = go (part_through s v) refl is (λ u along. pointer_from path u w q along p)
  where
    go : (o : Option Json) → part_through s v ≡ o → option_and_then (value_along path) o ≡ Some w → ((u : Json) → value_along path u ≡ Some w → IsPointerIn u (pointer_along path ++ q)) →
        IsPointerIn v ((step_pointer s ++ pointer_along path) ++ q)
    go None part some further = absurd cc
    go (Some u) part some further =
        subst (λ r. IsPointerIn v r) (sym (append_assoc (step_pointer s) (pointer_along path) q)) (further_pointer s v u (pointer_along path ++ q) part (further u some))

fault_from : (s : Step) (v w : Json) (f : SchemaFault) → part_through s v ≡ Some w → IsFaultIn w f → IsFaultIn v (fault_through (step_pointer s) f)
fault_from s v w (Unsupported p word) is at = further_pointer s v w p is at
fault_from s v w (Malformed p) is at = further_pointer s v w p is at
fault_from s v w NoMemory is at = at_value v

faults_from : (s : Step) (v w : Json) (fs : List SchemaFault) → part_through s v ≡ Some w → Each (IsFaultIn w) fs → Each (IsFaultIn v) (map (fault_through (step_pointer s)) fs)
faults_from s v w fs is all =
    each_map (fault_through (step_pointer s)) (IsFaultIn v) fs (each_weaker (IsFaultIn w) (λ f. IsFaultIn v (fault_through (step_pointer s) f)) fs (λ f. fault_from s v w f is) all)

-- ## The table

-- the fault is at the value itself
abbrev IsAtValue : SchemaFault → Type 0
IsAtValue f = pointer_of f ≡ []

abbrev JudgesValue : Judge → Type 0
JudgesValue J = (s : Json) → Each IsAtValue (J s)

of_nothing : (name : List ℕ) → JudgesValue (nothing name)
of_nothing name s = (refl, tt)

choice : (b : Bool) (xs ys : List SchemaFault) → Each IsAtValue xs → Each IsAtValue ys → Each IsAtValue (if b then xs else ys)
choice true xs ys a b = a
choice false xs ys a b = b

of_type_name : JudgesValue type_name
of_type_name (string t) =
    choice (bytes_eq t (codes "number")) (Unsupported [] t ∷ []) (if list_any (bytes_eq t) type_names then [] else wrong_form) (refl, tt)
    (choice (list_any (bytes_eq t) type_names) [] wrong_form tt (refl, tt))
of_type_name null = (refl, tt)
of_type_name (boolean b) = (refl, tt)
of_type_name (integer n) = (refl, tt)
of_type_name (array es) = (refl, tt)
of_type_name (object ms) = (refl, tt)

of_any_value : JudgesValue any_value
of_any_value s = tt

of_list_with_element : JudgesValue list_with_element
of_list_with_element (array (element s ss)) = tt
of_list_with_element (array no_elements) = (refl, tt)
of_list_with_element null = (refl, tt)
of_list_with_element (boolean b) = (refl, tt)
of_list_with_element (integer n) = (refl, tt)
of_list_with_element (string t) = (refl, tt)
of_list_with_element (object ms) = (refl, tt)

of_whole_number : JudgesValue whole_number
of_whole_number (integer n) = tt
of_whole_number null = (refl, tt)
of_whole_number (boolean b) = (refl, tt)
of_whole_number (string t) = (refl, tt)
of_whole_number (array es) = (refl, tt)
of_whole_number (object ms) = (refl, tt)

of_number_above_zero : JudgesValue number_above_zero
of_number_above_zero (integer (pos (suc n))) = tt
of_number_above_zero (integer (pos zero)) = (refl, tt)
of_number_above_zero (integer (negsuc n)) = (refl, tt)
of_number_above_zero null = (refl, tt)
of_number_above_zero (boolean b) = (refl, tt)
of_number_above_zero (string t) = (refl, tt)
of_number_above_zero (array es) = (refl, tt)
of_number_above_zero (object ms) = (refl, tt)

of_count : JudgesValue count
of_count (integer (pos n)) = tt
of_count (integer (negsuc n)) = (refl, tt)
of_count null = (refl, tt)
of_count (boolean b) = (refl, tt)
of_count (string t) = (refl, tt)
of_count (array es) = (refl, tt)
of_count (object ms) = (refl, tt)

of_object_or_list : JudgesValue object_or_list
of_object_or_list (object ms) = tt
of_object_or_list (array es) = tt
of_object_or_list null = (refl, tt)
of_object_or_list (boolean b) = (refl, tt)
of_object_or_list (integer n) = (refl, tt)
of_object_or_list (string t) = (refl, tt)

of_list_of_texts : JudgesValue list_of_texts
of_list_of_texts (array ss) = choice (are_texts ss) [] wrong_form tt (refl, tt)
of_list_of_texts null = (refl, tt)
of_list_of_texts (boolean b) = (refl, tt)
of_list_of_texts (integer n) = (refl, tt)
of_list_of_texts (string t) = (refl, tt)
of_list_of_texts (object ms) = (refl, tt)

of_any_object : JudgesValue any_object
of_any_object (object ms) = tt
of_any_object null = (refl, tt)
of_any_object (boolean b) = (refl, tt)
of_any_object (integer n) = (refl, tt)
of_any_object (string t) = (refl, tt)
of_any_object (array es) = (refl, tt)

of_row : (ms : Members) (row : List ℕ × Judge) → JudgesValue row.1 → Each (IsFaultIn (object ms)) (row_faults ms row)
of_row ms row judges = go (value_under row.0 ms) refl
  where
    go : (o : Option Json) → value_under row.0 ms ≡ o → Each (IsFaultIn (object ms)) (faults_in_member row.0 (option_map_or row.1 o []))
    go None is = tt
    go (Some s) is =
        faults_from (to_member row.0) (object ms) s (row.1 s) is (each_weaker IsAtValue (IsFaultIn s) (row.1 s) (λ f at. subst (λ p. IsPointerIn s p) (sym at) (at_value s)) (judges s))

of_rows : (ms : Members) (rows : List (List ℕ × Judge)) → Each (λ (row : List ℕ × Judge). JudgesValue row.1) rows → Each (IsFaultIn (object ms)) (flat_map (row_faults ms) rows)
of_rows ms [] judge = tt
of_rows ms (row ∷ rows) judge = each_append (IsFaultIn (object ms)) (row_faults ms row) (flat_map (row_faults ms) rows) (of_row ms row judge.0) (of_rows ms rows judge.1)

of_table : (ms : Members) → Each (IsFaultIn (object ms)) (table_faults ms)
of_table ms = of_rows ms table (
  of_nothing (codes "pattern"),
  (
    of_nothing (codes "contentEncoding"),
    (
      of_nothing (codes "contentMediaType"),
      (
        of_type_name,
        (
          of_any_value,
          (
            of_list_with_element,
            (
              of_list_with_element,
              (
                of_whole_number,
                (
                  of_whole_number,
                  (
                    of_whole_number,
                    (
                      of_whole_number,
                      (
                        of_number_above_zero,
                        (
                          of_count,
                          (
                            of_count,
                            (
                              of_object_or_list,
                              (
                                of_count,
                                (
                                  of_count,
                                  (
                                    of_any_object,
                                    (
                                      of_list_of_texts,
                                      tt,
                                    ),
                                  ),
                                ),
                              ),
                            ),
                          ),
                        ),
                      ),
                    ),
                  ),
                ),
              ),
            ),
          ),
        ),
      ),
    ),
  ),
)

-- ## Schemas

of_object : (ms : Members) → ((h : Holder) → Each (IsFaultIn (object ms)) (faults_within h ms)) → Each (IsFaultIn (object ms)) (schema_faults (object ms))
of_object ms within =
    each_append (IsFaultIn (object ms)) (table_faults ms) (faults_within one_of ms ++ (faults_within items ms ++ faults_within properties ms)) (of_table ms)
    (each_append (IsFaultIn (object ms)) (faults_within one_of ms) (faults_within items ms ++ faults_within properties ms) (within one_of)
    (each_append (IsFaultIn (object ms)) (faults_within items ms) (faults_within properties ms) (within items) (within properties)))

of_holder : (h : Holder) (n : List ℕ) (s : Json) (ms all : Members) → value_under (name_of h) all ≡ value_under (name_of h) (member n s ms) → Each (IsFaultIn s) (faults_below h s) →
    (value_under (name_of h) all ≡ value_under (name_of h) ms → Each (IsFaultIn (object all)) (faults_within h ms)) → Each (IsFaultIn (object all)) (faults_within h (member n s ms))
of_holder h n s ms all is below later = go (bytes_eq (name_of h) n) is
  where
    go : (b : Bool) → value_under (name_of h) all ≡ (if b then Some s else value_under (name_of h) ms) →
        Each (IsFaultIn (object all)) (if b then faults_in_member (name_of h) (faults_below h s) else faults_within h ms)
    go true here = faults_from (to_member (name_of h)) (object all) s (faults_below h s) here below
    go false there = later there

of_element : (v : Json) (es all : Elements) (i : ℕ) → ((k : ℕ) (w : Json) → element_of k (element v es) ≡ Some w → element_of (i + k) all ≡ Some w) → Each (IsFaultIn v) (schema_faults v) →
    Each (IsFaultIn (array all)) (faults_of_list (i + 1) es) → Each (IsFaultIn (array all)) (faults_of_list i (element v es))
of_element v es all i found first others =
    let here : i + 0 ≡ i = omega arith in
    each_append (IsFaultIn (array all)) (faults_in_element i (schema_faults v)) (faults_of_list (i + 1) es)
    (faults_from (to_element i) (array all) v (schema_faults v) (sym (ap (λ n. element_of n all) here) ∙ found 0 v refl) first) others

next_elements : (v : Json) (es all : Elements) (i : ℕ) → ((k : ℕ) (w : Json) → element_of k (element v es) ≡ Some w → element_of (i + k) all ≡ Some w) →
    (k : ℕ) (w : Json) → element_of k es ≡ Some w → element_of (i + 1 + k) all ≡ Some w
next_elements v es all i found k w is = let next : i + 1 + k ≡ i + suc k = omega arith in ap (λ n. element_of n all) next ∙ found (suc k) w is

all_elements : (es : Elements) (k : ℕ) (w : Json) → element_of k es ≡ Some w → element_of (0 + k) es ≡ Some w
all_elements es k w is = let same : 0 + k ≡ k = omega arith in ap (λ n. element_of n es) same ∙ is

of_member : (n : List ℕ) (s : Json) (ms all : Members) → ((m : List ℕ) (w : Json) → value_under m (member n s ms) ≡ Some w → value_under m all ≡ Some w) → Each (IsFaultIn s) (schema_faults s) →
    Each (IsFaultIn (object all)) (faults_of_members ms) → Each (IsFaultIn (object all)) (faults_of_members (member n s ms))
of_member n s ms all found first others =
    let itself : bytes_eq n n ≡ true = (bytes_eq-Decides n n).1 refl in
    each_append (IsFaultIn (object all)) (faults_in_member n (schema_faults s)) (faults_of_members ms)
    (faults_from (to_member n) (object all) s (schema_faults s) (found n s (ap (λ b. if b then Some s else value_under n ms) itself)) first) others

next_members : (n : List ℕ) (s : Json) (ms all : Members) → AreOrdered (member_list (member n s ms)) → ((m : List ℕ) (w : Json) → value_under m (member n s ms) ≡ Some w → value_under m all ≡ Some w) →
    (m : List ℕ) (w : Json) → value_under m ms ≡ Some w → value_under m all ≡ Some w
next_members n s ms all ordered found m w is =
    found m w (ap (λ b. if b then Some s else value_under m ms) (other_name n m ms w (names_after n s ms ordered) is) ∙ is)

mutual
  pub schema_faults_in : (v : Json) → IsWellFormed v → Each (IsFaultIn v) (schema_faults v)
  schema_faults_in null formed = (at_value null, tt)
  schema_faults_in (boolean b) formed = (at_value (boolean b), tt)
  schema_faults_in (integer n) formed = (at_value (integer n), tt)
  schema_faults_in (string t) formed = (at_value (string t), tt)
  schema_faults_in (array es) formed = (at_value (array es), tt)
  schema_faults_in (object ms) formed = of_object ms (λ h. within_in h ms ms formed.1 refl)

  within_in : (h : Holder) (ms all : Members) → MembersAreWellFormed ms → value_under (name_of h) all ≡ value_under (name_of h) ms → Each (IsFaultIn (object all)) (faults_within h ms)
  within_in h no_members all formed is = tt
  within_in h (member n s ms) all formed is = of_holder h n s ms all is (below_in h s formed.1) (λ later. within_in h ms all formed.2 later)

  below_in : (h : Holder) (s : Json) → IsWellFormed s → Each (IsFaultIn s) (faults_below h s)
  below_in one_of (array ss) formed = list_in ss ss 0 formed (all_elements ss)
  below_in one_of null formed = tt
  below_in one_of (boolean b) formed = tt
  below_in one_of (integer n) formed = tt
  below_in one_of (string t) formed = tt
  below_in one_of (object ms) formed = tt
  below_in items (array ss) formed = list_in ss ss 0 formed (all_elements ss)
  below_in items (object ms) formed = of_object ms (λ h. within_in h ms ms formed.1 refl)
  below_in items null formed = tt
  below_in items (boolean b) formed = tt
  below_in items (integer n) formed = tt
  below_in items (string t) formed = tt
  below_in properties (object ps) formed = members_in ps ps formed.0 formed.1 (λ n w is. is)
  below_in properties null formed = tt
  below_in properties (boolean b) formed = tt
  below_in properties (integer n) formed = tt
  below_in properties (string t) formed = tt
  below_in properties (array es) formed = tt

  list_in : (es all : Elements) (i : ℕ) → ElementsAreWellFormed es → ((k : ℕ) (w : Json) → element_of k es ≡ Some w → element_of (i + k) all ≡ Some w) → Each (IsFaultIn (array all)) (faults_of_list i es)
  list_in no_elements all i formed found = tt
  list_in (element v es) all i formed found =
      of_element v es all i found (schema_faults_in v formed.0) (list_in es all (i + 1) formed.1 (next_elements v es all i found))

  members_in : (ps all : Members) → AreOrdered (member_list ps) → MembersAreWellFormed ps → ((n : List ℕ) (w : Json) → value_under n ps ≡ Some w → value_under n all ≡ Some w) → Each (IsFaultIn (object all)) (faults_of_members ps)
  members_in no_members all ordered formed found = tt
  members_in (member n s ps) all ordered formed found =
      of_member n s ps all found (schema_faults_in s formed.1)
      (members_in ps all (rest_ordered (n, s) (member_list ps) ordered) formed.2 (next_members n s ps all ordered found))

-- the places of a schema's faults are in it
pub schema_places_in : (v : Json) → IsWellFormed v → Each (IsPointerIn v) (schema v)
schema_places_in v formed = each_map pointer_of (IsPointerIn v) (schema_faults v) (schema_faults_in v formed)
