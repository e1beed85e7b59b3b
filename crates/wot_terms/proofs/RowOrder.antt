-- The places of each row of the table come in preorder.
use Rattle.std.proofs.Common.{◌≡◌, ◌++◌, ◌⊎◌, inl, inr, ℕ, List, [], ◌∷◌, map, true, false, Option, Some, None, refl, sym, ap, subst, ◌∙◌, arith, codes, if◌then◌else◌}
use Rattle.std.specs.Prelude.{IsSome, option_and_then}
use Rattle.std.specs.List.{flat_map}
use Rattle.std.specs.Option.{option_map_or}
use Rattle.std.specs.Str.{bytes_eq}
use Rattle.std.proofs.lemmas.List.{append-nil}
use Rattle.wot_json.specs.Tree.{Json, null, boolean, integer, string, array, object, Members}
use Rattle.wot_json.specs.Texts.{has_text}
use Rattle.wot_json.specs.WellFormed.{IsWellFormed}
use Rattle.wot_terms.specs.declared.kind.Kind.{Kind}
use Rattle.wot_terms.specs.declared.kind.Kind.TheVariants as kind
use Rattle.wot_terms.specs.Operations.{is_operation}
use Rattle.wot_terms.specs.Faults.{Places, Judge, MembersJudge, here, holder, is, is_text, is_text_with, is_text_not_empty, is_boolean, text, anything, truth_value, any_object, each_member, each_element, required_member, optional_member, object_with, object_of_some, list_of, list_of_some, if_object, if_list, texts, affordances_of, each_affordance, forms_of, each_form, td_context, context, title, security_definitions, is_defined, security, id, base, thing_model, type_of_thing, types, affordances, affordance_maps, affordance_forms, root_forms, form_href, form_operations, form_text_names, form_texts, flag_names, affordance_flags, schema, schema_names, affordance_schemas, link, links, version, table}
use Rattle.wot_terms.specs.Order.{to_member, Path, pointer_along, value_along, IsPlace, IsPointerIn, ComesBefore, Each, AreInPreorder, ComeInPreorder, schema_places, SchemasComeInPreorder, IsInPreorder}
use Rattle.wot_terms.proofs.SchemaPlaces.{pointer_from, schema_places_in}
use Rattle.wot_terms.proofs.PlaceOrder.{each_append, each_map, further_place, Group, group_places, all_places, GroupsAreOrdered, each_weaker, AreGrouped, Any, BeginsAt, BeginsIn, BeginsFrom, Lifts, Says, weaker, none, one, joined_places, then_named, last_named, IsGood, IsGoodOfMembers, good_is, good_required, good_optional, good_optional_members, good_object_with, good_if_object, good_each_member, names, good_each_element, good_list_of, good_list_of_some, good_if_list, good_object_of_some, good_texts}

-- ## Affordances and forms

good_affordances_of : (L : Json → Path → Places → Type 0) → Lifts L → (asked : Kind → MembersJudge) (F : Path → Type 0) (k : Kind) → IsGoodOfMembers L F (asked k) → IsGoodOfMembers L (BeginsAt (to_member (holder k))) (affordances_of asked k)
good_affordances_of L lifts asked F k good ms formed =
    good_optional L lifts (holder k) (λ v. if_object (λ named. each_member (λ w. if_object (asked k) w) named) v)
    (λ v of_v. good_named v of_v) ms formed
  where
    good_named : IsGood L (if_object (each_member (if_object (asked k))))
    good_named v of_v =
        good_if_object L Any (each_member (if_object (asked k)))
        (λ ns of_ns. weaker L (BeginsIn (names ns)) Any (object ns) (each_member (if_object (asked k)) ns) (λ p b. tt)
        (good_each_member L lifts (if_object (asked k)) (good_if_object L F (asked k) good) ns of_ns)) v of_v

good_each_affordance : (L : Json → Path → Places → Type 0) → Lifts L → (asked : Kind → MembersJudge) → ((k : Kind) → IsGoodOfMembers L Any (asked k)) → (ms : Members) → IsWellFormed (object ms) → AreGrouped L Any (object ms) (each_affordance asked ms)
good_each_affordance L lifts asked good ms formed =
    let of_kind : (k : Kind) → AreGrouped L (BeginsAt (to_member (holder k))) (object ms) (affordances_of asked k ms) = λ k. good_affordances_of L lifts asked Any k (good k) ms formed in
    weaker L (BeginsIn (codes "actions" ∷ codes "events" ∷ codes "properties" ∷ [])) Any (object ms) (each_affordance asked ms) (λ p b. tt)
    (then_named L (codes "actions") (codes "events" ∷ codes "properties" ∷ []) (object ms) (affordances_of asked kind.Action ms) (affordances_of asked kind.Event ms ++ affordances_of asked kind.Property ms) (refl, (refl, tt)) (of_kind kind.Action)
    (then_named L (codes "events") (codes "properties" ∷ []) (object ms) (affordances_of asked kind.Event ms) (affordances_of asked kind.Property ms) (refl, tt) (of_kind kind.Event)
    (last_named L (codes "properties") (object ms) (affordances_of asked kind.Property ms) (of_kind kind.Property))))

good_forms_of : (L : Json → Path → Places → Type 0) → Lifts L → (asked : Option Kind → MembersJudge) (place : Option Kind) → IsGoodOfMembers L Any (asked place) → IsGoodOfMembers L (BeginsAt (to_member (codes "forms"))) (forms_of asked place)
good_forms_of L lifts asked place good ms formed =
    good_optional L lifts (codes "forms") (λ v. if_list (λ w. if_object (asked place) w) v)
    (λ v of_v. good_if_list L lifts (if_object (asked place)) (good_if_object L Any (asked place) good) v of_v) ms formed

good_each_form : (L : Json → Path → Places → Type 0) → Lifts L → (asked : Option Kind → MembersJudge) → ((place : Option Kind) → IsGoodOfMembers L Any (asked place)) → (ms : Members) → IsWellFormed (object ms) → AreGrouped L Any (object ms) (each_form asked ms)
good_each_form L lifts asked good ms formed =
    let of_kind : (k : Kind) → AreGrouped L (BeginsAt (to_member (holder k))) (object ms) (affordances_of (λ j. forms_of asked (Some j)) k ms) =
    λ k. good_affordances_of L lifts (λ j. forms_of asked (Some j)) (BeginsAt (to_member (codes "forms"))) k (good_forms_of L lifts asked (Some k) (good (Some k))) ms formed in
    let of_root = good_forms_of L lifts asked None (good None) ms formed in
    let actions = affordances_of (λ k. forms_of asked (Some k)) kind.Action ms in
    let events = affordances_of (λ k. forms_of asked (Some k)) kind.Event ms in
    let properties = affordances_of (λ k. forms_of asked (Some k)) kind.Property ms in
    let root = forms_of asked None ms in
    weaker L (BeginsIn (codes "actions" ∷ codes "events" ∷ codes "forms" ∷ codes "properties" ∷ [])) Any (object ms) (each_form asked ms) (λ p b. tt)
    (then_named L (codes "actions") (codes "events" ∷ codes "forms" ∷ codes "properties" ∷ []) (object ms) actions (events ++ (root ++ properties)) (refl, (refl, (refl, tt))) (of_kind kind.Action)
    (then_named L (codes "events") (codes "forms" ∷ codes "properties" ∷ []) (object ms) events (root ++ properties) (refl, (refl, tt)) (of_kind kind.Event)
    (then_named L (codes "forms") (codes "properties" ∷ []) (object ms) root properties (refl, tt) of_root
    (last_named L (codes "properties") (object ms) properties (of_kind kind.Property)))))

-- ## What is at the end of a path: a place of its own

abbrev OnePlace : Json → Path → Places → Type 0
OnePlace v p inside = (inside ≡ here) × IsPlace v p

one_place_lifts : Lifts OnePlace
one_place_lifts = record { step = λ s v w p inside is leaf. (leaf.0, further_place s v w p is leaf.1) }

one_place : Says OnePlace
one_place = record {
  lifts = one_place_lifts;
  wrong = λ v. (refl, inl refl);
  missing = λ n ms absent. (refl, inr (record { parent = []; name = n; members = ms; path_is = refl; object_is = refl; absent = absent }));
}

abbrev IsGoodRow : MembersJudge → Type 0
IsGoodRow M = (ms : Members) → IsWellFormed (object ms) → AreGrouped OnePlace Any (object ms) (M ms)

abbrev end_of : Group → Path
end_of g = g.0

places_of_groups : (v : Json) (gs : List Group) → Each (λ (g : Group). OnePlace v g.0 g.1) gs → all_places gs ≡ map pointer_along (map end_of gs)
places_of_groups v [] leaves = refl
places_of_groups v (g ∷ gs) leaves =
    let single : group_places g ≡ pointer_along g.0 ∷ [] =
    ap (λ inside. map (λ p. pointer_along g.0 ++ p) inside) leaves.0.0 ∙ ap (λ (p : List ℕ). p ∷ []) (append-nil (pointer_along g.0)) in
    ap (λ ps. ps ++ all_places gs) single ∙ ap (λ ps. pointer_along g.0 ∷ ps) (places_of_groups v gs leaves.1)

each_end : (P : Path → Type 0) (gs : List Group) → Each (λ (g : Group). P g.0) gs → Each P (map end_of gs)
each_end P [] all = tt
each_end P (g ∷ gs) all = (all.0, each_end P gs all.1)

ends_ordered : (gs : List Group) → GroupsAreOrdered gs → AreInPreorder (map end_of gs)
ends_ordered [] ordered = tt
ends_ordered (g ∷ gs) ordered = (each_end (ComesBefore g.0) gs ordered.0, ends_ordered gs ordered.1)

come_in_preorder : (v : Json) (places : Places) → AreGrouped OnePlace Any v places → ComeInPreorder v places
come_in_preorder v places g = record {
  paths = map end_of g.groups;
  places_are = g.places_are ∙ places_of_groups v g.groups g.leaves;
  order = ends_ordered g.groups g.order;
  are_places = each_end (IsPlace v) g.groups (each_weaker (λ (h : Group). OnePlace v h.0 h.1) (λ (h : Group). IsPlace v h.0) g.groups (λ h leaf. leaf.1) g.leaves);
}

-- ## Or a schema

abbrev SchemaFaults : Json → Path → Places → Type 0
SchemaFaults v p inside = (w : Json) × (value_along p v ≡ Some w) × (inside ≡ schema w) × Each (IsPointerIn w) inside

schemas_lift : Lifts SchemaFaults
schemas_lift = record {
  step = λ s v w p inside is leaf. (leaf.0, ap (λ (o : Option Json). option_and_then (value_along p) o) is ∙ leaf.1, leaf.2, leaf.3);
}

good_schema : IsGood SchemaFaults schema
good_schema w formed = weaker SchemaFaults (λ p. p ≡ []) Any w (schema w) (λ p b. tt) (one SchemaFaults w (schema w) (w, refl, refl, schema_places_in w formed))

schemas_of_groups : (v : Json) (gs : List Group) → Each (λ (g : Group). SchemaFaults v g.0 g.1) gs → all_places gs ≡ flat_map (schema_places v) (map end_of gs)
schemas_of_groups v [] leaves = refl
schemas_of_groups v (g ∷ gs) leaves =
    let inside : g.1 ≡ option_map_or schema (value_along g.0 v) [] = leaves.0.2 ∙ sym (ap (λ (o : Option Json). option_map_or schema o []) leaves.0.1) in
    ap (λ qs. map (λ p. pointer_along g.0 ++ p) qs ++ all_places gs) inside
    ∙ ap (λ ps. schema_places v g.0 ++ ps) (schemas_of_groups v gs leaves.1)

leads_from : (v w : Json) (path : Path) (inside : Places) → value_along path v ≡ Some w → Each (IsPointerIn w) inside → Each (IsPointerIn v) (map (λ p. pointer_along path ++ p) inside)
leads_from v w path inside is lead =
    each_map (λ p. pointer_along path ++ p) (IsPointerIn v) inside (each_weaker (IsPointerIn w) (λ p. IsPointerIn v (pointer_along path ++ p)) inside (λ p. pointer_from path v w p is) lead)

all_lead : (v : Json) (gs : List Group) → Each (λ (g : Group). SchemaFaults v g.0 g.1) gs → Each (IsPointerIn v) (all_places gs)
all_lead v [] leaves = tt
all_lead v (g ∷ gs) leaves =
    each_append (IsPointerIn v) (group_places g) (all_places gs) (leads_from v leaves.0.0 g.0 g.1 leaves.0.1 leaves.0.3) (all_lead v gs leaves.1)

some_value : (o : Option Json) (w : Json) → o ≡ Some w → IsSome o
some_value o w is = subst (λ (x : Option Json). IsSome x) (sym is) refl

schemas_come_in_preorder : (v : Json) (places : Places) → AreGrouped SchemaFaults Any v places → SchemasComeInPreorder v places
schemas_come_in_preorder v places g = record {
  paths = map end_of g.groups;
  places_are = g.places_are ∙ schemas_of_groups v g.groups g.leaves;
  order = ends_ordered g.groups g.order;
  are_there = each_end (λ p. IsSome (value_along p v)) g.groups
      (each_weaker (λ (h : Group). SchemaFaults v h.0 h.1) (λ (h : Group). IsSome (value_along h.0 v)) g.groups (λ h leaf. some_value (value_along h.0 v) leaf.0 leaf.1) g.leaves);
  lead = subst (λ ps. Each (IsPointerIn v) ps) (sym g.places_are) (all_lead v g.groups g.leaves);
}

-- ## The rows

good_text : IsGood OnePlace text
good_text w formed = good_is OnePlace one_place is_text w formed

good_truth_value : IsGood OnePlace truth_value
good_truth_value w formed = good_is OnePlace one_place is_boolean w formed

good_anything : IsGood OnePlace anything
good_anything w formed = none OnePlace Any w

good_any_object : IsGood OnePlace any_object
good_any_object w formed = good_object_with OnePlace one_place Any (λ ms. []) (λ ms of_ms. none OnePlace Any (object ms)) w formed

begun : (F : Path → Type 0) (M : MembersJudge) → IsGoodOfMembers OnePlace F M → IsGoodRow M
begun F M good ms formed = weaker OnePlace F Any (object ms) (M ms) (λ p b. tt) (good ms formed)

required_row : (n : List ℕ) (J : Judge) → IsGood OnePlace J → IsGoodRow (required_member n J)
required_row n J good ms formed = begun (BeginsAt (to_member n)) (required_member n J) (good_required OnePlace one_place n J good) ms formed

optional_row : (n : List ℕ) (J : Judge) → IsGood OnePlace J → IsGoodRow (optional_member n J)
optional_row n J good ms formed = begun (BeginsAt (to_member n)) (optional_member n J) (good_optional OnePlace one_place_lifts n J good) ms formed

each_member_row : (J : Judge) → IsGood OnePlace J → IsGoodRow (each_member J)
each_member_row J good ms formed = weaker OnePlace (BeginsIn (names ms)) Any (object ms) (each_member J ms) (λ p b. tt) (good_each_member OnePlace one_place_lifts J good ms formed)

good_type_of_thing : IsGood OnePlace type_of_thing
good_type_of_thing v formed = go v formed
  where
    marked : (w : Json) → AreGrouped OnePlace (λ p. p ≡ []) w (if has_text thing_model w then here else [])
    marked w = elim (has_text thing_model w) as (λ b. AreGrouped OnePlace (λ p. p ≡ []) w (if b then here else [])) [
      | true ↦ one OnePlace w here (refl, inl refl)
      | false ↦ none OnePlace (λ p. p ≡ []) w
    ]

    outer_first : (x y : Path) → x ≡ [] → BeginsFrom 0 y → ComesBefore x y
    outer_first x y is of_y =
        subst (λ p. ComesBefore p y) (sym is) (subst (λ q. ComesBefore [] q) (sym of_y.2.1) tt)

    wrong_value : (w : Json) → AreGrouped OnePlace Any w here
    wrong_value w = weaker OnePlace (λ p. p ≡ []) Any w here (λ p b. tt) (one OnePlace w here (refl, inl refl))

    go : IsGood OnePlace type_of_thing
    go null of_v = wrong_value null
    go (boolean b) of_v = wrong_value (boolean b)
    go (integer n) of_v = wrong_value (integer n)
    go (string t) of_v =
        subst (λ ps. AreGrouped OnePlace Any (string t) ps) (sym (append-nil (if has_text thing_model (string t) then here else [])))
        (weaker OnePlace (λ p. p ≡ []) Any (string t) (if has_text thing_model (string t) then here else []) (λ p b. tt) (marked (string t)))
    go (array es) of_v =
        weaker OnePlace (λ p. (p ≡ []) ⊎ BeginsFrom 0 p) Any (array es) (type_of_thing (array es)) (λ p b. tt)
        (joined_places OnePlace (λ p. p ≡ []) (BeginsFrom 0) (array es) (if has_text thing_model (array es) then here else []) (each_element text 0 es) outer_first (marked (array es))
        (good_each_element OnePlace one_place_lifts text good_text es of_v))
    go (object ms) of_v = wrong_value (object ms)

good_affordances : (k : Kind) → IsGoodOfMembers OnePlace (BeginsAt (to_member (holder k))) (affordances k)
good_affordances k ms formed =
    good_optional OnePlace one_place_lifts (holder k) (object_with (each_member any_object))
    (good_object_with OnePlace one_place Any (each_member any_object) (each_member_row any_object good_any_object)) ms formed

good_affordance_maps : IsGoodRow affordance_maps
good_affordance_maps ms formed =
    weaker OnePlace (BeginsIn (codes "actions" ∷ codes "events" ∷ codes "properties" ∷ [])) Any (object ms) (affordance_maps ms) (λ p b. tt)
    (then_named OnePlace (codes "actions") (codes "events" ∷ codes "properties" ∷ []) (object ms) (affordances kind.Action ms) (affordances kind.Event ms ++ affordances kind.Property ms) (refl, (refl, tt)) (good_affordances kind.Action ms formed)
    (then_named OnePlace (codes "events") (codes "properties" ∷ []) (object ms) (affordances kind.Event ms) (affordances kind.Property ms) (refl, tt) (good_affordances kind.Event ms formed)
    (last_named OnePlace (codes "properties") (object ms) (affordances kind.Property ms) (good_affordances kind.Property ms formed))))

good_link : IsGoodRow link
good_link ms formed =
    weaker OnePlace (BeginsIn (codes "href" ∷ codes "rel" ∷ [])) Any (object ms) (link ms) (λ p b. tt)
    (then_named OnePlace (codes "href") (codes "rel" ∷ []) (object ms) (required_member (codes "href") text ms) (optional_member (codes "rel") text ms) (refl, tt)
    (good_required OnePlace one_place (codes "href") text good_text ms formed)
    (last_named OnePlace (codes "rel") (object ms) (optional_member (codes "rel") text ms) (good_optional OnePlace one_place_lifts (codes "rel") text good_text ms formed)))

good_no_security : IsGood OnePlace (object_with (required_member (codes "scheme") (is (is_text_with (bytes_eq (codes "nosec"))))))
good_no_security w formed =
    good_object_with OnePlace one_place Any (required_member (codes "scheme") (is (is_text_with (bytes_eq (codes "nosec")))))
    (required_row (codes "scheme") (is (is_text_with (bytes_eq (codes "nosec")))) (good_is OnePlace one_place (is_text_with (bytes_eq (codes "nosec"))))) w formed

good_root_form : IsGood OnePlace (object_with (required_member (codes "op") anything))
good_root_form w formed =
    good_object_with OnePlace one_place Any (required_member (codes "op") anything) (required_row (codes "op") anything good_anything) w formed

good_schemas : (k : Kind) → IsGoodOfMembers SchemaFaults Any (affordance_schemas k)
good_schemas kind.Property ms formed = good_schema (object ms) formed
good_schemas kind.Action ms formed =
    weaker SchemaFaults (BeginsIn (schema_names kind.Action)) Any (object ms) (affordance_schemas kind.Action ms) (λ p b. tt)
    (good_optional_members SchemaFaults schemas_lift (schema_names kind.Action) schema ((refl, tt), (tt, tt)) good_schema ms formed)
good_schemas kind.Event ms formed =
    weaker SchemaFaults (BeginsIn (schema_names kind.Event)) Any (object ms) (affordance_schemas kind.Event ms) (λ p b. tt)
    (good_optional_members SchemaFaults schemas_lift (schema_names kind.Event) schema ((refl, (refl, tt)), ((refl, tt), (tt, tt))) good_schema ms formed)

good_form_texts : (place : Option Kind) → IsGoodOfMembers OnePlace Any (form_texts place)
good_form_texts place ms formed =
    weaker OnePlace (BeginsIn form_text_names) Any (object ms) (form_texts place ms) (λ p b. tt)
    (good_optional_members OnePlace one_place_lifts form_text_names text ((refl, (refl, (refl, tt))), ((refl, (refl, tt)), ((refl, tt), (tt, tt)))) good_text ms formed)

good_flags : (k : Kind) → IsGoodOfMembers OnePlace Any (affordance_flags k)
good_flags k ms formed =
    weaker OnePlace (BeginsIn flag_names) Any (object ms) (affordance_flags k ms) (λ p b. tt)
    (good_optional_members OnePlace one_place_lifts flag_names truth_value
    ((refl, (refl, (refl, (refl, tt)))), ((refl, (refl, (refl, tt))), ((refl, (refl, tt)), ((refl, tt), (tt, tt))))) good_truth_value ms formed)

other_row : (n : ℕ) (M : MembersJudge) (ms : Members) → (n ≡ 16 → ⊥) → IsWellFormed (object ms) → IsGoodRow M → IsInPreorder (object ms) (n, M ms)
other_row n M ms other formed good = (λ is. absurd (other is), λ _. come_in_preorder (object ms) (M ms) (good ms formed))

schema_row : (M : MembersJudge) (ms : Members) → AreGrouped SchemaFaults Any (object ms) (M ms) → IsInPreorder (object ms) (16, M ms)
schema_row M ms good = (λ _. schemas_come_in_preorder (object ms) (M ms) good, λ other. absurd (other refl))

pub each_row : (ms : Members) → IsWellFormed (object ms) → Each (IsInPreorder (object ms)) (table ms)
each_row ms formed = (
  other_row 2 context ms (λ is. omega arith) formed (λ ns of_ns. required_row (codes "@context") (is (has_text td_context)) (good_is OnePlace one_place (has_text td_context)) ns of_ns),
  (
    other_row 3 title ms (λ is. omega arith) formed (λ ns of_ns. required_row (codes "title") text good_text ns of_ns),
    (
      other_row 4 security_definitions ms (λ is. omega arith) formed (λ ns of_ns. required_row (codes "securityDefinitions") (object_of_some (object_with (required_member (codes "scheme") (is (is_text_with (bytes_eq (codes "nosec"))))))) (good_object_of_some OnePlace one_place (object_with (required_member (codes "scheme") (is (is_text_with (bytes_eq (codes "nosec")))))) good_no_security) ns of_ns),
      (
        other_row 5 security ms (λ is. omega arith) formed (λ ns of_ns. required_row (codes "security") (texts (is_defined ns)) (good_texts OnePlace one_place (is_defined ns)) ns of_ns),
        (
          other_row 6 id ms (λ is. omega arith) formed (λ ns of_ns. optional_row (codes "id") (is is_text_not_empty) (good_is OnePlace one_place is_text_not_empty) ns of_ns),
          (
            other_row 7 base ms (λ is. omega arith) formed (λ ns of_ns. optional_row (codes "base") text good_text ns of_ns),
            (
              other_row 8 types ms (λ is. omega arith) formed (λ ns of_ns. optional_row (codes "@type") type_of_thing good_type_of_thing ns of_ns),
              (
                other_row 9 affordance_maps ms (λ is. omega arith) formed good_affordance_maps,
                (
                  other_row 10 (each_affordance affordance_forms) ms (λ is. omega arith) formed (good_each_affordance OnePlace one_place_lifts affordance_forms (λ k ns of_ns. required_row (codes "forms") (list_of_some any_object) (good_list_of_some OnePlace one_place any_object good_any_object) ns of_ns)),
                  (
                    other_row 11 root_forms ms (λ is. omega arith) formed (λ ns of_ns. optional_row (codes "forms") (list_of (object_with (required_member (codes "op") anything))) (good_list_of OnePlace one_place (object_with (required_member (codes "op") anything)) good_root_form) ns of_ns),
                    (
                      other_row 12 (each_form form_href) ms (λ is. omega arith) formed (good_each_form OnePlace one_place_lifts form_href (λ place ns of_ns. required_row (codes "href") text good_text ns of_ns)),
                      (
                        other_row 13 (each_form form_operations) ms (λ is. omega arith) formed (good_each_form OnePlace one_place_lifts form_operations (λ place ns of_ns. optional_row (codes "op") (texts (is_operation place)) (good_texts OnePlace one_place (is_operation place)) ns of_ns)),
                        (
                          other_row 14 (each_form form_texts) ms (λ is. omega arith) formed (good_each_form OnePlace one_place_lifts form_texts good_form_texts),
                          (
                            other_row 15 (each_affordance affordance_flags) ms (λ is. omega arith) formed (good_each_affordance OnePlace one_place_lifts affordance_flags good_flags),
                            (
                              schema_row (each_affordance affordance_schemas) ms (good_each_affordance SchemaFaults schemas_lift affordance_schemas good_schemas ms formed),
                              (
                                other_row 17 links ms (λ is. omega arith) formed (λ ns of_ns. optional_row (codes "links") (list_of (object_with link)) (good_list_of OnePlace one_place (object_with link) (good_object_with OnePlace one_place Any link good_link)) ns of_ns),
                                (
                                  other_row 18 version ms (λ is. omega arith) formed (λ ns of_ns. optional_row (codes "version") (object_with (required_member (codes "instance") text)) (good_object_with OnePlace one_place Any (required_member (codes "instance") text) (required_row (codes "instance") text good_text)) ns of_ns),
                                  tt,
                                ),
                              ),
                            ),
                          ),
                        ),
                      ),
                    ),
                  ),
                ),
              ),
            ),
          ),
        ),
      ),
    ),
  ),
)
