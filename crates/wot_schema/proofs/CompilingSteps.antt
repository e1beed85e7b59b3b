-- The steps in which the tree of a schema is checked and compiled.
use Rattle.std.proofs.Common.{◌≡◌, ◌↔◌, ◌≤◌, ◌<◌, ◌+◌, ◌++◌, ℕ, List, [], ◌∷◌, length, get_or, take, drop, Option, Some, None, IfSome, IfOk, Ok, Err, Result, true, false, map, codes, refl, sym, ap, subst, ◌∙◌, inl, inr, arith, if◌then◌else◌}
use Rattle.std.specs.Prelude.{Vec}
use Rattle.std.specs.declared.alloc.Global.{Global}
use Rattle.std.specs.declared.alloc.AllocError.{AllocError}
use Rattle.std.specs.Option.{option_map, option_map_or}
use Rattle.std.specs.Str.{bytes_eq}
use Rattle.std.proofs.lemmas.List.{take_more, map-append}
use Rattle.wot_json.specs.Tree.{Json, null, boolean, integer, string, array, object, Elements, no_elements, element, Members, no_members, member, elements_of, members_of, nesting, members_nesting}
use Rattle.wot_json.specs.Meaning.{json_of, json_items, json_members}
use Rattle.wot_json.specs.declared.tree.Tree.{Tree}
use Rattle.wot_json.specs.Lookup.{value_under}
use Rattle.wot_json.specs.Places.{step_text, element_step_text}
use Rattle.wot_schema.specs.declared.fault.SchemaFault.{SchemaFault}
use Rattle.wot_schema.specs.Values.{EachElement, IfArray, IfObject}
use Rattle.wot_schema.specs.Acceptance.{Accepts, Holder, one_of, items, properties, name_of, Within, Asks, ExactlyOne, AcceptNone, InOrder, AcceptMembers}
use Rattle.wot_schema.specs.Checks.{FindsFirst}
use Rattle.wot_schema.specs.Faults.{schema_faults, table_faults, faults_in_member, faults_in_element, faults_within, faults_below, faults_of_list, faults_of_members, AreRowsMet}
use Rattle.wot_schema.specs.Alike.{AcceptAlike, AllAlike, NamedAlike}
use Rattle.wot_schema.specs.Rules.{AreRulesOf}
use Rattle.wot_schema.specs.Nodes.{node_members, schema_of, schemas_of, list_of, items_of, properties_of}
use Rattle.wot_schema.specs.declared.node.SchemaNode.{SchemaNode}
use Rattle.wot_schema.specs.declared.node.SchemaNode.TheInside.{Inside}
use Rattle.wot_schema.proofs.Rows.{rows_hold, rows_asked}
use Rattle.wot_schema.proofs.NodeMeaning.{within_is, node_accepts, one_of_node, items_node, properties_node, holders}
use Rattle.wot_schema.proofs.FirstFaults.{parts_none, none_through, table_met}
use Rattle.wot_schema.proofs.Steps.{rest_at}

-- a member nests no deeper than its object
pub found_nests : (name : List ℕ) (ms : Members) (s : Json) → Some s ≡ value_under name ms → nesting s ≤ members_nesting ms
found_nests name no_members s is = absurd cc
found_nests name (member n v ms) s is =
    elim (bytes_eq name n) as (λ b. Some s ≡ (if b then Some v else value_under name ms) → nesting s ≤ members_nesting (member n v ms)) [
      | true ↦ λ here. let same : nesting s ≡ nesting v = ap nesting (of_some s v here) in omega arith
      | false ↦ λ later. omega (arith, found_nests name ms s later)
    ] is
  where
    of_some : (a b : Json) → Some a ≡ Some b → a ≡ b
    of_some a b same = cc

-- the faults below a member, by the member
faults_found : (holder : Holder) (ms : Members) → faults_within holder ms ≡ faults_in_member (name_of holder) (option_map_or (faults_below holder) (value_under (name_of holder) ms) [])
faults_found holder no_members = refl
faults_found holder (member n s ms) =
    elim (bytes_eq (name_of holder) n) as (λ b.
    (if b then faults_in_member (name_of holder) (faults_below holder s) else faults_within holder ms)
    ≡ faults_in_member (name_of holder) (option_map_or (faults_below holder) (if b then Some s else value_under (name_of holder) ms) []))
    [ true ↦ refl | false ↦ faults_found holder ms ]

-- where the member is absent, nothing is asked and nothing is wrong
pub absent_asks : (holder : Holder) (ms : Members) → None ≡ value_under (name_of holder) ms → (v : Json) → Within holder ms v
absent_asks holder ms is v = (within_is holder ms v None (sym is)).1 tt

pub absent_faultless : (holder : Holder) (ms : Members) → None ≡ value_under (name_of holder) ms → faults_within holder ms ≡ []
absent_faultless holder ms is = faults_found holder ms ∙ ap (λ o. faults_in_member (name_of holder) (option_map_or (faults_below holder) o [])) (sym is)

there : (holder : Holder) (ms : Members) (s : Json) → Some s ≡ value_under (name_of holder) ms → faults_within holder ms ≡ faults_in_member (name_of holder) (faults_below holder s)
there holder ms s is = faults_found holder ms ∙ ap (λ o. faults_in_member (name_of holder) (option_map_or (faults_below holder) o [])) (sym is)

-- where it is there, what it holds is asked, and what is wrong there is wrong
pub there_asks : {A : Type 0} (r : Result A AllocError) (X : A → Json → Type 0) (holder : Holder) (ms : Members) (s : Json) → Some s ≡ value_under (name_of holder) ms →
    IfOk r (λ x. (v : Json) → (X x v ↔ Asks holder s v)) → IfOk r (λ x. (v : Json) → (X x v ↔ Within holder ms v))
there_asks (Ok x) X holder ms s is asked =
    λ v. (λ h. (within_is holder ms v (Some s) (sym is)).1 ((asked v).0 h), λ h. (asked v).1 ((within_is holder ms v (Some s) (sym is)).0 h))
there_asks (Err e) X holder ms s is asked = tt

pub there_found : (r : Result (Unit {0}) SchemaFault) (holder : Holder) (ms : Members) (s : Json) → Some s ≡ value_under (name_of holder) ms →
    FindsFirst (faults_in_member (name_of holder) (faults_below holder s)) r → FindsFirst (faults_within holder ms) r
there_found r holder ms s is found = subst (λ fs. FindsFirst fs r) (sym (there holder ms s is)) found

pub there_none : (holder : Holder) (ms : Members) (s : Json) → Some s ≡ value_under (name_of holder) ms → faults_within holder ms ≡ [] → faults_below holder s ≡ []
there_none holder ms s is none = none_through (step_text (name_of holder)) (faults_below holder s) (sym (there holder ms s is) ∙ none)

-- a schema without a fault has none in its rows, and none below
pub record IsFaultless (ms : Members) : Type 0 where
  pub rows : AreRowsMet ms
  pub alternatives : faults_within one_of ms ≡ []
  pub elements : faults_within items ms ≡ []
  pub members : faults_within properties ms ≡ []

pub faultless : (ms : Members) → schema_faults (object ms) ≡ [] → IsFaultless ms
faultless ms none =
    let first = parts_none (table_faults ms) (faults_within one_of ms ++ (faults_within items ms ++ faults_within properties ms)) none in
    let second = parts_none (faults_within one_of ms) (faults_within items ms ++ faults_within properties ms) first.1 in
    let third = parts_none (faults_within items ms) (faults_within properties ms) second.1 in
    record { rows = table_met ms first.0; alternatives = second.0; elements = third.0; members = third.1 }

none_alike : (ss ts : List Json) (v : Json) → AllAlike ss ts → AcceptNone (elements_of ss) v ↔ AcceptNone (elements_of ts) v
none_alike [] [] v alike = (λ h. h, λ h. h)
none_alike [] (t ∷ ts) v alike = absurd alike
none_alike (s ∷ ss) [] v alike = absurd alike
none_alike (s ∷ ss) (t ∷ ts) v alike =
    let rest = none_alike ss ts v alike.1 in
    (λ h. (λ a. h.0 ((alike.0 v).1 a), rest.0 h.1), λ h. (λ a. h.0 ((alike.0 v).0 a), rest.1 h.1))

-- of schemas that accept the same values exactly one accepts the same values
pub one_alike : (ss ts : List Json) (v : Json) → AllAlike ss ts → ExactlyOne (elements_of ss) v ↔ ExactlyOne (elements_of ts) v
one_alike [] [] v alike = (λ h. h, λ h. h)
one_alike [] (t ∷ ts) v alike = absurd alike
one_alike (s ∷ ss) [] v alike = absurd alike
one_alike (s ∷ ss) (t ∷ ts) v alike =
    let rest = one_alike ss ts v alike.1 in
    let none = none_alike ss ts v alike.1 in (
      λ h. elim h [ inl here ↦ inl ((alike.0 v).0 here.0, none.0 here.1) | inr later ↦ inr (λ a. later.0 ((alike.0 v).1 a), rest.0 later.1) ],
      λ h. elim h [ inl here ↦ inl ((alike.0 v).1 here.0, none.1 here.1) | inr later ↦ inr (λ a. later.0 ((alike.0 v).0 a), rest.1 later.1) ],
    )

in_order_alike : (ss ts : List Json) (es : Elements) → AllAlike ss ts → InOrder (elements_of ss) es ↔ InOrder (elements_of ts) es
in_order_alike [] [] es alike = (λ h. h, λ h. h)
in_order_alike [] (t ∷ ts) es alike = absurd alike
in_order_alike (s ∷ ss) [] es alike = absurd alike
in_order_alike (s ∷ ss) (t ∷ ts) no_elements alike = (λ h. h, λ h. h)
in_order_alike (s ∷ ss) (t ∷ ts) (element v es) alike =
    let rest = in_order_alike ss ts es alike.1 in
    (λ h. ((alike.0 v).0 h.0, rest.0 h.1), λ h. ((alike.0 v).1 h.0, rest.1 h.1))

each_alike : (s t : Json) (es : Elements) → AcceptAlike s t → EachElement (Accepts s) es ↔ EachElement (Accepts t) es
each_alike s t no_elements alike = (λ h. h, λ h. h)
each_alike s t (element v es) alike =
    let rest = each_alike s t es alike in
    (λ h. ((alike v).0 h.0, rest.0 h.1), λ h. ((alike v).1 h.0, rest.1 h.1))

members_alike : (ss ts : List (List ℕ × Json)) (vs : Members) → NamedAlike ss ts → AcceptMembers (members_of ss) vs ↔ AcceptMembers (members_of ts) vs
members_alike [] [] vs alike = (λ h. h, λ h. h)
members_alike [] (t ∷ ts) vs alike = absurd alike
members_alike (s ∷ ss) [] vs alike = absurd alike
members_alike (s ∷ ss) (t ∷ ts) vs alike =
    let rest = members_alike ss ts vs alike.2 in
    let value = one_member s.1 t.1 (value_under t.0 vs) alike.1 in
    rw alike.0 (λ h. (value.0 h.0, rest.0 h.1), λ h. (value.1 h.0, rest.1 h.1))
  where
    one_member : (s t : Json) (o : Option Json) → AcceptAlike s t → IfSome o (λ v. Accepts s v) ↔ IfSome o (λ v. Accepts t v)
    one_member s t None alike = (λ h. h, λ h. h)
    one_member s t (Some v) alike = alike v

if_array : (v : Json) (P Q : Elements → Type 0) → ((es : Elements) → P es ↔ Q es) → IfArray v P ↔ IfArray v Q
if_array (array es) P Q same = same es
if_array null P Q same = (λ h. h, λ h. h)
if_array (boolean b) P Q same = (λ h. h, λ h. h)
if_array (integer n) P Q same = (λ h. h, λ h. h)
if_array (string t) P Q same = (λ h. h, λ h. h)
if_array (object ms) P Q same = (λ h. h, λ h. h)

if_object : (v : Json) (P Q : Members → Type 0) → ((ms : Members) → P ms ↔ Q ms) → IfObject v P ↔ IfObject v Q
if_object (object ms) P Q same = same ms
if_object null P Q same = (λ h. h, λ h. h)
if_object (boolean b) P Q same = (λ h. h, λ h. h)
if_object (integer n) P Q same = (λ h. h, λ h. h)
if_object (string t) P Q same = (λ h. h, λ h. h)
if_object (array es) P Q same = (λ h. h, λ h. h)

-- `items` asks the same of schemas that accept the same values
pub items_each_alike : (n : List (List ℕ × Json)) (ms : Members) → AcceptAlike (schema_of n) (object ms) → (v : Json) → Asks items (schema_of n) v ↔ Asks items (object ms) v
items_each_alike n ms alike v = if_array v (EachElement (Accepts (schema_of n))) (EachElement (Accepts (object ms))) (λ es. each_alike (schema_of n) (object ms) es alike)

pub items_list_alike : (ss ts : List Json) → AllAlike ss ts → (v : Json) → Asks items (array (elements_of ss)) v ↔ Asks items (array (elements_of ts)) v
items_list_alike ss ts alike v = if_array v (InOrder (elements_of ss)) (InOrder (elements_of ts)) (λ es. in_order_alike ss ts es alike)

-- and so does `properties`
pub properties_alike : (ss ts : List (List ℕ × Json)) → NamedAlike ss ts → (v : Json) → Asks properties (object (members_of ss)) v ↔ Asks properties (object (members_of ts)) v
properties_alike ss ts alike v = if_object v (AcceptMembers (members_of ss)) (AcceptMembers (members_of ts)) (λ vs. members_alike ss ts vs alike)

-- an empty list of schemas asks for nothing, and neither do no properties
free_list : (v : Json) → Asks items (list_of []) v
free_list null = tt
free_list (boolean b) = tt
free_list (integer n) = tt
free_list (string t) = tt
free_list (array es) = tt
free_list (object ms) = tt

free_named : (v : Json) → Asks properties (properties_of []) v
free_named null = tt
free_named (boolean b) = tt
free_named (integer n) = tt
free_named (string t) = tt
free_named (array es) = tt
free_named (object ms) = tt

-- a rule that asks for nothing is that of an absent member
pub free_list_absent : (ms : Members) → None ≡ value_under (codes "items") ms → (v : Json) → Asks items (list_of []) v ↔ Within items ms v
free_list_absent ms is v = (λ h. absent_asks items ms is v, λ h. free_list v)

pub free_named_absent : (ms : Members) → None ≡ value_under (codes "properties") ms → (v : Json) → Asks properties (properties_of []) v ↔ Within properties ms v
free_named_absent ms is v = (λ h. absent_asks properties ms is v, λ h. free_named v)

-- one more schema of a list
pub alike_more : (ss ts : List Json) (s t : Json) → AllAlike ss ts → AcceptAlike s t → AllAlike (ss ++ s ∷ []) (ts ++ t ∷ [])
alike_more [] [] s t alike one = (one, tt)
alike_more [] (u ∷ ts) s t alike one = absurd alike
alike_more (r ∷ ss) [] s t alike one = absurd alike
alike_more (r ∷ ss) (u ∷ ts) s t alike one = (alike.0, alike_more ss ts s t alike.1 one)

pub named_more : (ss ts : List (List ℕ × Json)) (s t : List ℕ × Json) → NamedAlike ss ts → s.0 ≡ t.0 → AcceptAlike s.1 t.1 → NamedAlike (ss ++ s ∷ []) (ts ++ t ∷ [])
named_more [] [] s t alike name one = (name, one, tt)
named_more [] (u ∷ ts) s t alike name one = absurd alike
named_more (r ∷ ss) [] s t alike name one = absurd alike
named_more (r ∷ ss) (u ∷ ts) s t alike name one = (alike.0, alike.1, named_more ss ts s t alike.2 name one)

-- an element and the others of a list of schemas without a fault
pub list_none : (ts : List Tree) (i : ℕ) (t : Tree) → i < length ts → t ≡ get_or ts i t → faults_of_list i (elements_of (json_items (drop i ts))) ≡ [] →
    (schema_faults (json_of t) ≡ []) × (faults_of_list (i + 1) (elements_of (json_items (drop (i + 1) ts))) ≡ [])
list_none ts i t within is none =
    let parts = parts_none (faults_in_element i (schema_faults (json_of t))) (faults_of_list (i + 1) (elements_of (json_items (drop (i + 1) ts))))
    (sym (ap (λ us. faults_of_list i (elements_of (json_items us))) (rest_at ts i t within is)) ∙ none) in
    (none_through (element_step_text i) (schema_faults (json_of t)) parts.0, parts.1)

pub named_none : (ts : List (List ℕ × Tree)) (i : ℕ) (t : List ℕ × Tree) → i < length ts → t ≡ get_or ts i t → faults_of_members (members_of (json_members (drop i ts))) ≡ [] →
    (schema_faults (json_of t.1) ≡ []) × (faults_of_members (members_of (json_members (drop (i + 1) ts))) ≡ [])
named_none ts i t within is none =
    let parts = parts_none (faults_in_member t.0 (schema_faults (json_of t.1))) (faults_of_members (members_of (json_members (drop (i + 1) ts))))
    (sym (ap (λ us. faults_of_members (members_of (json_members us))) (rest_at ts i t within is)) ∙ none) in
    (none_through (step_text t.0) (schema_faults (json_of t.1)) parts.0, parts.1)

-- the node of compiled parts accepts what the schema accepts
pub compiled_alike : (a : Inside) (ms : Members) → AreRulesOf ms a.rules →
    ((v : Json) → (IfSome a.alternatives (λ nodes. Asks one_of (list_of nodes.items) v) ↔ Within one_of ms v)) →
    ((v : Json) → (Asks items (items_of a.items) v ↔ Within items ms v)) →
    ((v : Json) → (Asks properties (properties_of a.properties.items) v ↔ Within properties ms v)) →
    AcceptAlike (schema_of (node_members a)) (object ms)
compiled_alike a ms rules alternatives items_asked properties_asked v = (
  λ accepted.
      let parts = (node_accepts a v).0 accepted in
      (rows_hold ms a.rules v rules parts.0, holders ms v ((alternatives v).0 (some_asked a.alternatives v ((one_of_node a v).0 parts.1))) ((items_asked v).0 ((items_node a v).0 parts.2)) ((properties_asked v).0 ((properties_node a v).0 parts.3))),
  λ accepted.
      (node_accepts a v).1 (
        rows_asked ms a.rules v rules accepted.0,
        (one_of_node a v).1 (asked_some a.alternatives v ((alternatives v).1 (accepted.1 one_of))),
        (items_node a v).1 ((items_asked v).1 (accepted.1 items)),
        (properties_node a v).1 ((properties_asked v).1 (accepted.1 properties)),
      ),
)
  where
    some_asked : (o : Option (Vec SchemaNode Global)) (v : Json) → IfSome (option_map (λ (nodes : Vec SchemaNode Global). list_of nodes.items) o) (λ s. Asks one_of s v) → IfSome o (λ nodes. Asks one_of (list_of nodes.items) v)
    some_asked None v h = tt
    some_asked (Some nodes) v h = h

    asked_some : (o : Option (Vec SchemaNode Global)) (v : Json) → IfSome o (λ nodes. Asks one_of (list_of nodes.items) v) → IfSome (option_map (λ (nodes : Vec SchemaNode Global). list_of nodes.items) o) (λ s. Asks one_of s v)
    asked_some None v h = tt
    asked_some (Some nodes) v h = h

-- compiled schemas of named members ask what those ask
pub named_ok : (r : Result (Vec (List ℕ × SchemaNode) Global) AllocError) (ts : List (List ℕ × Json)) → IfOk r (λ named. NamedAlike (schemas_of named.items) ts) →
    IfOk r (λ named. (v : Json) → (Asks properties (properties_of named.items) v ↔ Asks properties (object (members_of ts)) v))
named_ok (Ok named) ts alike = λ v. properties_alike (schemas_of named.items) ts alike v
named_ok (Err e) ts alike = tt

-- one more schema was compiled
pub list_more : (ns ms : List SchemaNode) (n : SchemaNode) (ts : List Tree) (i : ℕ) (t : Tree) → i < length ts → t ≡ get_or ts i t → AllAlike (map schema_of ns) (json_items (take i ts)) →
    AcceptAlike (schema_of n) (json_of t) → ms ≡ ns ++ n ∷ [] → AllAlike (map schema_of ms) (json_items (take (i + 1) ts))
list_more ns ms n ts i t within is alike one more =
    let front : take (i + 1) ts ≡ take i ts ++ t ∷ [] = take_more ts i t within ∙ ap (λ u. take i ts ++ u ∷ []) (sym is) in
    rw (more, front, map-append, map-append) (alike_more (map schema_of ns) (json_items (take i ts)) (schema_of n) (json_of t) alike one)

pub named_list_more : (ns ms : List (List ℕ × SchemaNode)) (n : List ℕ × SchemaNode) (ts : List (List ℕ × Tree)) (i : ℕ) (t : List ℕ × Tree) → i < length ts → t ≡ get_or ts i t → NamedAlike (schemas_of ns) (json_members (take i ts)) →
    n.0 ≡ t.0 → AcceptAlike (schema_of n.1) (json_of t.1) → ms ≡ ns ++ n ∷ [] → NamedAlike (schemas_of ms) (json_members (take (i + 1) ts))
named_list_more ns ms n ts i t within is alike name one more =
    let front : take (i + 1) ts ≡ take i ts ++ t ∷ [] = take_more ts i t within ∙ ap (λ u. take i ts ++ u ∷ []) (sym is) in
    rw (more, front, map-append, map-append) (named_more (schemas_of ns) (json_members (take i ts)) (n.0, schema_of n.1) (t.0, json_of t.1) alike name one)
