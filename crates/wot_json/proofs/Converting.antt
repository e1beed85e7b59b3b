-- Taking over a value, element by element and member by member.
use Rattle.std.proofs.Common.{arith, ◌≡◌, ℕ, ◌+◌, List, [], ◌∷◌, ◌++◌, length, map, Option, Some, None, option_map, option_and_then, refl, sym, ap, ◌∙◌, subst, append-nil, string_bytes, string_cmp, String, Global}
use Rattle.std.specs.Prelude.{cond, ℤ, is_some}
use Rattle.std.specs.Ordering.{nat_cmp}
use Rattle.std.specs.Cmp.Lexicographic.{slice_cmp}
use Rattle.std.proofs.lemmas.Option.{none-some}
use Rattle.serde_json.specs.Find.{as_i64}
use Rattle.std.specs.List.{AllByRecursion}
use Rattle.std.specs.List.Sorted.{IsStrictlySortedBy}
use Rattle.std.specs.declared.cmp.Ordering.TheVariants.{Less}
use Rattle.std.specs.Map.{keys_of}
use Rattle.serde_json.specs.Data as json
use Rattle.serde_json.specs.Data.{Data, depth, items_depth, members_depth}
use Rattle.serde_json.specs.View.{view, items_view, members_view}
use Rattle.serde_json.specs.declared.value.Value.{Value}
use Rattle.serde_json.proofs.Views.{Entry}
use Rattle.wot_json.specs.Tree.{Json, integer, array, object, Elements, no_elements, element, Members, no_members, member, elements_of, members_of, AreOrdered}
use Rattle.wot_json.specs.Meaning.{json_of, json_members}
use Rattle.wot_json.specs.Places.{index_text, step_text, place_text}
use Rattle.wot_json.specs.Reading.{tree_of_value, tree_of_items, tree_of_members, places_below, wrong_numbers, wrong_in_items, wrong_in_members, first_pointer}
use Rattle.wot_json.specs.Faults.{NamesFirst}
use Rattle.wot_json.specs.declared.tree.Tree.{Tree}
use Rattle.wot_json.specs.declared.reading.ReadFault.{ReadFault}
use Rattle.wot_json.specs.declared.reading.ReadFault.TheVariants.{NotJson, TooDeep, NotInteger, NoMemory}

-- ---- nesting

-- ---- lists

-- the elements; these come first
abbrev pub elements_before : List Json → Elements → Elements
elements_before [] rest = rest
elements_before (v ∷ vs) rest = element v (elements_before vs rest)

pub elements_before-none : (vs : List Json) → elements_before vs no_elements ≡ elements_of vs
elements_before-none [] = refl
elements_before-none (v ∷ vs) = ap (element v) (elements_before-none vs)

elements_before-push : (vs : List Json) (v : Json) (rest : Elements) → elements_before (vs ++ v ∷ []) rest ≡ elements_before vs (element v rest)
elements_before-push [] v rest = refl
elements_before-push (w ∷ vs) v rest = ap (element w) (elements_before-push vs v rest)

elements_map-push : (vs : List Json) (v : Json) (rest : Option Elements) → option_map (elements_before vs) (option_map (element v) rest) ≡ option_map (elements_before (vs ++ v ∷ [])) rest
elements_map-push vs v None = refl
elements_map-push vs v (Some rest) = ap Some (sym (elements_before-push vs v rest))

-- one more element was taken over
pub items_more : (all : Option Elements) (done now : List Json) (x : Value) (left : List Value) (v : Json)
    → all ≡ option_map (elements_before done) (tree_of_items (items_view (x ∷ left)))
    → tree_of_value (view x) ≡ Some v → now ≡ done ++ v ∷ []
    → all ≡ option_map (elements_before now) (tree_of_items (items_view left))
items_more all done now x left v so_far one grown =
    so_far ∙ rw one (elements_map-push done v (tree_of_items (items_view left)))
    ∙ ap (λ (es : List Json). option_map (elements_before es) (tree_of_items (items_view left))) (sym grown)

-- a list of length 0 is empty
pub none_left : {A : Type 0} (xs : List A) → length xs ≡ 0 → xs ≡ []
none_left [] none = refl
none_left (x ∷ xs) none = absurd (omega arith)

-- all elements were
pub items_all : (all : Option Elements) (done : List Json) (left : List Value) → left ≡ []
    → all ≡ option_map (elements_before done) (tree_of_items (items_view left)) → all ≡ Some (elements_of done)
items_all all done left over so_far = so_far ∙ rw over (ap Some (elements_before-none done))

-- ---- wrong numbers

mapped : {A B : Type 0} (f : A → B) (o : Option A) (b : B) → option_map f o ≡ Some b → (a : A) × (o ≡ Some a)
mapped f None b e = absurd (cc)
mapped f (Some a) b e = (a, refl)

chained : {A B : Type 0} (f : A → Option B) (o : Option A) (b : B) → option_and_then f o ≡ Some b → (a : A) × (o ≡ Some a) × (f a ≡ Some b)
chained f None b e = absurd (cc)
chained f (Some a) b e = (a, refl, e)

whole_number : (o : Option ℤ) (v : Json) (wrong : List (List (List ℕ))) → option_map integer o ≡ Some v → cond (is_some o) [] wrong ≡ []
whole_number None v wrong e = absurd (cc)
whole_number (Some z) v wrong e = refl

nothing_below : (token : List ℕ) (places more : List (List (List ℕ))) → places ≡ [] → more ≡ [] → places_below token places ++ more ≡ []
nothing_below token places more none_here none_later = rw (none_here, none_later)

-- a value that has a tree has no wrong number
mutual
  pub none_wrong : (d : Data) (v : Json) → tree_of_value d ≡ Some v → wrong_numbers d ≡ []
  none_wrong json.null v e = refl
  none_wrong (json.boolean b) v e = refl
  none_wrong (json.number n) v e = whole_number (as_i64 n) v ([] ∷ []) e
  none_wrong (json.string s) v e = refl
  none_wrong (json.array ds) v e = let es = mapped array (tree_of_items ds) v e in none_wrong_in_items 0 ds es.0 es.1
  none_wrong (json.object ms) v e = let fs = mapped object (tree_of_members ms) v e in none_wrong_in_members ms fs.0 fs.1

  none_wrong_in_items : (i : ℕ) (ds : json.Items) (es : Elements) → tree_of_items ds ≡ Some es → wrong_in_items i ds ≡ []
  none_wrong_in_items i json.no_items es e = refl
  none_wrong_in_items i (json.item d ds) es e =
      let first = chained (λ v. option_map (element v) (tree_of_items ds)) (tree_of_value d) es e in
      let rest = mapped (element first.0) (tree_of_items ds) es first.2 in
      nothing_below (index_text i) (wrong_numbers d) (wrong_in_items (i + 1) ds) (none_wrong d first.0 first.1) (none_wrong_in_items (i + 1) ds rest.0 rest.1)

  none_wrong_in_members : (ms : json.Members) (fs : Members) → tree_of_members ms ≡ Some fs → wrong_in_members ms ≡ []
  none_wrong_in_members json.no_members fs e = refl
  none_wrong_in_members (json.member name d ms) fs e =
      let first = chained (λ v. option_map (member name v) (tree_of_members ms)) (tree_of_value d) fs e in
      let rest = mapped (member name first.0) (tree_of_members ms) fs first.2 in
      nothing_below name (wrong_numbers d) (wrong_in_members ms) (none_wrong d first.0 first.1) (none_wrong_in_members ms rest.0 rest.1)

-- a value whose first wrong number is named has no tree
pub no_tree_if_wrong : (d : Data) (pointer : List ℕ) (o : Option Json) → first_pointer (wrong_numbers d) ≡ Some pointer → tree_of_value d ≡ o → o ≡ None
no_tree_if_wrong d pointer None wrong e = refl
no_tree_if_wrong d pointer (Some v) wrong e = absurd (none-some pointer (rw (none_wrong d v e) at wrong))

-- ---- the first wrong number

-- a fault that names the first of these places names the first of these and more
pub NamesFirst-append : (places more : List (List (List ℕ))) (f : ReadFault) → NamesFirst places f → NamesFirst (places ++ more) f
NamesFirst-append places more NotJson h = absurd h
NamesFirst-append places more TooDeep h = absurd h
NamesFirst-append [] more (NotInteger pointer) h = absurd (none-some pointer h)
NamesFirst-append (place ∷ places) more (NotInteger pointer) h = h
NamesFirst-append places more NoMemory h = tt

-- the pointer to the first place below a token
pub named_below : (token place pointer : List ℕ) (places : List (List (List ℕ))) → first_pointer places ≡ Some place → pointer ≡ step_text token ++ place → first_pointer (places_below token places) ≡ Some pointer
named_below token place pointer [] first whole = absurd (none-some place first)
named_below token place pointer (steps ∷ places) first whole =
    let inside : place_text steps ≡ place = cc in
    ap (λ (rest : List ℕ). Some (step_text token ++ rest)) inside ∙ ap Some (sym whole)

-- no wrong number comes before those that are left
pub items_places_more : (all : List (List (List ℕ))) (i n : ℕ) (x : Value) (left : List Value) (v : Json) → n ≡ i + 1
    → all ≡ wrong_in_items i (items_view (x ∷ left)) → tree_of_value (view x) ≡ Some v → all ≡ wrong_in_items n (items_view left)
items_places_more all i n x left v next so_far one =
    so_far ∙ ap (λ (here : List (List (List ℕ))). places_below (index_text i) here ++ wrong_in_items (i + 1) (items_view left)) (none_wrong (view x) v one)
    ∙ ap (λ (k : ℕ). wrong_in_items k (items_view left)) (sym next)

pub item_fault : (all : List (List (List ℕ))) (i n : ℕ) (x : Value) (left : List Value) (f g : ReadFault) → n ≡ i
    → all ≡ wrong_in_items i (items_view (x ∷ left)) → NamesFirst (wrong_numbers (view x)) f
    → ((places : List (List (List ℕ))) → NamesFirst places f → NamesFirst (places_below (index_text n) places) g) → NamesFirst all g
item_fault all i n x left f g count so_far here out =
    let whole : all ≡ places_below (index_text n) (wrong_numbers (view x)) ++ wrong_in_items (i + 1) (items_view left) =
    so_far ∙ ap (λ (k : ℕ). places_below (index_text k) (wrong_numbers (view x)) ++ wrong_in_items (i + 1) (items_view left)) (sym count) in
    subst (λ (places : List (List (List ℕ))). NamesFirst places g) (sym whole)
    (NamesFirst-append _ (wrong_in_items (i + 1) (items_view left)) g (out (wrong_numbers (view x)) here))

-- ---- objects

-- the members; these come first
abbrev pub members_before : List (List ℕ × Json) → Members → Members
members_before [] rest = rest
members_before (m ∷ ms) rest = member m.0 m.1 (members_before ms rest)

members_before-none : (ms : List (List ℕ × Json)) → members_before ms no_members ≡ members_of ms
members_before-none [] = refl
members_before-none (m ∷ ms) = ap (member m.0 m.1) (members_before-none ms)

members_before-push : (ms : List (List ℕ × Json)) (name : List ℕ) (v : Json) (rest : Members) → members_before (ms ++ (name, v) ∷ []) rest ≡ members_before ms (member name v rest)
members_before-push [] name v rest = refl
members_before-push (m ∷ ms) name v rest = ap (member m.0 m.1) (members_before-push ms name v rest)

members_map-push : (ms : List (List ℕ × Json)) (name : List ℕ) (v : Json) (rest : Option Members) → option_map (members_before ms) (option_map (member name v) rest) ≡ option_map (members_before (ms ++ (name, v) ∷ [])) rest
members_map-push ms name v None = refl
members_map-push ms name v (Some rest) = ap Some (sym (members_before-push ms name v rest))

json_members-push : (ms : List (List ℕ × Tree)) (name : List ℕ) (t : Tree) → json_members (ms ++ (name, t) ∷ []) ≡ json_members ms ++ (name, json_of t) ∷ []
json_members-push [] name t = refl
json_members-push (m ∷ ms) name t = ap (λ (rest : List (List ℕ × Json)). (m.0, json_of m.1) ∷ rest) (json_members-push ms name t)

-- one more member was taken over
pub members_more : (all : Option Members) (done now : List (List ℕ × Tree)) (e : Entry) (left : List Entry) (name : List ℕ) (t : Tree)
    → all ≡ option_map (members_before (json_members done)) (tree_of_members (members_view (e ∷ left)))
    → tree_of_value (view e.1) ≡ Some (json_of t) → name ≡ string_bytes e.0 → now ≡ done ++ (name, t) ∷ []
    → all ≡ option_map (members_before (json_members now)) (tree_of_members (members_view left))
members_more all done now e left name t so_far one named is =
    so_far ∙ rw one (members_map-push (json_members done) (string_bytes e.0) (json_of t) (tree_of_members (members_view left)))
    ∙ ap (λ (ms : List (List ℕ × Json)). option_map (members_before ms) (tree_of_members (members_view left)))
    (sym (ap json_members is ∙ json_members-push done name t ∙ ap (λ (n : List ℕ). json_members done ++ (n, json_of t) ∷ []) named))

-- all members were
pub members_all : (all : Option Members) (done : List (List ℕ × Tree)) (left : List Entry) → left ≡ []
    → all ≡ option_map (members_before (json_members done)) (tree_of_members (members_view left)) → all ≡ Some (members_of (json_members done))
members_all all done left over so_far = so_far ∙ rw over (ap Some (members_before-none (json_members done)))

-- no wrong number comes before those that are left
pub members_places_more : (all : List (List (List ℕ))) (e : Entry) (left : List Entry) (v : Json)
    → all ≡ wrong_in_members (members_view (e ∷ left)) → tree_of_value (view e.1) ≡ Some v → all ≡ wrong_in_members (members_view left)
members_places_more all e left v so_far one =
    so_far ∙ ap (λ (here : List (List (List ℕ))). places_below (string_bytes e.0) here ++ wrong_in_members (members_view left)) (none_wrong (view e.1) v one)

pub member_fault : (all : List (List (List ℕ))) (e : Entry) (left : List Entry) (f g : ReadFault) → all ≡ wrong_in_members (members_view (e ∷ left))
    → NamesFirst (wrong_numbers (view e.1)) f
    → ((places : List (List (List ℕ))) → NamesFirst places f → NamesFirst (places_below (string_bytes e.0) places) g) → NamesFirst all g
member_fault all e left f g so_far here out =
    subst (λ (places : List (List (List ℕ))). NamesFirst places g) (sym so_far) (NamesFirst-append _ (wrong_in_members (members_view left)) g (out (wrong_numbers (view e.1)) here))

-- ---- the order of names

abbrev pub names_of : List (List ℕ × Tree) → List (List ℕ)
names_of ms = map (λ m. m.0) ms

abbrev pub entry_names : List Entry → List (List ℕ)
entry_names es = map (λ e. string_bytes e.0) es

names_of-push : (ms : List (List ℕ × Tree)) (name : List ℕ) (t : Tree) (rest : List (List ℕ)) → names_of (ms ++ (name, t) ∷ []) ++ rest ≡ names_of ms ++ name ∷ rest
names_of-push [] name t rest = refl
names_of-push (m ∷ ms) name t rest = ap (λ (more : List (List ℕ)). m.0 ∷ more) (names_of-push ms name t rest)

pub names_more : (all : List (List ℕ)) (done now : List (List ℕ × Tree)) (e : Entry) (left : List Entry) (name : List ℕ) (t : Tree)
    → names_of done ++ entry_names (e ∷ left) ≡ all → name ≡ string_bytes e.0 → now ≡ done ++ (name, t) ∷ [] → names_of now ++ entry_names left ≡ all
names_more all done now e left name t so_far named is =
    ap (λ (ms : List (List ℕ × Tree)). names_of ms ++ entry_names left) is ∙ names_of-push done name t (entry_names left)
    ∙ ap (λ (n : List ℕ). names_of done ++ n ∷ entry_names left) named ∙ so_far

abbrev AreSorted : List (List ℕ) → Type 0
AreSorted names = IsStrictlySortedBy (slice_cmp nat_cmp) names

entry_names-above : (first : String Global) (es : List Entry) → AllByRecursion (λ k. string_cmp first k ≡ Less) (keys_of es) → AllByRecursion (λ k. slice_cmp nat_cmp (string_bytes first) k ≡ Less) (entry_names es)
entry_names-above first [] h = tt
entry_names-above first (e ∷ es) h = (h.0, entry_names-above first es h.1)

entry_names-sorted : (es : List Entry) → IsStrictlySortedBy string_cmp (keys_of es) → AreSorted (entry_names es)
unfolding IsStrictlySortedBy
entry_names-sorted [] h = tt
entry_names-sorted (e ∷ es) h = (entry_names-above e.0 es h.0, entry_names-sorted es h.1)

ordered_if_sorted : (ms : List (List ℕ × Tree)) → AreSorted (names_of ms) → AreOrdered (json_members ms)
unfolding IsStrictlySortedBy
ordered_if_sorted [] h = tt
ordered_if_sorted (m ∷ []) h = tt
ordered_if_sorted (m ∷ n ∷ ms) h = (h.0.0, ordered_if_sorted (n ∷ ms) h.1)

-- members with the names of a map's entries, in their order, are ordered
pub ordered_as_entries : (ms : List (List ℕ × Tree)) (es left : List Entry) → left ≡ [] → names_of ms ++ entry_names left ≡ entry_names es → IsStrictlySortedBy string_cmp (keys_of es) → AreOrdered (json_members ms)
ordered_as_entries ms es left over same sorted =
    let names : names_of ms ≡ entry_names es = sym (append-nil (names_of ms)) ∙ rw over at same in
    ordered_if_sorted ms (subst AreSorted (sym names) (entry_names-sorted es sorted))
