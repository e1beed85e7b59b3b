-- The text of a value is read as that value.
use Rattle.std.proofs.Common.{◌≡◌, ℕ, suc, ◌^◌, ◌<◌, ◌≤◌, ℤ, pos, negsuc, List, [], ◌∷◌, ◌++◌, Some, None, option_map, option_and_then, decimal, refl, sym, ap, ap₂, ◌∙◌, subst, arith, append-nil, lt-ltb, le-leb, max, true, false}
use Rattle.std.specs.Prelude.{⊤, IsUtf8, FitsSigned, cond, nat_le}
use Rattle.std.specs.Int.{w64}
use Rattle.std.specs.Ordering.{nat_cmp, ordering_reverse}
use Rattle.std.specs.Cmp.Lexicographic.{slice_cmp}
use Rattle.std.specs.declared.cmp.Ordering.TheVariants.{Less, Greater}
use Rattle.std.specs.Fmt.{signed_decimal}
use Rattle.std.proofs.lemmas.Cmp.{nat_list_cmp_total}
use Rattle.std.proofs.lemmas.Fmt.{IsAscii-decimal}
use Rattle.std.proofs.lemmas.Str.{IsUtf8-append, IsUtf8-nil, IsUtf8-from_ascii}
use Rattle.json.specs.Json as grammar
use Rattle.json.specs.Tree as grammar_tree
use Rattle.json.specs.Tree.{json_tokens, HasNumbers, ItemsHaveNumbers, MembersHaveNumbers}
use Rattle.json.specs.Token.{Token}
use Rattle.json.specs.Lex.{tokens}
use Rattle.json.specs.Print.{print, IsNumber}
use Rattle.json.proofs.Printed.Trees.{value-json_tokens, ArePrintable-json_tokens}
use Rattle.json.proofs.Printed.Tokens.{tokens-print}
use Rattle.json.proofs.Printed.Decimals.{IsNumber-decimal, IsNumber-signed_decimal}
use Rattle.json.proofs.Printed.Utf8.{IsUtf8-quoted, IsUtf8-are_ascii, are_ascii}
use Rattle.serde_json.specs.Data as json
use Rattle.serde_json.specs.Data.{Data, put}
use Rattle.serde_json.specs.Find.{of_integer, as_i64}
use Rattle.serde_json.specs.Read.{read, of_json, of_items, of_members, number_of}
use Rattle.serde_json.specs.Written.{number_text, outline, items_outline, members_outline}
use Rattle.serde_json.proofs.Numbers.{number_of-decimal, number_of-negative}
use Rattle.serde_json.proofs.Texts.{print-outline}
use Rattle.wot_json.specs.Tree.{Json, null, boolean, integer, string, array, object, Elements, no_elements, element, Members, no_members, member, AreOrdered, nesting, elements_nesting, members_nesting}
use Rattle.wot_json.specs.Json.{text_of, elements_text, more_elements_text, members_text, more_members_text, json_string}
use Rattle.wot_json.specs.Reading.{value_of, tree_of, tree_of_value, tree_of_items, tree_of_members}
use Rattle.wot_json.specs.Lookup.{member_list}
use Rattle.wot_json.specs.WellFormed.{IsWellFormed, ElementsAreWellFormed, MembersAreWellFormed}
use Rattle.wot_json.proofs.CompactTexts.{data_of, items_of, fields_of, same_string, text_of-compact}
use Rattle.wot_json.proofs.TreeOf.{value_of-some}
use Rattle.wot_json.specs.declared.reading.TheConstants.{MAX_DEPTH}

-- ---- numbers

-- the number reads back, has a whole value, and its text is a number
fits : (z : ℤ) → FitsSigned w64 z → (number_of (number_text (of_integer z)) ≡ Some (of_integer z)) × (as_i64 (of_integer z) ≡ Some z) × IsNumber (number_text (of_integer z))
fits (pos n) h =
    let small : n < 2 ^ 63 = omega (arith, h) in
    (number_of-decimal n (omega arith), rw (lt-ltb n (2 ^ 63) small), IsNumber-decimal n (omega arith))
fits (negsuc n) h =
    let small : n < 2 ^ 63 = omega (arith, h) in
    (number_of-negative n small, refl, IsNumber-signed_decimal (negsuc n) small)

-- ---- the order of names

-- each of these names is below a name
abbrev AllBelow : List ℕ → json.Members → Type 0
AllBelow name json.no_members = ⊤
AllBelow name (json.member n d ms) = (slice_cmp nat_cmp n name ≡ Less) × AllBelow name ms

AllBelow-trans : (name next : List ℕ) (ms : json.Members) → slice_cmp nat_cmp name next ≡ Less → AllBelow name ms → AllBelow next ms
AllBelow-trans name next json.no_members less h = tt
AllBelow-trans name next (json.member n d ms) less h = (nat_list_cmp_total.trans n name next h.0 less, AllBelow-trans name next ms less h.1)

-- the members, and one more after them
abbrev then_member : json.Members → List ℕ → Data → json.Members
then_member json.no_members name d = json.member name d json.no_members
then_member (json.member n e ms) name d = json.member n e (then_member ms name d)

AllBelow-then : (next : List ℕ) (ms : json.Members) (name : List ℕ) (d : Data) → AllBelow next ms → slice_cmp nat_cmp name next ≡ Less → AllBelow next (then_member ms name d)
AllBelow-then next json.no_members name d h less = (less, tt)
AllBelow-then next (json.member n e ms) name d h less = (h.0, AllBelow-then next ms name d h.1 less)

put_last : (ms : json.Members) (name : List ℕ) (d : Data) → AllBelow name ms → put name d ms ≡ then_member ms name d
put_last json.no_members name d h = refl
put_last (json.member n e ms) name d h =
    let above : slice_cmp nat_cmp name n ≡ Greater = nat_list_cmp_total.antisymm name n ∙ ap ordering_reverse h.0 in
    rw above (ap (json.member n e) (put_last ms name d h.1))

-- the members, and these after them
abbrev joined : json.Members → json.Members → json.Members
joined json.no_members more = more
joined (json.member n d ms) more = json.member n d (joined ms more)

joined-then : (ms : json.Members) (name : List ℕ) (d : Data) (more : json.Members) → joined (then_member ms name d) more ≡ joined ms (json.member name d more)
joined-then json.no_members name d more = refl
joined-then (json.member n e ms) name d more = ap (json.member n e) (joined-then ms name d more)

joined-none : (ms : json.Members) → joined ms json.no_members ≡ ms
joined-none json.no_members = refl
joined-none (json.member n d ms) = ap (json.member n d) (joined-none ms)

-- all of the one are below the first of the other
abbrev ComeBefore : json.Members → Members → Type 0
ComeBefore done no_members = ⊤
ComeBefore done (member name v ms) = AllBelow name done

ordered_tail : (name : List ℕ) (v : Json) (ms : Members) → AreOrdered (member_list (member name v ms)) → AreOrdered (member_list ms)
ordered_tail name v no_members h = tt
ordered_tail name v (member next w ms) h = h.1

come_before_more : (done : json.Members) (name : List ℕ) (v : Json) (d : Data) (ms : Members) → AllBelow name done → AreOrdered (member_list (member name v ms)) → ComeBefore (then_member done name d) ms
come_before_more done name v d no_members h ordered = tt
come_before_more done name v d (member next w ms) h ordered = AllBelow-then next done name d (AllBelow-trans name next done ordered.0 h) ordered.0

-- ---- the grammar's value

mutual
  reads_value : (v : Json) → IsWellFormed v → of_json (outline (data_of v)) ≡ Some (data_of v)
  reads_value null h = refl
  reads_value (boolean b) h = refl
  reads_value (integer z) h = ap (option_map json.number) (fits z h).0
  reads_value (string s) h = refl
  reads_value (array es) h = ap (option_map json.array) (reads_elements es h)
  reads_value (object ms) h = ap (option_map json.object) (reads_members ms json.no_members (nothing_before ms) h.0 h.1)

  reads_elements : (es : Elements) → ElementsAreWellFormed es → of_items (items_outline (items_of es)) ≡ Some (items_of es)
  reads_elements no_elements h = refl
  reads_elements (element v es) h =
      ap (option_and_then (λ d. option_map (json.item d) (of_items (items_outline (items_of es))))) (reads_value v h.0)
      ∙ ap (option_map (json.item (data_of v))) (reads_elements es h.1)

  reads_members : (ms : Members) (done : json.Members) → ComeBefore done ms → AreOrdered (member_list ms) → MembersAreWellFormed ms → of_members (members_outline (fields_of ms)) done ≡ Some (joined done (fields_of ms))
  reads_members no_members done before ordered h = ap Some (sym (joined-none done))
  reads_members (member name v ms) done before ordered h =
      ap (option_and_then (λ d. of_members (members_outline (fields_of ms)) (put name d done))) (reads_value v h.1)
      ∙ ap (of_members (members_outline (fields_of ms))) (put_last done name (data_of v) before)
      ∙ reads_members ms (then_member done name (data_of v)) (come_before_more done name v (data_of v) ms before ordered) (ordered_tail name v ms ordered) h.2
      ∙ ap Some (joined-then done name (data_of v) (fields_of ms))

  nothing_before : (ms : Members) → ComeBefore json.no_members ms
  nothing_before no_members = tt
  nothing_before (member name v ms) = tt

mutual
  has_numbers : (v : Json) → IsWellFormed v → HasNumbers (outline (data_of v))
  has_numbers null h = tt
  has_numbers (boolean b) h = tt
  has_numbers (integer z) h = (fits z h).2
  has_numbers (string s) h = tt
  has_numbers (array es) h = elements_have_numbers es h
  has_numbers (object ms) h = members_have_numbers ms h.1

  elements_have_numbers : (es : Elements) → ElementsAreWellFormed es → ItemsHaveNumbers (items_outline (items_of es))
  elements_have_numbers no_elements h = tt
  elements_have_numbers (element v es) h = (has_numbers v h.0, elements_have_numbers es h.1)

  members_have_numbers : (ms : Members) → MembersAreWellFormed ms → MembersHaveNumbers (members_outline (fields_of ms))
  members_have_numbers no_members h = tt
  members_have_numbers (member name v ms) h = (has_numbers v h.1, members_have_numbers ms h.2)

-- ---- depths

mutual
  depth-outline : (v : Json) → grammar_tree.depth (outline (data_of v)) ≡ nesting v
  depth-outline null = refl
  depth-outline (boolean b) = refl
  depth-outline (integer z) = refl
  depth-outline (string s) = refl
  depth-outline (array es) = omega (arith, depth-items_outline es)
  depth-outline (object ms) = omega (arith, depth-members_outline ms)

  depth-items_outline : (es : Elements) → grammar_tree.items_depth (items_outline (items_of es)) ≡ elements_nesting es
  depth-items_outline no_elements = refl
  depth-items_outline (element v es) = ap₂ (λ (a b : ℕ). max a b) (depth-outline v) (depth-items_outline es)

  depth-members_outline : (ms : Members) → grammar_tree.members_depth (members_outline (fields_of ms)) ≡ members_nesting ms
  depth-members_outline no_members = refl
  depth-members_outline (member name v ms) = ap₂ (λ (a b : ℕ). max a b) (depth-outline v) (depth-members_outline ms)

mutual
  depth-data_of : (v : Json) → json.depth (data_of v) ≡ nesting v
  depth-data_of null = refl
  depth-data_of (boolean b) = refl
  depth-data_of (integer z) = refl
  depth-data_of (string s) = refl
  depth-data_of (array es) = omega (arith, depth-items_of es)
  depth-data_of (object ms) = omega (arith, depth-fields_of ms)

  depth-items_of : (es : Elements) → json.items_depth (items_of es) ≡ elements_nesting es
  depth-items_of no_elements = refl
  depth-items_of (element v es) = ap₂ (λ (a b : ℕ). max a b) (depth-data_of v) (depth-items_of es)

  depth-fields_of : (ms : Members) → json.members_depth (fields_of ms) ≡ members_nesting ms
  depth-fields_of no_members = refl
  depth-fields_of (member name v ms) = ap₂ (λ (a b : ℕ). max a b) (depth-data_of v) (depth-fields_of ms)

-- ---- the text is UTF-8

IsUtf8-decimal : (n : ℕ) → n < 2 ^ 64 → IsUtf8 (decimal n)
IsUtf8-decimal n h = IsUtf8-from_ascii (decimal n) (IsAscii-decimal n h)

IsUtf8-number : (z : ℤ) → FitsSigned w64 z → IsUtf8 (signed_decimal z)
IsUtf8-number (pos n) h = IsUtf8-decimal n (omega (arith, h))
IsUtf8-number (negsuc n) h = IsUtf8-append (45 ∷ []) (decimal (suc n)) (IsUtf8-are_ascii (45 ∷ []) refl) (IsUtf8-decimal (suc n) (omega (arith, h)))

IsUtf8-between : (first last : ℕ) (inside : List ℕ) → are_ascii (first ∷ []) ≡ true → are_ascii (last ∷ []) ≡ true → IsUtf8 inside → IsUtf8 (first ∷ (inside ++ last ∷ []))
IsUtf8-between first last inside a b u =
    IsUtf8-append (first ∷ []) (inside ++ last ∷ []) (IsUtf8-are_ascii (first ∷ []) a) (IsUtf8-append inside (last ∷ []) u (IsUtf8-are_ascii (last ∷ []) b))

IsUtf8-string : (s : List ℕ) → IsUtf8 s → IsUtf8 (json_string s)
IsUtf8-string s u = subst IsUtf8 (sym (same_string s)) (IsUtf8-quoted s u)

IsUtf8-member : (name value more : List ℕ) → IsUtf8 name → IsUtf8 value → IsUtf8 more → IsUtf8 (json_string name ++ 58 ∷ [] ++ value ++ more)
IsUtf8-member name value more a b c =
    IsUtf8-append (json_string name ++ 58 ∷ [] ++ value) more (IsUtf8-append (json_string name ++ 58 ∷ []) value (IsUtf8-append (json_string name) (58 ∷ []) (IsUtf8-string name a) (IsUtf8-are_ascii (58 ∷ []) refl)) b) c

IsUtf8-comma : (text : List ℕ) → IsUtf8 text → IsUtf8 (44 ∷ text)
IsUtf8-comma text u = IsUtf8-append (44 ∷ []) text (IsUtf8-are_ascii (44 ∷ []) refl) u

mutual
  IsUtf8-text_of : (v : Json) → IsWellFormed v → IsUtf8 (text_of v)
  IsUtf8-text_of null h = IsUtf8-are_ascii (text_of null) refl
  IsUtf8-text_of (boolean true) h = IsUtf8-are_ascii (text_of (boolean true)) refl
  IsUtf8-text_of (boolean false) h = IsUtf8-are_ascii (text_of (boolean false)) refl
  IsUtf8-text_of (integer z) h = IsUtf8-number z h
  IsUtf8-text_of (string s) h = IsUtf8-string s h
  IsUtf8-text_of (array es) h = IsUtf8-between 91 93 (elements_text es) refl refl (IsUtf8-elements es h)
  IsUtf8-text_of (object ms) h = IsUtf8-between 123 125 (members_text ms) refl refl (IsUtf8-members ms h.1)

  IsUtf8-elements : (es : Elements) → ElementsAreWellFormed es → IsUtf8 (elements_text es)
  IsUtf8-elements no_elements h = IsUtf8-nil
  IsUtf8-elements (element v es) h = IsUtf8-append (text_of v) (more_elements_text es) (IsUtf8-text_of v h.0) (IsUtf8-more_elements es h.1)

  IsUtf8-more_elements : (es : Elements) → ElementsAreWellFormed es → IsUtf8 (more_elements_text es)
  IsUtf8-more_elements no_elements h = IsUtf8-nil
  IsUtf8-more_elements (element v es) h = IsUtf8-comma (text_of v ++ more_elements_text es) (IsUtf8-append (text_of v) (more_elements_text es) (IsUtf8-text_of v h.0) (IsUtf8-more_elements es h.1))

  IsUtf8-members : (ms : Members) → MembersAreWellFormed ms → IsUtf8 (members_text ms)
  IsUtf8-members no_members h = IsUtf8-nil
  IsUtf8-members (member name v ms) h = IsUtf8-member name (text_of v) (more_members_text ms) h.0 (IsUtf8-text_of v h.1) (IsUtf8-more_members ms h.2)

  IsUtf8-more_members : (ms : Members) → MembersAreWellFormed ms → IsUtf8 (more_members_text ms)
  IsUtf8-more_members no_members h = IsUtf8-nil
  IsUtf8-more_members (member name v ms) h =
      IsUtf8-comma (json_string name ++ 58 ∷ [] ++ text_of v ++ more_members_text ms) (IsUtf8-member name (text_of v) (more_members_text ms) h.0 (IsUtf8-text_of v h.1) (IsUtf8-more_members ms h.2))

-- ---- the tree

mutual
  tree_of_value-data_of : (v : Json) → IsWellFormed v → tree_of_value (data_of v) ≡ Some v
  tree_of_value-data_of null h = refl
  tree_of_value-data_of (boolean b) h = refl
  tree_of_value-data_of (integer z) h = ap (option_map integer) (fits z h).1
  tree_of_value-data_of (string s) h = refl
  tree_of_value-data_of (array es) h = ap (option_map array) (tree_of_items-items_of es h)
  tree_of_value-data_of (object ms) h = ap (option_map object) (tree_of_members-fields_of ms h.1)

  tree_of_items-items_of : (es : Elements) → ElementsAreWellFormed es → tree_of_items (items_of es) ≡ Some es
  tree_of_items-items_of no_elements h = refl
  tree_of_items-items_of (element v es) h =
      ap (option_and_then (λ w. option_map (element w) (tree_of_items (items_of es)))) (tree_of_value-data_of v h.0)
      ∙ ap (option_map (element v)) (tree_of_items-items_of es h.1)

  tree_of_members-fields_of : (ms : Members) → MembersAreWellFormed ms → tree_of_members (fields_of ms) ≡ Some ms
  tree_of_members-fields_of no_members h = refl
  tree_of_members-fields_of (member name v ms) h =
      ap (option_and_then (λ w. option_map (member name w) (tree_of_members (fields_of ms)))) (tree_of_value-data_of v h.1)
      ∙ ap (option_map (member name v)) (tree_of_members-fields_of ms h.2)

-- ---- the law

text_is_printed : (v : Json) → text_of v ≡ print (json_tokens (outline (data_of v)))
text_is_printed v = text_of-compact v ∙ sym (print-outline (data_of v))

read-text_of : (v : Json) → IsWellFormed v → nesting v ≤ 127 → read (text_of v) ≡ Some (data_of v)
read-text_of v h shallow =
    let ts = json_tokens (outline (data_of v)) in
    let lexed : tokens (text_of v) ≡ ts ++ [] = ap tokens (text_is_printed v) ∙ tokens-print ts (ArePrintable-json_tokens (outline (data_of v)) (has_numbers v h)) ∙ sym (append-nil ts) in
    ap (λ (o : List Token). option_and_then of_json (option_and_then (λ p. grammar.if_last p.0 p.1) (grammar.value 127 o))) lexed
    ∙ ap (λ o. option_and_then of_json (option_and_then (λ p. grammar.if_last p.0 p.1) o)) (value-json_tokens (outline (data_of v)) 127 [] (omega (arith, depth-outline v)))
    ∙ reads_value v h

pub tree_of-text_of : (v : Json) → IsWellFormed v → nesting v ≤ MAX_DEPTH → tree_of (text_of v) ≡ Some v
tree_of-text_of v h shallow =
    let value : value_of (text_of v) ≡ Some (data_of v) = value_of-some (text_of v) (data_of v) (IsUtf8-text_of v h) (read-text_of v h (omega arith)) in
    let within : json.depth (data_of v) ≤ MAX_DEPTH = omega (arith, depth-data_of v) in
    ap (option_and_then (λ d. cond (nat_le (json.depth d) MAX_DEPTH) (tree_of_value d) None)) value
    ∙ rw (le-leb (json.depth (data_of v)) MAX_DEPTH within) (tree_of_value-data_of v h)
