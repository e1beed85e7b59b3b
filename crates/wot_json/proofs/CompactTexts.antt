-- The text of a value is the compact text that `serde_json` has for it.
use Rattle.std.proofs.Common.{◌≡◌, ℕ, zero, suc, ◌<◌, ◌≤◌, ℤ, pos, negsuc, List, [], ◌∷◌, ◌++◌, Bool, true, false, refl, sym, ap, ap₂, ◌∙◌, arith, append_assoc, inl, inr, bytes_eq, ◌&&◌}
use Rattle.std.specs.List.{flat_map}
use Rattle.std.proofs.lemmas.Bool.{cases_lt, cases_eq, and_parts}
use Rattle.std.proofs.lemmas.Bool.Decides.{nat_tests}
use Rattle.json.specs.Print.{escape_byte, escape, quoted}
use Rattle.std.proofs.lemmas.Slice.Eq.{bytes_eq-Decides}
use Rattle.json.proofs.Printed.Strings.{escape_byte_plain}
use Rattle.serde_json.specs.Data as json
use Rattle.serde_json.specs.Data.{Data}
use Rattle.serde_json.specs.Find.{of_integer}
use Rattle.serde_json.specs.Written.{number_text, compact_text, items_text, members_text as fields_text}
use Rattle.wot_json.specs.Tree.{Json, null, boolean, integer, string, array, object, Elements, no_elements, element, Members, no_members, member}
use Rattle.wot_json.specs.Json.{escaped_byte, json_string, text_of, elements_text, more_elements_text, members_text, more_members_text}

-- the value as `serde_json` has it
abbrev mutual
  pub data_of : Json → Data
  data_of null = json.null
  data_of (boolean b) = json.boolean b
  data_of (integer z) = json.number (of_integer z)
  data_of (string s) = json.string s
  data_of (array es) = json.array (items_of es)
  data_of (object ms) = json.object (fields_of ms)

  pub items_of : Elements → json.Items
  items_of no_elements = json.no_items
  items_of (element v es) = json.item (data_of v) (items_of es)

  pub fields_of : Members → json.Members
  fields_of no_members = json.no_members
  fields_of (member name v ms) = json.member name (data_of v) (fields_of ms)

-- all bytes below n are written alike
abbrev alike_below : ℕ → Bool
alike_below zero = true
alike_below (suc n) = bytes_eq (escaped_byte n) (escape_byte n) && alike_below n

low_byte : (n : ℕ) → alike_below n ≡ true → (b : ℕ) → b < n → escaped_byte b ≡ escape_byte b
low_byte zero e b h = absurd (omega arith)
low_byte (suc n) e b h =
    let both = and_parts _ _ e in
    elim (cases_eq b n) [ inl same ↦ rw same ((bytes_eq-Decides (escaped_byte n) (escape_byte n)).0 both.0) | inr other ↦ low_byte n both.1 b (omega arith) ]

all_low : alike_below 128 ≡ true
unfolding escape_byte
all_low = refl

plain_byte : (b : ℕ) → 128 ≤ b → escaped_byte b ≡ b ∷ []
plain_byte b high = grind (arith, nat_tests)

same_byte : (b : ℕ) → escaped_byte b ≡ escape_byte b
same_byte b = elim (cases_lt b 128) [
  | inl low ↦ low_byte 128 all_low b low
  | inr high ↦ plain_byte b high ∙ sym (escape_byte_plain b (λ e. omega arith) (λ e. omega arith) (omega arith))
]

same_bytes : (s : List ℕ) → flat_map escaped_byte s ≡ escape s
same_bytes [] = refl
same_bytes (b ∷ s) = ap₂ (λ (here rest : List ℕ). here ++ rest) (same_byte b) (same_bytes s)

pub same_string : (s : List ℕ) → json_string s ≡ quoted s
same_string s = ap (λ (inside : List ℕ). 34 ∷ (inside ++ 34 ∷ [])) (same_bytes s)

same_number : (z : ℤ) → text_of (integer z) ≡ number_text (of_integer z)
same_number (pos n) = refl
same_number (negsuc n) = refl

regroup_member : (n n' v v' more end more' : List ℕ) → n ≡ n' → v ≡ v' → more ++ end ≡ more' → (((n ++ 58 ∷ []) ++ v) ++ more) ++ end ≡ n' ++ 58 ∷ (v' ++ more')
regroup_member n n' v v' more end more' name value rest =
    append_assoc ((n ++ 58 ∷ []) ++ v) more end ∙ append_assoc (n ++ 58 ∷ []) v (more ++ end) ∙ append_assoc n (58 ∷ []) (v ++ (more ++ end))
    ∙ ap₂ (λ (a b : List ℕ). a ++ 58 ∷ b) name (ap₂ (λ (a b : List ℕ). a ++ b) value rest)

mutual
  pub text_of-compact : (v : Json) → text_of v ≡ compact_text (data_of v)
  text_of-compact null = refl
  text_of-compact (boolean true) = refl
  text_of-compact (boolean false) = refl
  text_of-compact (integer z) = same_number z
  text_of-compact (string s) = same_string s
  text_of-compact (array es) = ap (λ (rest : List ℕ). 91 ∷ rest) (first_elements es)
  text_of-compact (object ms) = ap (λ (rest : List ℕ). 123 ∷ rest) (first_members ms)

  first_elements : (es : Elements) → elements_text es ++ 93 ∷ [] ≡ items_text false (items_of es)
  first_elements no_elements = refl
  first_elements (element v es) =
      append_assoc (text_of v) (more_elements_text es) (93 ∷ []) ∙ ap₂ (λ (a b : List ℕ). a ++ b) (text_of-compact v) (more_elements es)

  more_elements : (es : Elements) → more_elements_text es ++ 93 ∷ [] ≡ items_text true (items_of es)
  more_elements no_elements = refl
  more_elements (element v es) =
      ap (λ (rest : List ℕ). 44 ∷ rest)
      (append_assoc (text_of v) (more_elements_text es) (93 ∷ []) ∙ ap₂ (λ (a b : List ℕ). a ++ b) (text_of-compact v) (more_elements es))

  first_members : (ms : Members) → members_text ms ++ 125 ∷ [] ≡ fields_text false (fields_of ms)
  first_members no_members = refl
  first_members (member name v ms) = regroup_member (json_string name) (quoted name) (text_of v) (compact_text (data_of v)) (more_members_text ms) (125 ∷ []) (fields_text true (fields_of ms)) (same_string name) (text_of-compact v) (more_members ms)

  more_members : (ms : Members) → more_members_text ms ++ 125 ∷ [] ≡ fields_text true (fields_of ms)
  more_members no_members = refl
  more_members (member name v ms) =
      ap (λ (rest : List ℕ). 44 ∷ rest)
      (regroup_member (json_string name) (quoted name) (text_of v) (compact_text (data_of v)) (more_members_text ms) (125 ∷ []) (fields_text true (fields_of ms)) (same_string name) (text_of-compact v) (more_members ms))
