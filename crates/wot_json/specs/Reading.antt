-- The tree of bytes. The kit's `serde_json` decides whether a text is JSON and which value it has. There an object has
-- each name once, in byte order, with the value of the last member of that name. So a value is judged and not its
-- text: the content of a member that a later one of its name replaces doesn't count.
use Rattle.std.specs.Prelude.{◌≡◌, ℕ, ◌+◌, ◌<◌, ◌≤◌, List, [], ◌∷◌, ◌++◌, map, slice_get, Option, Some, None, option_map, option_and_then, is_some, nat_le, if◌then◌else◌}
use Rattle.std.specs.Str.{is_utf8}
use Rattle.serde_json.specs.Data as json
use Rattle.serde_json.specs.Data.{Data, depth}
use Rattle.serde_json.specs.Find.{as_i64}
use Rattle.serde_json.specs.Read.{read}
use Rattle.wot_json.specs.Tree.{Json, null, boolean, integer, string, array, object, Elements, no_elements, element, Members, no_members, member}
use Rattle.wot_json.specs.Places.{index_text, place_text}
use Rattle.wot_json.specs.declared.reading.TheConstants.{MAX_DEPTH}

-- The value of bytes, where they are UTF-8 and one JSON text (RFC 8259 sections 2 and 8.1).
abbrev pub value_of : List ℕ → Option Data
value_of bytes = if is_utf8 bytes then read bytes else None

-- The tree of a value: the same, where each number in it is whole and has 64 bits with sign.
abbrev mutual
  pub tree_of_value : Data → Option Json
  tree_of_value json.null = Some null
  tree_of_value (json.boolean b) = Some (boolean b)
  tree_of_value (json.number n) = option_map integer (as_i64 n)
  tree_of_value (json.string s) = Some (string s)
  tree_of_value (json.array ds) = option_map array (tree_of_items ds)
  tree_of_value (json.object ms) = option_map object (tree_of_members ms)

  pub tree_of_items : json.Items → Option Elements
  tree_of_items json.no_items = Some no_elements
  tree_of_items (json.item d ds) = option_and_then (λ v. option_map (element v) (tree_of_items ds)) (tree_of_value d)

  pub tree_of_members : json.Members → Option Members
  tree_of_members json.no_members = Some no_members
  tree_of_members (json.member name d ms) = option_and_then (λ v. option_map (member name v) (tree_of_members ms)) (tree_of_value d)

-- The tree of bytes: that of their value, which nests no deeper than is allowed.
abbrev pub tree_of : List ℕ → Option Json
tree_of bytes = option_and_then (λ d. if nat_le (depth d) MAX_DEPTH then tree_of_value d else None) (value_of bytes)

-- these places one step further in, below this token
abbrev pub places_below : List ℕ → List (List (List ℕ)) → List (List (List ℕ))
places_below token places = map (λ place. token ∷ place) places

-- The places of the numbers of a value that are not whole or need more than 64 bits with sign, in preorder: a list in
-- the order of its elements, an object in the byte order of its names.
abbrev mutual
  pub wrong_numbers : Data → List (List (List ℕ))
  wrong_numbers json.null = []
  wrong_numbers (json.boolean b) = []
  wrong_numbers (json.number n) = if is_some (as_i64 n) then [] else [] ∷ []
  wrong_numbers (json.string s) = []
  wrong_numbers (json.array ds) = wrong_in_items 0 ds
  wrong_numbers (json.object ms) = wrong_in_members ms

  -- in the elements from this index on
  pub wrong_in_items : ℕ → json.Items → List (List (List ℕ))
  wrong_in_items i json.no_items = []
  wrong_in_items i (json.item d ds) = places_below (index_text i) (wrong_numbers d) ++ wrong_in_items (i + 1) ds

  pub wrong_in_members : json.Members → List (List (List ℕ))
  wrong_in_members json.no_members = []
  wrong_in_members (json.member name d ms) = places_below name (wrong_numbers d) ++ wrong_in_members ms

-- the pointer to the first of these places
abbrev pub first_pointer : List (List (List ℕ)) → Option (List ℕ)
first_pointer places = option_map place_text (slice_get places 0)

-- the value of the bytes nests too deep
abbrev pub IsTooDeep : List ℕ → Type 0
IsTooDeep bytes = (d : Data) × (value_of bytes ≡ Some d) × (MAX_DEPTH < depth d)

-- The value of the bytes nests no deeper than is allowed, and its first wrong number is at this pointer.
abbrev pub IsFirstWrong : List ℕ → List ℕ → Type 0
IsFirstWrong bytes pointer = (d : Data) × (value_of bytes ≡ Some d) × (depth d ≤ MAX_DEPTH) × (first_pointer (wrong_numbers d) ≡ Some pointer)
