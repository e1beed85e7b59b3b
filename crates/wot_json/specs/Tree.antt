-- JSON values (RFC 8259, section 3).
use Rattle.std.specs.Prelude.{◌≡◌, ℕ, ◌+◌, max, ℤ, List, [], ◌∷◌, Bool}
use Rattle.std.specs.Ordering.{nat_cmp}
use Rattle.std.specs.declared.cmp.Ordering.TheVariants.{Less}
use Rattle.std.specs.Cmp.Lexicographic.{slice_cmp}

-- A value, apart from where it lies in memory: numbers are whole, and texts are the lists of their UTF-8 bytes.
mutual
  pub data Json : Type 0 where
    null : Json
    boolean : Bool → Json
    integer : ℤ → Json
    string : List ℕ → Json
    array : Elements → Json
    object : Members → Json

  pub data Elements : Type 0 where
    no_elements : Elements
    element : Json → Elements → Elements

  pub data Members : Type 0 where
    no_members : Members
    member : List ℕ → Json → Members → Members

-- the array of these elements, and the object of these members
abbrev pub elements_of : List Json → Elements
elements_of [] = no_elements
elements_of (v ∷ vs) = element v (elements_of vs)

abbrev pub members_of : List (List ℕ × Json) → Members
members_of [] = no_members
members_of (m ∷ ms) = member m.0 m.1 (members_of ms)

-- the depth to which arrays and objects nest: 0 for a value that is neither, and one that is empty counts 1
abbrev mutual
  pub nesting : Json → ℕ
  nesting null = 0
  nesting (boolean b) = 0
  nesting (integer z) = 0
  nesting (string s) = 0
  nesting (array es) = elements_nesting es + 1
  nesting (object ms) = members_nesting ms + 1

  pub elements_nesting : Elements → ℕ
  elements_nesting no_elements = 0
  elements_nesting (element v es) = max (nesting v) (elements_nesting es)

  pub members_nesting : Members → ℕ
  members_nesting no_members = 0
  members_nesting (member n v ms) = max (nesting v) (members_nesting ms)

abbrev pub most_nesting : List Json → ℕ
most_nesting vs = elements_nesting (elements_of vs)

abbrev pub most_member_nesting : List (List ℕ × Json) → ℕ
most_member_nesting ms = members_nesting (members_of ms)

-- names in byte order, each once
abbrev pub AreOrdered : List (List ℕ × Json) → Type 0
AreOrdered [] = Unit {0}
AreOrdered (m ∷ []) = Unit {0}
AreOrdered (m ∷ n ∷ ms) = (slice_cmp nat_cmp m.0 n.0 ≡ Less) × AreOrdered (n ∷ ms)
