-- Words on JSON values that data schemas use.
use Rattle.std.specs.Prelude.{ℕ, ◌+◌, ◌⊎◌, ℤ, List, length, ⊤}
use Rattle.std.specs.Str.{chars}
use Rattle.wot_json.specs.Tree.{Json, integer, string, array, object, Elements, no_elements, element, Members}

-- this of the number, where the value is an integer
abbrev pub IfInteger : Json → (ℤ → Type 0) → Type 0
IfInteger (integer n) P = P n
IfInteger _ P = ⊤

-- this of the text, where the value is a string
abbrev pub IfString : Json → (List ℕ → Type 0) → Type 0
IfString (string t) P = P t
IfString _ P = ⊤

-- this of the elements, where the value is an array
abbrev pub IfArray : Json → (Elements → Type 0) → Type 0
IfArray (array es) P = P es
IfArray _ P = ⊤

-- this of the members, where the value is an object
abbrev pub IfObject : Json → (Members → Type 0) → Type 0
IfObject (object ms) P = P ms
IfObject _ P = ⊤

-- this of each element
abbrev pub EachElement : (Json → Type 0) → Elements → Type 0
EachElement P no_elements = ⊤
EachElement P (element v es) = P v × EachElement P es

-- this of some element
abbrev pub SomeElement : (Json → Type 0) → Elements → Type 0
SomeElement P no_elements = ⊥
SomeElement P (element v es) = P v ⊎ SomeElement P es

abbrev pub element_count : Elements → ℕ
element_count no_elements = 0
element_count (element v es) = element_count es + 1

-- The number of characters, which is code points, of a text in UTF-8 (RFC 8259 section 8.2; RFC 3629 section 3).
abbrev pub code_points : List ℕ → ℕ
code_points text = length (chars text)
