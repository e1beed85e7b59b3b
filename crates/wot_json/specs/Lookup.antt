-- The parts of a value as lists, and the value under a name of an object.
use Rattle.std.specs.Prelude.{ℕ, List, [], ◌∷◌, Option, Some, None, if◌then◌else◌}
use Rattle.std.specs.Str.{bytes_eq}
use Rattle.wot_json.specs.Tree.{Json, Elements, no_elements, element, Members, no_members, member}

-- the elements of an array as a list
abbrev pub element_list : Elements → List Json
element_list no_elements = []
element_list (element v es) = v ∷ element_list es

-- the members of an object as a list
abbrev pub member_list : Members → List (List ℕ × Json)
member_list no_members = []
member_list (member n v ms) = (n, v) ∷ member_list ms

-- the value of the member of this name, where the object has one
abbrev pub member_named : List ℕ → List (List ℕ × Json) → Option Json
member_named name [] = None
member_named name (m ∷ ms) = if bytes_eq name m.0 then Some m.1 else member_named name ms

-- the value of the member of this name among the members of an object, where it has one
abbrev pub value_under : List ℕ → Members → Option Json
value_under name ms = member_named name (member_list ms)
