-- The placeholders that are left in a value.
use Rattle.std.specs.Prelude.{ℕ, ◌+◌, List, [], ◌++◌, map}
use Rattle.wot_json.specs.Tree.{Json, null, boolean, integer, string, array, object, Elements, no_elements, element, Members, no_members, member}
use Rattle.wot_json.specs.Places.{step_text, element_step_text}
use Rattle.tm_parts.specs.Placeholders.{placeholders}

-- a placeholder that is left: its name, and the pointer to the text that has it
abbrev pub Hole : Type 0
Hole = List ℕ × List ℕ

-- a placeholder as it is seen from the value around the part that has it: its pointer begins with this step
abbrev pub hole_inside : List ℕ → Hole → Hole
hole_inside step hole = (hole.0, step ++ hole.1)

-- the placeholders of one text, from the left
abbrev pub text_holes : List ℕ → List Hole
text_holes text = map (λ name. (name, [])) (placeholders text)

-- all placeholders of the texts of a value, in preorder; names of members are no texts
abbrev mutual
  pub holes_of : Json → List Hole
  holes_of null = []
  holes_of (boolean b) = []
  holes_of (integer z) = []
  holes_of (string s) = text_holes s
  holes_of (array es) = element_holes 0 es
  holes_of (object ms) = member_holes ms

  pub element_holes : ℕ → Elements → List Hole
  element_holes index no_elements = []
  element_holes index (element v es) = map (hole_inside (element_step_text index)) (holes_of v) ++ element_holes (index + 1) es

  pub member_holes : Members → List Hole
  member_holes no_members = []
  member_holes (member n v ms) = map (hole_inside (step_text n)) (holes_of v) ++ member_holes ms
