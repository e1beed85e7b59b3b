-- The value of a tree of the code.
use Rattle.std.specs.Prelude.{ℕ, List, map}
use Rattle.wot_json.specs.Tree.{Json, null, boolean, integer, string, array, object, elements_of, members_of}
use Rattle.wot_json.specs.declared.tree.Tree.{Tree}
use Rattle.wot_json.specs.declared.tree.Tree.TheVariants as tree

abbrev pub json_of : Tree → Json
json_of tree.Null = null
json_of (tree.Bool b) = boolean b
json_of (tree.Int z) = integer z
json_of (tree.Text s) = string s
json_of (tree.List vs) = array (elements_of vs)
json_of (tree.Obj ms) = object (members_of ms)

-- the values of elements, of a member and of members
abbrev pub json_items : List Tree → List Json
json_items = map json_of

abbrev pub json_member : List ℕ × Tree → List ℕ × Json
json_member m = (m.0, json_of m.1)

abbrev pub json_members : List (List ℕ × Tree) → List (List ℕ × Json)
json_members = map json_member
