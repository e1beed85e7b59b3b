-- Nodes with values in place of their placeholders, as contracts see them.
use Rattle.std.specs.Prelude.{◌≡◌, ℕ, List, [], Option, Some, None}
use Rattle.std.proofs.Common.{Bor}
use Rattle.std.specs.List.{flat_map}
use Rattle.wot_json.specs.Tree.{Json, null, boolean, integer, string, array, object, Elements, elements_of, Members, members_of}
use Rattle.wot_json.specs.Meaning.{json_of, json_items}
use Rattle.tm_parts.specs.Placeholders.{pieces}
use Rattle.tm_parts.specs.Substitution.{Values, bound_value, piece_text, substituted_value, substituted_elements, substituted_members}
use Rattle.tm_parts.specs.declared.view.View.{View}
use Rattle.tm_parts.specs.declared.view.Node.{Node}
use Rattle.tm_parts.specs.declared.view.Node.TheVariants as node
use Rattle.tm_parts.specs.declared.view.TextView.{TextView}
use Rattle.tm_parts.specs.declared.view.ListView.{ListView}
use Rattle.tm_parts.specs.declared.view.ObjectView.{ObjectView}

-- under each name the two have the same value, or none
abbrev pub BindAlike : Values → Values → Type 0
BindAlike values others = (name : List ℕ) → bound_value name values ≡ bound_value name others

-- the values that take the places of placeholders: none where there are no values
abbrev pub values_in : Option (Bor Values) → Values
values_in None = []
values_in (Some values) = values.now

-- the value of a node
abbrev pub seen : View → Json
seen view = substituted_value (json_of view.tree.now) (values_in view.values)

-- the bytes of a text
abbrev pub seen_text : TextView → List ℕ
seen_text view = flat_map (piece_text (values_in view.values)) (pieces view.text.now)

-- the elements of a list, and the members of an object
abbrev pub seen_elements : ListView → Elements
seen_elements view = substituted_elements (elements_of (json_items view.items.now)) (values_in view.values)

abbrev pub seen_members : ObjectView → Members
seen_members view = substituted_members (members_of view.members.now) (values_in view.values)

-- the value of a node
abbrev pub node_value : Node → Json
node_value node.Null = null
node_value (node.Bool b) = boolean b
node_value (node.Int n) = integer n
node_value (node.Text t) = string (seen_text t)
node_value (node.List l) = array (seen_elements l)
node_value (node.Object o) = object (seen_members o)
