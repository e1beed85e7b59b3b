-- The elements of a list that is seen with values in place of placeholders.
use Rattle.std.specs.Prelude.{ℕ, List, map, drop}
use Rattle.wot_json.specs.Tree.{Json}
use Rattle.wot_json.specs.Meaning.{json_of}
use Rattle.wot_json.specs.declared.tree.Tree.{Tree}
use Rattle.tm_parts.specs.Substitution.{Values, substituted_value}
use Rattle.tm_parts.specs.Views.{values_in}
use Rattle.tm_parts.specs.declared.view.ListView.{ListView}

-- a node of a model, with these values
abbrev pub with_values : Values → Tree → Json
with_values values tree = substituted_value (json_of tree) values

-- the elements of a list
abbrev pub seen_items : ListView → List Json
seen_items list = map (with_values (values_in list.values)) list.items.now

-- those from an index on
abbrev pub items_from : ListView → ℕ → List Json
items_from list index = map (with_values (values_in list.values)) (drop index list.items.now)
