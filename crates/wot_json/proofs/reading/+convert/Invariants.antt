use Rattle.std.proofs.Common.{◌≡◌, ◌++◌, length, map, option_map, string_bytes}
use Rattle.std.specs.Vec.Iter.{into_iter_items, into_iter_len}
use Rattle.serde_json.specs.View.{items_view, members_view}
use Rattle.wot_json.specs.Meaning.{json_members}
use Rattle.wot_json.specs.Reading.{tree_of_items, tree_of_members, wrong_in_items, wrong_in_members}
use Rattle.wot_json.proofs.Converting.{elements_before, members_before}
use Rattle.wot_json.proofs.reading.+convert.Given as goal

abbrev pub invariant-convert_items-loop-item : goal.invariant-convert_items-loop-item
invariant-convert_items-loop-item l = record {
  tree : tree_of_items (items_view l.fn.items.items) ≡ option_map (elements_before l.elements) (tree_of_items (items_view (into_iter_items l.item-iterator)));
  count : into_iter_len l.item-iterator ≡ length (into_iter_items l.item-iterator);
  places : wrong_in_items 0 (items_view l.fn.items.items) ≡ wrong_in_items (length l.elements) (items_view (into_iter_items l.item-iterator));
}

abbrev pub invariant-convert_members-loop-name : goal.invariant-convert_members-loop-name
invariant-convert_members-loop-name l = record {
  names : map (λ m. m.0) l.list.items ++ map (λ e. string_bytes e.0) l.name-iterator ≡ map (λ e. string_bytes e.0) l.fn.members.entries;
  tree : tree_of_members (members_view l.fn.members.entries) ≡ option_map (members_before (json_members l.list.items)) (tree_of_members (members_view l.name-iterator));
  places : wrong_in_members (members_view l.fn.members.entries) ≡ wrong_in_members (members_view l.name-iterator);
}
