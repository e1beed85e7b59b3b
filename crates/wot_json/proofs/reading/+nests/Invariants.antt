use Rattle.std.proofs.Common.{◌≤◌, drop}
use Rattle.serde_json.specs.Data.{items_depth, members_depth}
use Rattle.serde_json.specs.View.{items_view, members_view}
use Rattle.wot_json.proofs.reading.+nests.Given as goal

abbrev pub invariant-items_nest_within-loop-item : goal.invariant-items_nest_within-loop-item
invariant-items_nest_within-loop-item l = record {
  left : items_depth (items_view (drop l.item-index l.items)) ≤ items_depth (items_view l.items);
  done : items_depth (items_view (drop l.item-index l.items)) ≤ l.levels → items_depth (items_view l.items) ≤ l.levels;
}

abbrev pub invariant-members_nest_within-loop-name : goal.invariant-members_nest_within-loop-name
invariant-members_nest_within-loop-name l = record {
  left : members_depth (members_view l._name-iterator) ≤ members_depth (members_view l.members.entries);
  done : members_depth (members_view l._name-iterator) ≤ l.levels → members_depth (members_view l.members.entries) ≤ l.levels;
}
