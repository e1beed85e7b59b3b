use Rattle.std.proofs.Common.{◌≡◌, ◌++◌, drop, map}
use Rattle.wot_terms.specs.ThingLists.{kept_thing}
use Rattle.thing_site.specs.Exposing.{kinds_of}
use Rattle.plan_table.specs.Table.{row_of}
use Rattle.plan_table.proofs.row.push_rows.Given as goal

abbrev pub invariant-loop-affordance : goal.invariant-loop-affordance
invariant-loop-affordance g l =
    l.rows.items ++ map (row_of l.slots (kinds_of (g.R.Handlers.slots l.rack)) (kept_thing l.thing)) (drop l.affordance-index l.affordance-items)
    ≡ l.initial.rows.items ++ map (row_of l.slots (kinds_of (g.R.Handlers.slots l.rack)) (kept_thing l.thing)) l.affordance-items
