use Rattle.std.proofs.Common.{◌≡◌, ◌++◌, drop}
use Rattle.std.specs.List.{AllByRecursion}
use Rattle.wot_json.specs.Meaning.{json_of}
use Rattle.wot_terms.specs.Faults.{IsValid}
use Rattle.wot_terms.specs.ThingLists.{kept_things}
use Rattle.thing_site.specs.Exposing.{kinds_of}
use Rattle.plan_table.specs.Table.{rows_of}
use Rattle.plan_table.proofs.row.rows_of.Given as goal

abbrev pub invariant-loop-thing : goal.invariant-loop-thing
invariant-loop-thing g l = record {
  made : l.rows.items ++ rows_of l.slots (kinds_of (g.R.Handlers.slots l.rack)) (kept_things (drop l.thing-index l.things))
      ≡ rows_of l.slots (kinds_of (g.R.Handlers.slots l.rack)) (kept_things l.things);
  valid : AllByRecursion (λ t. IsValid (json_of t.tree)) (drop l.thing-index l.things);
}
