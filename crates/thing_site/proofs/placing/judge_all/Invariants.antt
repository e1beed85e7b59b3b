use Rattle.std.proofs.Common.{◌≡◌, ◌++◌, List, map}
use Rattle.std.specs.Vec.Iter.{into_iter_items}
use Rattle.thing_site.specs.declared.wanted.Wanted.{Wanted}
use Rattle.thing_site.specs.Site.{faults_from}
use Rattle.thing_site.specs.Exposing.{kinds_of, slot_or_0}
use Rattle.thing_site.proofs.placing.judge_all.Given as goal

abbrev pub invariant-loop-one : goal.invariant-loop-one
invariant-loop-one g l = record {
  slots : l.slots.items ++ map slot_or_0 (into_iter_items l.one-iterator) ≡ map slot_or_0 l.fn.wanted.items;
  clear : (rest : List Wanted) → faults_from (kinds_of (g.R.Handlers.slots l.rack)) l.initial.earlier.items (l.fn.wanted.items ++ rest)
      ≡ faults_from (kinds_of (g.R.Handlers.slots l.rack)) l.earlier.items (into_iter_items l.one-iterator ++ rest);
}
