use Rattle.std.proofs.Common.{◌≡◌, ◌++◌, [], drop}
use Rattle.std.specs.List.{AllByRecursion}
use Rattle.wot_json.specs.Meaning.{json_of}
use Rattle.wot_terms.specs.Faults.{IsValid}
use Rattle.wot_terms.specs.ThingLists.{kept_things}
use Rattle.thing_site.specs.Site.{exposed_all, faults_from, wanted_of}
use Rattle.thing_site.specs.Exposing.{kinds_of}
use Rattle.thing_site.proofs.placing.place_all.Given as goal

abbrev pub invariant-loop-thing : goal.invariant-loop-thing
invariant-loop-thing g l = record {
  placed : l.held.items ++ exposed_all l.slots (kept_things (drop l.thing-index l.things)) ≡ exposed_all l.slots (kept_things l.things);
  clear : faults_from (kinds_of (g.R.Handlers.slots l.rack)) [] (wanted_of l.slots (kept_things l.things))
      ≡ faults_from (kinds_of (g.R.Handlers.slots l.rack)) l.earlier.items (wanted_of l.slots (kept_things (drop l.thing-index l.things)));
  valid : AllByRecursion (λ t. IsValid (json_of t.tree)) (drop l.thing-index l.things);
}
