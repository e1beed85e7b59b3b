use Rattle.std.proofs.Common.{◌≡◌, ◌++◌, drop}
use Rattle.std.specs.List.{flat_map}
use Rattle.core_links.specs.Writing.{further_text}
use Rattle.wot_terms.specs.ThingLists.{segments_in}
use Rattle.servient_core.specs.Links.{links_to}
use Rattle.servient_core.proofs.links.put_further.Given as goal

abbrev pub invariant-loop-thing : goal.invariant-loop-thing
invariant-loop-thing l =
    l.text ++ flat_map further_text (links_to (segments_in (drop l.thing-index l.things))) ≡ l.initial.text ++ flat_map further_text (links_to (segments_in l.things))
