-- A site fits a rack.
use Rattle.std.specs.Prelude.{◌≡◌, List, Some, slice_get}
use Rattle.std.specs.List.{AllByRecursion}
use Rattle.thing_handler.specs.Handler.{Seen}
use Rattle.thing_site.specs.Site.{Placed, ExposedThing, Site}

-- a site fits a rack: each affordance's slot is one of the rack's, and the handler in it is of the affordance's kind
abbrev pub FitsSlot : List Seen → Placed → Type 0
FitsSlot slots p = (h : Seen) × (slice_get slots p.slot ≡ Some h) × (h.kind ≡ p.affordance.kind)

abbrev pub ThingFits : List Seen → ExposedThing → Type 0
ThingFits slots thing = AllByRecursion (FitsSlot slots) thing.affordances

abbrev pub Fits : Site → List Seen → Type 0
Fits site slots = AllByRecursion (ThingFits slots) site.things
