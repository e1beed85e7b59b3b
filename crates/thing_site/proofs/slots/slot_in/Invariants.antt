use Rattle.std.proofs.Common.{◌≡◌, drop}
use Rattle.thing_site.specs.Site.{slot_named}
use Rattle.thing_site.proofs.slots.slot_in.Given as goal

abbrev pub invariant-loop-named : goal.invariant-loop-named
invariant-loop-named l = slot_named l.segment l.pointer (drop l.named-index l.entries) ≡ slot_named l.segment l.pointer l.entries
