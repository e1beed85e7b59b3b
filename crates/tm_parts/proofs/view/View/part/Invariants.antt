use Rattle.std.proofs.Common.{◌≡◌, length}
use denote.Text.{Utf8}
use denote.Shadow.{shadow}
use Rattle.wot_json.specs.Pointer.{part_of}
use Rattle.tm_parts.specs.Views.{seen}
use Rattle.tm_parts.proofs.view.View.part.Given as goal

abbrev pub invariant-loop-rest : goal.invariant-loop-rest
invariant-loop-rest l = (part_of l.rest (seen l.view) ≡ part_of l.place (seen l.self)) × shadow (Utf8 l.rest)

abbrev pub decreases-loop-rest : goal.decreases-loop-rest
decreases-loop-rest l = length l.rest
