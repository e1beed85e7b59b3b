use Rattle.std.proofs.Common.{◌≡◌, drop}
use Rattle.wot_json.specs.Pointer.{escapes}
use Rattle.wot_json.proofs.lookup.is_escaped.Given as goal

-- the bytes so far don't decide
abbrev pub invariant-loop-place : goal.invariant-loop-place
invariant-loop-place l = escapes l.text ≡ escapes (drop l.place l.text)
