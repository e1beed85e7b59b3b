use Rattle.std.proofs.Common.{length}
use Rattle.servient_script.proofs.ScriptTexts.{HasRead}
use Rattle.servient_script.proofs.script.Script.read.Given as goal

abbrev pub invariant-lines : goal.invariant-lines
invariant-lines l = HasRead l.fn.bytes l.events l.rest

abbrev pub decreases-lines : goal.decreases-lines
decreases-lines l = length l.rest
