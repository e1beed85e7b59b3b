use Rattle.std.proofs.Common.{◌≡◌, drop}
use Rattle.servient_outside.specs.Files.{content_of}
use Rattle.servient_outside.proofs.files.Held.content.Given as goal

abbrev pub invariant-loop-file : goal.invariant-loop-file
invariant-loop-file l = content_of l.file-items l.name ≡ content_of (drop l.file-index l.file-items) l.name
