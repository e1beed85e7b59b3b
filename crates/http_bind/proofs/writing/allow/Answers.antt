use Rattle.std.proofs.Common.{subst, sym}
use Rattle.std.specs.Str.{IsUtf8}
use Rattle.thing_ops.specs.Verbs.{verbs_in}
use Rattle.http_bind.proofs.AllowLines.{names_are_text}
use Rattle.http_bind.proofs.writing.allow.Goals as goal

pub returns-in-Err : goal.returns-in-Err
returns-in-Err c =
    absurd (c.in-Err.ensures.cases.0 (subst IsUtf8 (sym c.write-length.ensures.prefix) (names_are_text (verbs_in c.in-NotAllowed.verbs))))
