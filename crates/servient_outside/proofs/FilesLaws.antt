-- Laws of files whose reads never fail.
use Rattle.std.proofs.Common.{refl, ◌∙◌}
use Rattle.servient_outside.specs.Files.{FilesSeen, NoReadFailed}

pub no_read_failed_same : (f : FilesSeen) → NoReadFailed f f
no_read_failed_same f never = (never, refl)

pub no_read_failed_then : (a b c : FilesSeen) → NoReadFailed a b → NoReadFailed b c → NoReadFailed a c
no_read_failed_then a b c p q never =
    let first = p never in
    let second = q first.0 in
    (second.0, second.1 ∙ first.1)
