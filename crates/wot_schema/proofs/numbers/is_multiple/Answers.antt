use Rattle.std.proofs.Common.{◌∙◌, ap, w64}
use Rattle.std.specs.Int.RustNames.{unsigned_abs}
use Rattle.std.proofs.lemmas.Int.{to_z-of_z}
use Rattle.wot_schema.proofs.Multiples.{multiple_test}
use Rattle.wot_schema.proofs.numbers.is_multiple.Goals as goal

pub returns-in-Some : goal.returns-in-Some
returns-in-Some c =
    rw c.in-Some.is
    (multiple_test c.args.number c.in-Some.unit c.unsigned_abs.result (c.unsigned_abs.ensures.value ∙ ap unsigned_abs (to_z-of_z w64 c.args.number c.ranges.number)))
