use Rattle.std.proofs.Common.{arith, ◌≡◌, pos, ◌∙◌, w64, to_z}
use Rattle.std.proofs.lemmas.Int.{to_z_pos}
use Rattle.jiff_core.proofs.SignedLemmas.{signed_arith}
use Rattle.wot_registry.proofs.dates.date_time_at.Goals as goal

pub unwrap-requires : goal.unwrap-requires
unwrap-requires c =
    let cast : to_z w64 c.args.milliseconds ≡ pos c.args.milliseconds =
    to_z_pos w64 c.args.milliseconds (omega (arith, c.requires)) in
    let step = rw cast at c.from_millis.ensures in
    c.checked_add.ensures.succeeds.1
    (rw (c.start.ensures, step) (omega (arith, signed_arith, c.requires), omega (arith, signed_arith, c.requires)))

pub returns : goal.returns
returns c =
    let cast : to_z w64 c.args.milliseconds ≡ pos c.args.milliseconds =
    to_z_pos w64 c.args.milliseconds (omega (arith, c.requires)) in
    let step = rw cast at c.from_millis.ensures in
    let value = rw c.unwrap.ensures at c.checked_add.ensures.value in
    value ∙ rw (c.start.ensures, step) (omega (arith, signed_arith))
