-- The start of 1970 is the moment from which `jiff` counts.
use Rattle.std.proofs.Common.{arith, ◌≡◌, pos, refl, ◌∙◌}
use Rattle.jiff_core.specs.declared.civil.datetime.DateTime.{DateTime}
use Rattle.jiff_core.specs.declared.civil.date.Date.{Date}
use Rattle.jiff_core.specs.Calendar.{days_from_civil}
use Rattle.jiff_core.specs.Date.{epoch_day}
use Rattle.jiff_core.specs.Time.{time_nanos, IsHms}
use Rattle.jiff_core.specs.DateTime.{civil_nanos}
use Rattle.jiff_core.proofs.SignedLemmas.{signed_arith}
use Rattle.jiff_core.proofs.DateTimeLemmas.{civil_nanos-parts}

pub start_is_zero : (start : DateTime) (d : Date) → d.year ≡ pos 1970 → pos d.month ≡ pos 1 → pos d.day ≡ pos 1 → start.date ≡ d
    → IsHms (pos 0) (pos 0) (pos 0) (pos 0) start.time → civil_nanos start ≡ pos 0
unfolding days_from_civil
start_is_zero start d year first second on midnight =
    let month : d.month ≡ 1 = omega (arith, signed_arith, first) in
    let day : d.day ≡ 1 = omega (arith, signed_arith, second) in
    let epoch : epoch_day d ≡ pos 0 = rw (year, month, day) (omega (arith, signed_arith)) in
    let none : time_nanos start.time ≡ 0 = omega (arith, signed_arith, midnight) in
    civil_nanos-parts start ∙ rw (on, epoch, none) refl
