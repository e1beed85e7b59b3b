-- A civil date-time of `jiff` is the day and the time of its milliseconds.
use Rattle.std.proofs.Common.{arith, ◌≡◌, ◌≤◌, ◌*◌, ◌/◌, ◌%◌, ℕ, pos, ◌≤ℤ◌, refl, sym, ◌∙◌}
use Rattle.jiff_core.specs.declared.civil.datetime.DateTime.{DateTime}
use Rattle.jiff_core.specs.declared.civil.date.Date.{Date}
use Rattle.jiff_core.specs.Date.{epoch_day}
use Rattle.jiff_core.specs.Time.{time_nanos}
use Rattle.jiff_core.specs.DateTime.{civil_nanos}
use Rattle.jiff_core.proofs.SignedLemmas.{signed_arith}
use Rattle.jiff_core.proofs.DateLemmas.{epoch_day_injective}
use Rattle.jiff_core.proofs.DateTimeLemmas.{civil_nanos-parts, time_nanos_bound}
use Rattle.wot_registry.specs.Dates.{Day, day_at, date_time_text, moment_text, last_millisecond}
use Rattle.wot_registry.proofs.Days.{HasNumber, day_at_has_number}

-- a day of this number, as a date
date_of : (n : ℕ) (d : Day) → HasNumber n d → Date
date_of n d h = record {
  year = pos d.year;
  month = d.month;
  day = d.day;
  year_in = (omega (arith, signed_arith), omega (arith, signed_arith, h.year));
  month_in = h.month;
  day_in = h.day;
}

same_day : (d : Date) (n : ℕ) → n ≤ 2_932_896 → epoch_day d ≡ pos n
    → (d.year ≡ pos (day_at n).year) × (d.month ≡ (day_at n).month) × (d.day ≡ (day_at n).day)
unfolding date_of
same_day d n small e =
    let h = day_at_has_number n small in
    epoch_day_injective d (date_of n (day_at n) h) (e ∙ sym h.number)

-- the parts of a date-time
record HasParts (milliseconds : ℕ) (at : DateTime) : Type 0 where
  day : epoch_day at.date ≡ pos (milliseconds / 86_400_000)
  hour : at.time.hour ≡ milliseconds % 86_400_000 / 3_600_000
  minute : at.time.minute ≡ milliseconds % 86_400_000 / 60_000 % 60
  second : at.time.second ≡ milliseconds % 86_400_000 / 1_000 % 60
  millisecond : at.time.subsec_nanosecond / 1_000_000 ≡ milliseconds % 86_400_000 % 1_000

parts : (at : DateTime) (milliseconds : ℕ) → civil_nanos at ≡ pos (milliseconds * 1_000_000) → HasParts milliseconds at
parts at milliseconds e =
    let day : epoch_day at.date ≡ pos (milliseconds / 86_400_000) = omega (arith, signed_arith, e, civil_nanos-parts at, time_nanos_bound at.time) in
    let time : time_nanos at.time ≡ milliseconds % 86_400_000 * 1_000_000 = omega (arith, signed_arith, e, day, civil_nanos-parts at, time_nanos_bound at.time) in
    record {
      day = day;
      hour = omega (arith, time);
      minute = omega (arith, time);
      second = omega (arith, time);
      millisecond = omega (arith, time);
    }

pub moment_is : (at : DateTime) (milliseconds : ℕ) → milliseconds ≤ last_millisecond → civil_nanos at ≡ pos (milliseconds * 1_000_000)
    → date_time_text at ≡ moment_text milliseconds
moment_is at milliseconds small e =
    let p = parts at milliseconds e in
    let d = same_day at.date (milliseconds / 86_400_000) (omega arith) p.day in
    rw (d.0, d.1, d.2, p.hour, p.minute, p.second, p.millisecond) refl

-- and its year is none before the year 0
pub not_before_zero : (at : DateTime) (milliseconds : ℕ) → milliseconds ≤ last_millisecond → civil_nanos at ≡ pos (milliseconds * 1_000_000)
    → pos 0 ≤ℤ at.date.year
not_before_zero at milliseconds small e =
    let d = same_day at.date (milliseconds / 86_400_000) (omega arith) (parts at milliseconds e).day in
    omega (arith, signed_arith, d.0)
