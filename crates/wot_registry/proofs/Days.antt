-- Days counted through the calendar are the day numbers of `jiff`.
use Rattle.std.proofs.Common.{arith, ◌≡◌, ◌<◌, ◌≤◌, ◌+◌, nat_lt, ℕ, zero, suc, pos, Bool, true, false, if◌then◌else◌, inl, inr, refl}
use Rattle.std.proofs.lemmas.Bool.Decides.{nat_tests}
use Rattle.std.proofs.lemmas.Bool.{cases_order}
use Rattle.jiff_core.specs.Calendar.{days_from_civil, days_in_month}
use Rattle.jiff_core.proofs.SignedLemmas.{signed_arith}
use Rattle.jiff_core.proofs.CalendarLemmas.{days_in_month_bounds, days_from_civil-day_count, day_count-epoch}
use Rattle.jiff_core.proofs.DateLemmas.{days_from_civil-day, days_from_civil-next_month, days_from_civil-next_year, days_from_civil-max}
use Rattle.wot_registry.specs.Dates.{Day, first_day, day_after, day_at}

-- the day is the one of this day number, before the year 10000
pub record HasNumber (n : ℕ) (d : Day) : Type 0 where
  pub number : days_from_civil (pos d.year) d.month d.day ≡ pos n
  pub year : d.year ≤ 9999
  pub month : (1 ≤ d.month) × (d.month ≤ 12)
  pub day : (1 ≤ d.day) × (d.day ≤ days_in_month (pos d.year) d.month)

first_has_number : HasNumber 0 first_day
first_has_number = record {
  number = omega (arith, signed_arith, days_from_civil-day_count (pos 1970) 1 1, day_count-epoch);
  year = omega arith;
  month = (omega arith, omega arith);
  day = (omega arith, omega arith);
}

within_month : (n : ℕ) (d : Day) → HasNumber n d → d.day < days_in_month (pos d.year) d.month
    → HasNumber (suc n) (record { year = d.year; month = d.month; day = d.day + 1 })
within_month n d h short = record {
  number = omega (arith, signed_arith, h.number, days_from_civil-day (pos d.year) d.month d.day (d.day + 1) h.day.0 (omega arith));
  year = h.year;
  month = h.month;
  day = (omega arith, omega arith);
}

next_month : (n : ℕ) (d : Day) → HasNumber n d → d.day ≡ days_in_month (pos d.year) d.month → d.month < 12
    → HasNumber (suc n) (record { year = d.year; month = d.month + 1; day = 1 })
next_month n d h last early = record {
  number = omega (arith, signed_arith, h.number, days_from_civil-next_month (pos d.year) d.month d.day h.month.0 last);
  year = h.year;
  month = (omega arith, omega arith);
  day = (omega arith, omega (arith, days_in_month_bounds (pos d.year) (d.month + 1)));
}

next_year : (n : ℕ) (d : Day) → n < 2_932_896 → HasNumber n d → d.day ≡ days_in_month (pos d.year) d.month → d.month ≡ 12
    → HasNumber (suc n) (record { year = d.year + 1; month = 1; day = 1 })
next_year n d small h last december =
    let day : d.day ≡ 31 = rw december at last in
    let here : days_from_civil (pos d.year) 12 31 ≡ pos n = rw (december, day) at h.number in
    let early : d.year < 9999 = elim (cases_order d.year 9999) [
      | inl e ↦ absurd (omega (arith, signed_arith, rw e at here, days_from_civil-max))
      | inr (inl lt) ↦ lt
      | inr (inr gt) ↦ absurd (omega (arith, h.year))
    ] in
    record {
      number = omega (arith, signed_arith, here, days_from_civil-next_year (pos d.year) (pos (d.year + 1)) (omega (arith, signed_arith)) (omega (arith, signed_arith)));
      year = omega arith;
      month = (omega arith, omega arith);
      day = (omega arith, omega arith);
    }

next_has_number : (n : ℕ) (d : Day) → n < 2_932_896 → HasNumber n d → HasNumber (suc n) (day_after d)
next_has_number n d small h =
    by (nat_lt d.day (days_in_month (pos d.year) d.month)) refl (nat_lt d.month 12) refl
  where
    by : (s : Bool) → nat_lt d.day (days_in_month (pos d.year) d.month) ≡ s → (e : Bool) → nat_lt d.month 12 ≡ e
        → HasNumber (suc n) (if s then record { year = d.year; month = d.month; day = d.day + 1 }
        else if e then record { year = d.year; month = d.month + 1; day = 1 }
        else record { year = d.year + 1; month = 1; day = 1 })
    by true s e t = within_month n d h (grind (arith, nat_tests, s))
    by false s true e = next_month n d h (grind (arith, nat_tests, s, h.day)) (grind (arith, nat_tests, e))
    by false s false e = next_year n d small h (grind (arith, nat_tests, s, h.day)) (grind (arith, nat_tests, e, h.month))

pub day_at_has_number : (n : ℕ) → n ≤ 2_932_896 → HasNumber n (day_at n)
unfolding day_at
day_at_has_number zero small = first_has_number
day_at_has_number (suc n) small = next_has_number n (day_at n) (omega arith) (day_at_has_number n (omega arith))
