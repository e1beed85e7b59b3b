-- The text of a date and time (RFC 3339, section 5.6), found by counting days through the Gregorian calendar from
-- 1 January 1970. Days have 24 hours: there are no leap seconds.
use Rattle.std.specs.Prelude.{ℕ, zero, suc, ◌+◌, ◌-◌, ◌/◌, ◌%◌, min, nat_lt, if◌then◌else◌, List, ◌++◌, length, replicate}
use Rattle.std.specs.Prelude.{codes, decimal, pos, unsigned_abs}
use Rattle.jiff_core.specs.declared.civil.datetime.DateTime.{DateTime}
use Rattle.jiff_core.specs.Calendar.{days_in_month}

-- ---- days

-- a day of the calendar, where January is month 1
pub record Day : Type 0 where
  pub year : ℕ
  pub month : ℕ
  pub day : ℕ

-- the first day of 1970
abbrev pub first_day : Day
first_day = record { year = 1970; month = 1; day = 1 }

-- the next day of the month; after its last day the first of the next month; after 31 December the first of the next
-- year
abbrev pub day_after : Day → Day
day_after d =
    if nat_lt d.day (days_in_month (pos d.year) d.month) then record { year = d.year; month = d.month; day = d.day + 1 }
    else if nat_lt d.month 12 then record { year = d.year; month = d.month + 1; day = 1 }
    else record { year = d.year + 1; month = 1; day = 1 }

-- the day that lies so many days after 1 January 1970
unfoldable pub day_at : ℕ → Day
day_at zero = first_day
day_at (suc n) = day_after (day_at n)

-- ---- texts

-- a number in decimal, with zeros before it up to so many digits
abbrev pub in_digits : ℕ → ℕ → List ℕ
in_digits count n = replicate (count - length (decimal n)) 48 ++ decimal n

-- `YYYY-MM-DD`
abbrev pub day_text : Day → List ℕ
day_text d = in_digits 4 d.year ++ codes "-" ++ in_digits 2 d.month ++ codes "-" ++ in_digits 2 d.day

-- `HH:MM:SS.mmm`
abbrev pub clock_text : ℕ → ℕ → ℕ → ℕ → List ℕ
clock_text hour minute second millisecond =
    in_digits 2 hour ++ codes ":" ++ in_digits 2 minute ++ codes ":" ++ in_digits 2 second ++ codes "."
    ++ in_digits 3 millisecond

-- the time so many milliseconds after midnight
abbrev pub time_text : ℕ → List ℕ
time_text milliseconds =
    clock_text (milliseconds / 3_600_000) (milliseconds / 60_000 % 60) (milliseconds / 1_000 % 60)
    (milliseconds % 1_000)

-- the UTC date and time that lies so many milliseconds after 1970-01-01T00:00:00Z
abbrev pub moment_text : ℕ → List ℕ
moment_text milliseconds =
    day_text (day_at (milliseconds / 86_400_000)) ++ codes "T" ++ time_text (milliseconds % 86_400_000) ++ codes "Z"

-- the last millisecond of the year 9999, after which a year has more than four digits
abbrev pub last_millisecond : ℕ
last_millisecond = 253_402_300_799_999

-- the same, or the last millisecond of 9999 where that is earlier
abbrev pub date_text : ℕ → List ℕ
date_text milliseconds = moment_text (min milliseconds last_millisecond)

-- ---- civil date-times of `jiff`

-- the day of a date of the year 0 or later
abbrev pub day_of : DateTime → Day
day_of at = record { year = unsigned_abs at.date.year; month = at.date.month; day = at.date.day }

-- the text of a date and time of the year 0 or later, without what is below a millisecond
abbrev pub date_time_text : DateTime → List ℕ
date_time_text at =
    day_text (day_of at) ++ codes "T"
    ++ clock_text at.time.hour at.time.minute at.time.second (at.time.subsec_nanosecond / 1_000_000) ++ codes "Z"
