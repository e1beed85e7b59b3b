use Rattle.std.proofs.Common.{arith, pos, ◌∙◌, ◌/◌, ◌<◌, unsigned_abs}
use Rattle.std.proofs.lemmas.List.{append_assoc}
use Rattle.jiff_core.proofs.SignedLemmas.{signed_arith}
use Rattle.jiff_core.proofs.CalendarLemmas.{days_in_month_bounds}
use Rattle.wot_registry.proofs.Digits.{in_two_digits, in_three_digits, in_four_digits, byte_part, short_part}
use Rattle.wot_registry.proofs.dates.date_time_text.Goals as goal

pub returns : goal.returns
returns c =
    let date = c.args.at.date in
    let time = c.args.at.time in
    let year = short_part _ date.year _ c.year.ensures c.requires date.year_in.1 c.unsigned_abs-year.ensures.value in
    let month = byte_part _ date.month _ c.month.ensures (omega (arith, date.month_in)) c.unsigned_abs-month.ensures.value in
    let day = byte_part _ date.day _ c.day.ensures (omega (arith, date.day_in, days_in_month_bounds date.year date.month)) c.unsigned_abs-day.ensures.value in
    let hour = byte_part _ time.hour _ c.hour.ensures (omega (arith, time.hour_in)) c.unsigned_abs-hour.ensures.value in
    let minute = byte_part _ time.minute _ c.minute.ensures (omega (arith, time.minute_in)) c.unsigned_abs-minute.ensures.value in
    let second = byte_part _ time.second _ c.second.ensures (omega (arith, time.second_in)) c.unsigned_abs-second.ensures.value in
    let below : time.subsec_nanosecond / 1_000_000 < 1_000 = omega (arith, time.subsec_in) in
    let millisecond = short_part _ (pos (time.subsec_nanosecond / 1_000_000)) _ c.millisecond.ensures (omega (arith, signed_arith)) (omega (arith, signed_arith)) c.unsigned_abs-millisecond.ensures.value in
    c.from_string.ensures ∙ c.in_ok-text.ensures.ok ∙
    rw (
      c.laid_out.ensures,
      c.laid_out-2.ensures,
      c.laid_out-3.ensures,
      c.laid_out-4.ensures,
      c.laid_out-5.ensures,
      c.laid_out-6.ensures,
      c.laid_out-7.ensures,
      year,
      month,
      day,
      hour,
      minute,
      second,
      millisecond,
      in_four_digits (unsigned_abs date.year),
      in_two_digits date.month,
      in_two_digits date.day,
      in_two_digits time.hour,
      in_two_digits time.minute,
      in_two_digits time.second,
      in_three_digits (time.subsec_nanosecond / 1_000_000),
    )
    (simp append_assoc)
