-- The moments of a network, in milliseconds.
use Rattle.std.specs.Prelude.{◌≡◌, ℕ, ◌-◌, ◌/◌, ◌^◌, min, max, Result, Ok, Err}
use Rattle.servient_edge.specs.declared.moments.Moments.{Moments}
use Rattle.servient_outside.specs.declared.net.Next.{Next}
use Rattle.servient_outside.specs.declared.net.Next.TheVariants as next

-- the milliseconds from one time of the clock to another, which it gives in nanoseconds: 10^15 at most, and none where
-- the other is earlier
abbrev pub moment_of : ℕ → ℕ → ℕ
moment_of start now = min (10 ^ 15) ((now - start) / 1_000_000)

-- The clock was read: the moment is then the greater of the last one and that of the time that was read. Where it
-- can't be read, the moment stays.
abbrev pub Reads : {E : Type 0} → Moments → Result ℕ E → Moments → Type 0
Reads before (Ok now) after = (start : ℕ) × (before.start ≡ Ok start) × (after.start ≡ Ok start) × (after.last ≡ max before.last (moment_of start now))
Reads before (Err e) after = (after.start ≡ before.start) × (after.last ≡ before.last)

-- an event is given at this moment, if one is given
abbrev pub IsAtMoment : Next → ℕ → Type 0
IsAtMoment (next.Got e) moment = e.moment ≡ moment
IsAtMoment next.Failed moment = Unit {0}
