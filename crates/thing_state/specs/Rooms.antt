-- The room for a text that is kept: the last value of an affordance, or the output of an invocation.
use Rattle.std.specs.Prelude.{ℕ}

-- in bytes: at least the status of an invocation with the longest output
abbrev pub room_size : ℕ
room_size = 1152
