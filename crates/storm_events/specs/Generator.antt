-- The numbers of the storm: a linear congruential generator over 64 bits, with Knuth's multiplier for MMIX.
use Rattle.std.specs.Prelude.{ℕ, ◌+◌, ◌*◌, ◌/◌, ◌%◌, ◌^◌}

-- the number after another
abbrev pub number_after : ℕ → ℕ
number_after x = (x * 6364136223846793005 + 1442695040888963407) % 2 ^ 64

-- The number that is drawn where the generator comes to this one: its upper 31 bits, because the lower bits of such a
-- generator come round soon.
abbrev pub drawn : ℕ → ℕ
drawn x = x / 2 ^ 33
