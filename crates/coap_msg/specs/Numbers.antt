-- Numbers as the values of options (RFC 7252, section 3.2).
use Rattle.std.specs.Prelude.{ℕ, ◌+◌, ◌*◌, ◌/◌, ◌%◌, ◌^◌, List, [], ◌∷◌, length, nat_lt, if◌then◌else◌}

-- the number that bytes say, in network byte order; no bytes are the number 0
abbrev pub number_of : List ℕ → ℕ
number_of [] = 0
number_of (b ∷ bytes) = 256 ^ length bytes * b + number_of bytes

-- a number below 2^32 in as few bytes as say it, in network byte order; 0 in none
abbrev pub number_bytes : ℕ → List ℕ
number_bytes n =
    if nat_lt n 1 then []
    else if nat_lt n 256 then n ∷ []
    else if nat_lt n 65536 then (n / 256) ∷ (n % 256) ∷ []
    else if nat_lt n 16777216 then (n / 65536) ∷ (n / 256 % 256) ∷ (n % 256) ∷ []
    else (n / 16777216) ∷ (n / 65536 % 256) ∷ (n / 256 % 256) ∷ (n % 256) ∷ []
