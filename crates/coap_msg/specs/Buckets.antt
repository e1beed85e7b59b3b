-- The bucket of an endpoint and a number. It matters for speed alone.
use Rattle.std.specs.Prelude.{◌+◌, ◌*◌, ◌/◌, ◌%◌, ◌^◌, ℕ, bit_xor}
use Rattle.coap_msg.specs.declared.endpoint.Endpoint.{Endpoint}

-- a number of 64 bits with its upper bits mixed into the lower ones
abbrev pub folded : ℕ → ℕ → ℕ
folded bits number = bit_xor number (number / 2 ^ bits)

-- the last step of SplitMix64
unfoldable pub scattered : ℕ → ℕ
scattered number = folded 31 (folded 27 (folded 30 number * 0xbf58476d1ce4e5b9 % 2 ^ 64) * 0x94d049bb133111eb % 2 ^ 64)

-- the bucket, of n
unfoldable pub bucket : ℕ → Endpoint → ℕ → ℕ
bucket count from id =
    scattered (bit_xor (scattered (bit_xor (scattered (from.host / 2 ^ 64)) (from.host % 2 ^ 64))) (from.port * 2 ^ 16 + id)) % count
