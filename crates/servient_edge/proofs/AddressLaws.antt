-- Laws of addresses as numbers.
use Rattle.std.proofs.Common.{◌≡◌, ◌∙◌, ◌<◌, ◌^◌, ℕ, ap}
use Rattle.std.specs.Int.{w32, from_be_bytes}
use Rattle.std.specs.Net.Addr.{ipv4_bits, IsIpv4OfBits}
use Rattle.std.specs.declared.net.ipv4_addr.Ipv4Addr.{Ipv4Addr}
use Rattle.std.proofs.lemmas.Nat.{from_be_bytes-to_be_bytes_4}

-- the address that is made of a number has that number
pub bits_of : (address : Ipv4Addr) (bits : ℕ) → bits < 2 ^ 32 → IsIpv4OfBits address bits → ipv4_bits address ≡ bits
unfolding ipv4_bits IsIpv4OfBits
bits_of address bits bound of = ap (from_be_bytes w32) of ∙ from_be_bytes-to_be_bytes_4 bits bound
