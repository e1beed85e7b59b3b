-- The host of an endpoint: the address as a number, that of an IPv4 address in its mapped form (RFC 4291, section 2.5.5.2).
use Rattle.std.specs.Prelude.{◌≤◌, ◌<◌, ◌⊎◌, ℕ, ◌+◌, ◌*◌, ◌^◌}
use Rattle.std.specs.Net.Addr.{ipv4_bits, ipv6_bits}
use Rattle.std.specs.declared.net.ip_addr.IpAddr.{IpAddr}
use Rattle.std.specs.declared.net.ip_addr.IpAddr.TheVariants as ip

-- the mapped form of the IPv4 address of a number: 80 bits that are 0, 16 that are 1, and the address
abbrev pub mapped : ℕ → ℕ
mapped bits = 65_535 * 2 ^ 32 + bits

abbrev pub host_of : IpAddr → ℕ
host_of (ip.V4 address) = mapped (ipv4_bits address)
host_of (ip.V6 address) = ipv6_bits address

-- no IPv4 address has this mapped form
abbrev pub IsNotMapped : ℕ → Type 0
IsNotMapped host = (host < mapped 0) ⊎ (mapped (2 ^ 32) ≤ host)
