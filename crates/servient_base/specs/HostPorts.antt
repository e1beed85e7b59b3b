-- HOST:PORT: where a server is (RFC 3986, section 3.2), in this product's profile: a name or an IPv4 address, and a port that
-- is always there.
use Rattle.std.specs.Prelude.{ℕ, ◌==◌, ◌&&◌, ◌||◌, nat_le, nat_lt, Bool, List, length, decimal, Option, Some, None, option_map, if◌then◌else◌}
use Rattle.std.specs.Char.{is_ascii_alphanumeric}
use Rattle.std.specs.List.{list_all, position_or_len, before_first, after_first}
use Rattle.std.specs.Str.{bytes_eq}
use Rattle.std.specs.Str.Parse.{digits_value}

-- a host: 1 to 253 of A-Z a-z 0-9 . -
abbrev pub is_host_byte : ℕ → Bool
is_host_byte b = is_ascii_alphanumeric b || b == 46 || b == 45

abbrev pub is_host : List ℕ → Bool
is_host text = list_all is_host_byte text && nat_lt 0 (length text) && nat_le (length text) 253

-- a port: a number from 1 to 65,535 in decimal digits with no leading zero, which is to say the
-- spelling of its own value
abbrev pub is_port : List ℕ → Bool
is_port text =
    nat_le 1 (digits_value 10 text) && nat_le (digits_value 10 text) 65535 && bytes_eq text (decimal (digits_value 10 text))

abbrev pub port_in : List ℕ → Option ℕ
port_in text = if is_port text then Some (digits_value 10 text) else None

abbrev pub is_colon : ℕ → Bool
is_colon b = b == 58

-- the host and the port of HOST:PORT
abbrev pub point_in : List ℕ → Option (List ℕ × ℕ)
point_in text =
    if nat_lt (position_or_len is_colon text) (length text) && is_host (before_first is_colon text)
    then option_map (λ port. (before_first is_colon text, port)) (port_in (after_first is_colon text)) else None
