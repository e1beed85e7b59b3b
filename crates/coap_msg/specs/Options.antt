-- The options that bytes spell (RFC 7252, section 3.1), for the views of `Options` and `Opts`. The contracts of
-- `decode` and `encode` are by the grammar alone.
use Rattle.std.specs.Prelude.{ℕ, zero, suc, ◌+◌, ◌*◌, ◌/◌, ◌%◌, ◌^◌, List, [], ◌∷◌, length, take, drop, nat_lt, nat_eq, if◌then◌else◌, Option, Some, None, option_and_then}
use Rattle.std.specs.Option.{option_map_or}
use Rattle.coap_msg.specs.Grammar.{CoapOption}

-- the number that one extended byte says, and the bytes after it (section 3.1)
abbrev pub one_byte : List ℕ → Option (ℕ × List ℕ)
one_byte [] = None
one_byte (b ∷ bytes) = Some (b + 13, bytes)

-- the number that two extended bytes say, and the bytes after them (section 3.1)
abbrev pub two_bytes : List ℕ → Option (ℕ × List ℕ)
two_bytes [] = None
two_bytes (high ∷ []) = None
two_bytes (high ∷ low ∷ bytes) = Some (256 * high + low + 269, bytes)

-- the number of a nibble with its extended bytes, and the bytes after them; 15 is reserved (section 3.1)
unfoldable pub number_at : ℕ → List ℕ → Option (ℕ × List ℕ)
number_at n bytes =
    if nat_lt n 13 then Some (n, bytes)
    else if nat_eq n 13 then one_byte bytes
    else if nat_eq n 14 then two_bytes bytes
    else None

-- the option of this number whose value is this many of the bytes, and the bytes after it
abbrev pub value_at : ℕ → ℕ → List ℕ → Option (CoapOption × List ℕ)
value_at number size bytes =
    if nat_lt (length bytes) size then None
    else if nat_lt number (2 ^ 16) then Some ((number, take size bytes), drop size bytes)
    else None

-- the first option, after one of the number last, and the bytes after it (section 3.1)
unfoldable pub option_at : ℕ → List ℕ → Option (CoapOption × List ℕ)
option_at last [] = None
option_at last (b ∷ bytes) =
    option_and_then
    (λ delta. option_and_then (λ size. value_at (last + delta.0) size.0 size.1) (number_at (b % 16) delta.1))
    (number_at (b / 16) bytes)

-- the options up to where none begins, after one of the number last; at most as many as the first number says
abbrev pub options_at : ℕ → ℕ → List ℕ → List CoapOption
options_at zero last bytes = []
options_at (suc most) last bytes =
    option_map_or (λ read. read.0 ∷ options_at most read.0.0 read.1) (option_at last bytes) []

-- the options up to where none begins: as each has a byte or more, there are no more of them than bytes
abbrev pub options_of : List ℕ → List CoapOption
options_of bytes = options_at (length bytes) 0 bytes
