-- Percent-encoding of a segment of the path of a URL (RFC 3986, sections 2.1 and 2.3).
use Rattle.std.specs.Prelude.{ℕ, ◌==◌, List, [], ◌∷◌, codes, Bool, ◌||◌, if◌then◌else◌}
use Rattle.std.specs.List.{flat_map, list_any}
use Rattle.std.specs.Char.{is_ascii_alphanumeric}
use Rattle.percent_encoding.specs.Percent.{percent_encode_byte}

-- a byte that a URL may have as it is (section 2.3)
abbrev pub is_unreserved : ℕ → Bool
is_unreserved b = is_ascii_alphanumeric b || list_any (λ c. c == b) (codes "-._~")

-- an unreserved byte as it is, and any other as `%` and its two upper-case hexadecimal digits (section 2.1)
abbrev pub encoded_byte : ℕ → List ℕ
encoded_byte b = if is_unreserved b then b ∷ [] else percent_encode_byte b

-- bytes as a segment of a path
abbrev pub encoded : List ℕ → List ℕ
encoded bytes = flat_map encoded_byte bytes
