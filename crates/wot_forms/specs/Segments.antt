-- The segments of Things in the paths of their URLs. A URL has their bytes as they are (RFC 3986, section 2.3).
use Rattle.std.specs.Prelude.{◌==◌, ◌||◌, ℕ, Bool, List}
use Rattle.std.specs.List.{list_all}
use Rattle.std.specs.Char.{is_ascii_alphanumeric}

-- a byte of the name of an instance, and of the segment of a root Thing
abbrev pub is_name_byte : ℕ → Bool
is_name_byte b = is_ascii_alphanumeric b || b == 46 || b == 95 || b == 45

-- such a byte, or the `~` before the name of an instance
abbrev pub is_segment_byte : ℕ → Bool
is_segment_byte b = is_name_byte b || b == 126

abbrev pub is_plain_segment : List ℕ → Bool
is_plain_segment segment = list_all is_segment_byte segment
