-- Places in a value: JSON Pointers (RFC 6901).
use Rattle.std.specs.Prelude.{ℕ, ◌==◌, List, [], ◌∷◌, ◌++◌, codes, decimal, if◌then◌else◌}
use Rattle.std.specs.List.{flat_map}

-- a byte of a token as it is written: `~` as `~0`, `/` as `~1`, and all else as it is (section 3)
abbrev pub token_byte : ℕ → List ℕ
token_byte b = if b == 126 then codes "~0" else if b == 47 then codes "~1" else b ∷ []

-- a token as it is written, which for a member of an object is its name (sections 3 and 4)
abbrev pub token_text : List ℕ → List ℕ
token_text token = flat_map token_byte token

-- the token of an element of a list: its index in decimal digits, from 0, with no 0 before another digit (section 4)
abbrev pub index_text : ℕ → List ℕ
index_text index = decimal index

-- one step into a value: `/` and a token
abbrev pub step_text : List ℕ → List ℕ
step_text token = codes "/" ++ token_text token

-- one step into a list: `/` and the index of an element (section 4)
abbrev pub element_step_text : ℕ → List ℕ
element_step_text index = codes "/" ++ index_text index

-- the pointer to the place that these tokens lead to, from the whole value on (section 3)
abbrev pub place_text : List (List ℕ) → List ℕ
place_text tokens = flat_map step_text tokens
