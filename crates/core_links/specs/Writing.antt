-- The one text of links that is written, and which links it is read back as.
use Rattle.std.specs.Prelude.{◌≡◌, ℕ, nat_le, List, [], ◌∷◌, ◌++◌, length, Bool, true, ◌&&◌, Option, Some, None, if◌then◌else◌}
use Rattle.std.specs.List.{flat_map, list_all}
use Rattle.std.specs.Char.{is_ascii_digit}
use Rattle.core_links.specs.Links.{is_target_byte, is_name_byte, is_escaped}
use Rattle.core_links.specs.declared.links.Param.{Param}
use Rattle.core_links.specs.declared.links.Link.{Link}

-- a byte in quotes
abbrev pub quoted_byte : ℕ → List ℕ
quoted_byte b = if is_escaped b then 92 ∷ b ∷ [] else b ∷ []

abbrev pub quoted : List ℕ → List ℕ
quoted value = 34 ∷ flat_map quoted_byte value ++ 34 ∷ []

-- one digit or more, and nothing else
abbrev pub are_digits : List ℕ → Bool
are_digits value = nat_le 1 (length value) && list_all is_ascii_digit value

-- digits as they are, and any other value in quotes
abbrev pub value_text : List ℕ → List ℕ
value_text value = if are_digits value then value else quoted value

abbrev pub set_text : Option (List ℕ) → List ℕ
set_text None = []
set_text (Some value) = 61 ∷ value_text value

abbrev pub param_text : Param → List ℕ
param_text p = 59 ∷ p.name ++ set_text p.value

abbrev pub link_text : Link → List ℕ
link_text l = 60 ∷ l.target ++ 62 ∷ flat_map param_text l.params

-- a link after others
abbrev pub further_text : Link → List ℕ
further_text l = 44 ∷ link_text l

-- the links with `,` between them, and no spaces
abbrev pub links_text : List Link → List ℕ
links_text [] = []
links_text (l ∷ ls) = link_text l ++ flat_map further_text ls

-- ---- links that can be written so that they are read back

abbrev pub is_value : Option (List ℕ) → Bool
is_value None = true
is_value (Some value) = list_all (λ b. nat_le 32 b) value

abbrev pub is_param : Param → Bool
is_param p = (nat_le 1 (length p.name) && list_all is_name_byte p.name) && is_value p.value

abbrev pub is_link : Link → Bool
is_link l = list_all is_target_byte l.target && list_all is_param l.params

-- Targets and names are of the grammar, and no value has a byte below 32.
abbrev pub CanBeWritten : List Link → Type 0
CanBeWritten links = list_all is_link links ≡ true
