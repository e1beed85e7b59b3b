-- One text or several, as `@type` and `@context` of a description are written (JSON-LD 1.1, section 3).
use Rattle.std.specs.Prelude.{ℕ, List, Bool, false}
use Rattle.std.specs.List.{list_any}
use Rattle.std.specs.Str.{bytes_eq}
use Rattle.wot_json.specs.Tree.{Json, string, array}
use Rattle.wot_json.specs.Lookup.{element_list}

-- the value is this text
abbrev pub is_text_of : List ℕ → Json → Bool
is_text_of text (string s) = bytes_eq text s
is_text_of text v = false

-- the value is this text, or a list that has it
abbrev pub has_text : List ℕ → Json → Bool
has_text text (array es) = list_any (is_text_of text) (element_list es)
has_text text v = is_text_of text v
