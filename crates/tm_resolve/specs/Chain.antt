-- The way that leads to a part: the targets that were stepped into, from the root model on.
use Rattle.std.specs.Prelude.{◌&&◌, Bool, ℕ, List, [], Option, None, option_and_then, if◌then◌else◌}
use Rattle.std.specs.List.{list_any, flat_map}
use Rattle.std.specs.Result.{result_ok}
use Rattle.std.specs.Str.{bytes_eq}
use Rattle.wot_json.specs.Tree.{Json}
use Rattle.tm_parts.specs.Sources.{Sources, source_named}
use Rattle.tm_parts.specs.declared.reference.Reference.{Reference}

-- a model as a target: its whole, at the empty pointer (RFC 6901, section 5)
abbrev pub whole_of : List ℕ → Reference
whole_of url = record { url = url; pointer = [] }

-- the two lead to one part of one model; both texts are compared byte for byte
abbrev pub is_target : Reference → Reference → Bool
is_target target entry = bytes_eq entry.url target.url && bytes_eq entry.pointer target.pointer

-- the target is in the chain
abbrev pub is_in_chain : Reference → List Reference → Bool
is_in_chain target chain = list_any (is_target target) chain

-- the pointer that these pieces make, one after another
abbrev pub pointer_of : List (List ℕ) → List ℕ
pointer_of pieces = flat_map (λ piece. piece) pieces

-- The model that a step to the target enters, where one can be made: it is under the target's URL, the substitution
-- in it has no fault, and the target isn't in the chain.
abbrev pub entered_model : Sources → List Reference → Reference → Option Json
entered_model sources chain target = if is_in_chain target chain then None else option_and_then result_ok (source_named target.url sources)
