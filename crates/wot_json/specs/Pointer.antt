-- The value at a place of a value: JSON Pointer (RFC 6901).
use Rattle.std.specs.Prelude.{◌≡◌, ◌==◌, ◌&&◌, ◌||◌, Bool, true, false, ℕ, ◌+◌, List, [], ◌∷◌, Option, Some, None, option_and_then, if◌then◌else◌}
use Rattle.std.specs.Str.{bytes_eq}
use Rattle.wot_json.specs.Tree.{Json, null, boolean, integer, string, array, object}
use Rattle.wot_json.specs.Lookup.{element_list, member_list, member_named}
use Rattle.wot_json.specs.Places.{index_text, place_text}

-- the text is a pointer: some tokens, each after a `/` (section 3)
abbrev pub IsPointer : List ℕ → Type 0
IsPointer text = (tokens : List (List ℕ)) × (text ≡ place_text tokens)

-- of elements counted from this index on, the one whose index is written as the token (section 4)
abbrev pub element_at : List ℕ → ℕ → List Json → Option Json
element_at token index [] = None
element_at token index (v ∷ vs) = if bytes_eq token (index_text index) then Some v else element_at token (index + 1) vs

-- the part of a value that a token names: an element by its index, a member by its name (section 4)
abbrev pub part_at : List ℕ → Json → Option Json
part_at token null = None
part_at token (boolean b) = None
part_at token (integer z) = None
part_at token (string s) = None
part_at token (array es) = element_at token 0 (element_list es)
part_at token (object ms) = member_named token (member_list ms)

-- the value where these tokens lead, from the whole value on (section 4)
abbrev pub value_at : List (List ℕ) → Json → Option Json
value_at [] v = Some v
value_at (token ∷ tokens) v = option_and_then (value_at tokens) (part_at token v)

-- the byte after a `~` is a `0` or a `1`
abbrev pub is_escape : List ℕ → Bool
is_escape [] = false
is_escape (b ∷ bs) = (b == 48) || (b == 49)

-- after each `~` of a pointer comes a `0` or a `1` (section 3)
abbrev pub escapes : List ℕ → Bool
escapes [] = true
escapes (b ∷ bs) = (if b == 126 then is_escape bs else true) && escapes bs

-- the text is a pointer, as a test: it is empty, or a `/` and then escaped tokens (section 3)
abbrev pub is_pointer : List ℕ → Bool
is_pointer [] = true
is_pointer (b ∷ bs) = (b == 47) && escapes bs

-- the bytes of a token after a `~`, together with that: `~0` is `~`, and `~1` is `/` (section 4)
abbrev pub unescaped_token : List ℕ → List ℕ
unescaped_token [] = []
unescaped_token (b ∷ bs) = (if b == 48 then 126 else 47) ∷ bs

-- a byte before a token and the tokens after it: `/` ends a token, `~` begins an escape, and all else is itself
abbrev pub with_byte : ℕ → List ℕ × List (List ℕ) → List ℕ × List (List ℕ)
with_byte b tokens =
    if b == 47 then ([], tokens.0 ∷ tokens.1)
    else if b == 126 then (unescaped_token tokens.0, tokens.1)
    else (b ∷ tokens.0, tokens.1)

-- the first token that a text writes, and the tokens after it
abbrev pub first_tokens : List ℕ → List ℕ × List (List ℕ)
first_tokens [] = ([], [])
first_tokens (b ∷ bs) = with_byte b (first_tokens bs)

-- the tokens that a pointer writes, each after a `/` (sections 3 and 4)
abbrev pub tokens_in : List ℕ → List (List ℕ)
tokens_in [] = []
tokens_in (b ∷ bs) = (first_tokens bs).0 ∷ (first_tokens bs).1

-- the value at a pointer, if there is one; at a text that is no pointer there is none (section 4)
abbrev pub part_of : List ℕ → Json → Option Json
part_of at whole = if is_pointer at then value_at (tokens_in at) whole else None
