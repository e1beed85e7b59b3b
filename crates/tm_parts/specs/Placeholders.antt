-- Placeholders in a text (Thing Description 1.1, section "Thing Model"), and how a text is cut into pieces.
use Rattle.std.specs.Prelude.{ℕ, zero, suc, ◌+◌, ◌==◌, ◌&&◌, not, nat_lt, nat_le, Bool, List, [], ◌∷◌, ◌++◌, length, take, drop, codes, Option, Some, None, if◌then◌else◌}
use Rattle.std.specs.List.{flat_map, list_all, take_while}
use Rattle.std.specs.Str.{bytes_eq}

-- a byte that a name may have: printable ASCII other than braces
abbrev pub is_name_byte : ℕ → Bool
is_name_byte b = nat_le 32 b && nat_le b 126 && not (b == 123) && not (b == 125)

-- a name: 1 to 64 such bytes
abbrev pub is_name : List ℕ → Bool
is_name name = list_all is_name_byte name && nat_lt 0 (length name) && nat_le (length name) 64

-- a placeholder as it is written: its name in double braces
abbrev pub placeholder_text : List ℕ → List ℕ
placeholder_text name = codes "{{" ++ name ++ codes "}}"

-- The name of the placeholder with which a text begins, where it begins with one. A name has no braces, so it
-- can only be what comes after the first two bytes, as far as a name may go.
unfoldable pub placeholder_at : List ℕ → Option (List ℕ)
placeholder_at text =
    let name = take_while is_name_byte (drop 2 text) in
    if is_name name && bytes_eq (take (length name + 4) text) (placeholder_text name) then Some name else None

-- A piece of a text: one byte as it is, or a placeholder with its name. Bytes will do, because names and braces are
-- ASCII and no other character has such a byte.
pub data Piece : Type 0 where
  plain : ℕ → Piece
  placeholder : List ℕ → Piece

-- The pieces of a text after its first n bytes, which are skipped: where a placeholder begins it is
-- taken whole, and else one byte is plain.
abbrev pub pieces_after : ℕ → List ℕ → List Piece
pieces_after skipped [] = []
pieces_after (suc skipped) (b ∷ bs) = pieces_after skipped bs
pieces_after zero (b ∷ bs) =
    elim (placeholder_at (b ∷ bs)) [
      | None ↦ plain b ∷ pieces_after 0 bs
      | Some name ↦ placeholder name ∷ pieces_after (length name + 3) bs
    ]

-- the pieces of a text, from the left
abbrev pub pieces : List ℕ → List Piece
pieces text = pieces_after 0 text

-- the name of a piece that is a placeholder
abbrev pub piece_name : Piece → List (List ℕ)
piece_name (plain b) = []
piece_name (placeholder name) = name ∷ []

-- the names of the placeholders of a text, from the left
abbrev pub placeholders : List ℕ → List (List ℕ)
placeholders text = flat_map piece_name (pieces text)

-- the name of the placeholder that is all of these pieces, where one is
abbrev pub sole_placeholder : List Piece → Option (List ℕ)
sole_placeholder (placeholder name ∷ []) = Some name
sole_placeholder ps = None

-- the first of a list, where there is one
abbrev pub first_of : {X : Type 0} → List X → Option X
first_of [] = None
first_of (x ∷ xs) = Some x
