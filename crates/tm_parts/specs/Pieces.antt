-- The pieces of the code.
use Rattle.std.specs.Prelude.{List, [], ◌∷◌, map}
use Rattle.tm_parts.specs.Placeholders.{plain, placeholder}
use Rattle.tm_parts.specs.Placeholders as text
use Rattle.tm_parts.specs.declared.placeholder.Piece.{Piece}
use Rattle.tm_parts.specs.declared.placeholder.Piece.TheVariants.{Plain, Placeholder}

-- the pieces that a piece of the code is cut into: each byte of plain text is one, and a placeholder is one
abbrev pub pieces_of : Piece → List text.Piece
pieces_of (Plain bytes) = map plain bytes.now
pieces_of (Placeholder name) = placeholder name.now ∷ []
