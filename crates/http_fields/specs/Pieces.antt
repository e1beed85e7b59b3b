-- The pieces that an iterator over pieces has left.
use Rattle.std.specs.Prelude.{ℕ, ◌==◌, List, [], Option, Some, None}
use Rattle.std.specs.Borrow.{Bor}
use Rattle.std.specs.List.{slice_split}
use Rattle.http_fields.specs.declared.lines.Pieces.{Pieces}

-- the pieces of what is left, where there is anything
abbrev pub pieces_of : ℕ → Option (Bor (List ℕ)) → List (List ℕ)
pieces_of byte None = []
pieces_of byte (Some bytes) = slice_split (λ b. b == byte) bytes.now

-- the pieces that are still to come
abbrev pub pieces_left : Pieces → List (List ℕ)
pieces_left p = pieces_of p.byte p.rest

-- an item, apart from where it lies in memory
abbrev pub piece_of_item : Bor (List ℕ) → List ℕ
piece_of_item item = item.now
