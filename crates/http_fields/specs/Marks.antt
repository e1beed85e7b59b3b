-- The marks by which the parts of a message are found, and line feeds (RFC 9112, sections 2.1 and 7.1).
use Rattle.std.specs.Prelude.{ℕ, ◌+◌, ◌==◌, List, [], ◌∷◌, ◌++◌, length, nat_eq, Option, Some, None, option_map, if◌then◌else◌}
use Rattle.std.specs.List.{starts_with}

-- CR LF, which ends a line
abbrev pub line_end : List ℕ
line_end = 13 ∷ 10 ∷ []

-- The number of bytes up to the first mark, the mark among them.
abbrev pub length_through : List ℕ → List ℕ → Option ℕ
length_through mark [] = None
length_through mark (b ∷ bytes) =
    if starts_with nat_eq (b ∷ bytes) mark then Some (length mark)
    else option_map (λ n. n + 1) (length_through mark bytes)

-- An empty line after another line, which ends a head and a trailer section (sections 2.1 and 7.1).
abbrev pub empty_line : List ℕ
empty_line = line_end ++ line_end

-- the number of line feeds
abbrev pub line_feeds : List ℕ → ℕ
line_feeds [] = 0
line_feeds (b ∷ bytes) = (if b == 10 then 1 else 0) + line_feeds bytes
