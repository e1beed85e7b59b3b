-- The path of a request target and its query (RFC 9112, section 3.2; RFC 3986, sections 3.3 and 3.4).
use Rattle.std.specs.Prelude.{ℕ, ◌+◌, ◌==◌, List, [], ◌∷◌, length, map, drop, codes, ◌&&◌, nat_lt, nat_eq, Option, Some, None, option_map, if◌then◌else◌}
use Rattle.std.specs.List.{starts_with, before_first, position_or_len, slice_split}
use Rattle.percent_encoding.specs.Percent.{percent_decode}

-- the path after an authority that isn't empty
abbrev pub path_behind_authority : List ℕ → Option (List ℕ)
path_behind_authority bytes =
    let slash = position_or_len (λ b. b == 47) bytes in
    if nat_lt 0 slash && nat_lt slash (length bytes) then Some (drop slash bytes) else None

-- The path in what comes before a query: the origin form is it, the absolute form has it after `http://` and an
-- authority, and no other form is taken.
abbrev pub path_in : List ℕ → Option (List ℕ)
path_in bytes =
    if starts_with nat_eq bytes (codes "/") then Some bytes
    else if starts_with nat_eq bytes (codes "http://") then path_behind_authority (drop 7 bytes)
    else None

-- the path of a target, from its first `/` on; the first `?` of the target ends it
abbrev pub path_of : List ℕ → Option (List ℕ)
path_of target = path_in (before_first (λ b. b == 63) target)

-- The segments after the first `/` of a path: none where nothing is there, else the parts between `/`. Each has its
-- percent-encoding taken away, where a `%` without two hexadecimal digits stays.
abbrev pub segments_behind : List ℕ → List (List ℕ)
segments_behind [] = []
segments_behind (b ∷ bytes) = map percent_decode (slice_split (λ c. c == 47) (b ∷ bytes))

-- the segments of the path of a target that is taken
abbrev pub segments_of : List ℕ → Option (List (List ℕ))
segments_of target = option_map (λ path. segments_behind (drop 1 path)) (path_of target)

-- the place after the first `?`; where there is none, the end
abbrev pub query_place : List ℕ → ℕ
query_place target =
    let mark = position_or_len (λ b. b == 63) target in
    if nat_lt mark (length target) then mark + 1 else length target
