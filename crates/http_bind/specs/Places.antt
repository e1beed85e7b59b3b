-- The path of a place as it is written in a reply (RFC 3986, section 3.3).
use Rattle.std.specs.Prelude.{ℕ, List, ◌++◌, codes}
use Rattle.std.specs.List.{flat_map}
use Rattle.servient_base.specs.Encoding.{encoded}

-- a segment after a slash
abbrev pub segment_text : List ℕ → List ℕ
segment_text segment = codes "/" ++ encoded segment

-- the text of a path
abbrev pub path_text : List (List ℕ) → List ℕ
path_text path = flat_map segment_text path
