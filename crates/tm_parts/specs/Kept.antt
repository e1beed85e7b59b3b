-- The types of the code, as contracts see them.
use Rattle.std.specs.Prelude.{ℕ, List, map, String, string_bytes}
use Rattle.std.specs.declared.alloc.Global.{Global}
use Rattle.std.proofs.Common.{Bor}
use Rattle.wot_json.specs.Tree.{Json}
use Rattle.wot_json.specs.Meaning.{json_of}
use Rattle.wot_json.specs.declared.tree.Tree.{Tree}

-- models as the library's map keeps them
abbrev pub kept_models : List (String Global × Tree) → List (List ℕ × Json)
kept_models = map (λ entry. (string_bytes entry.0, json_of entry.1))

-- bound values as the map of them keeps them
abbrev pub kept_values : List (String Global × Bor Tree) → List (List ℕ × Json)
kept_values = map (λ entry. (string_bytes entry.0, json_of entry.1.now))

-- the names in that list
abbrev pub kept_names : List (String Global × Bor Tree) → List (List ℕ)
kept_names = map (λ entry. string_bytes entry.0)
