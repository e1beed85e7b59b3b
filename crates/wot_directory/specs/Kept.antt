-- The view of the types of the code in contracts.
use Rattle.std.specs.Prelude.{ℕ, List, map, String, string_bytes}
use Rattle.std.specs.declared.alloc.Global.{Global}
use Rattle.wot_json.specs.Tree.{Json}
use Rattle.wot_json.specs.Meaning.{json_of}
use Rattle.wot_json.specs.declared.tree.Tree.{Tree}
use Rattle.wot_directory.specs.Contents.{Contents}

-- descriptions as the directory's map keeps them
abbrev pub kept_entries : List (String Global × Tree) → List (List ℕ × Json)
kept_entries = map (λ entry. (string_bytes entry.0, json_of entry.1))

-- the view of a directory with these descriptions and this counter
abbrev pub contents_of : List (String Global × Tree) → ℕ → Contents
contents_of entries next = record { entries = kept_entries entries; next = next }
