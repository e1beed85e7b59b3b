-- Things, as contracts see them.
use Rattle.std.specs.Prelude.{ℕ, List, map}
use Rattle.wot_json.specs.Tree.{Json}
use Rattle.wot_json.specs.Meaning.{json_of}
use Rattle.wot_terms.specs.declared.thing.Thing.{Thing}

-- the segment of each Thing, and its description
abbrev pub kept_thing : Thing → List ℕ × Json
kept_thing thing = (thing.segment, json_of thing.tree)

abbrev pub kept_things : List Thing → List (List ℕ × Json)
kept_things = map kept_thing

abbrev pub segments_in : List Thing → List (List ℕ)
segments_in = map (λ thing. thing.segment)
