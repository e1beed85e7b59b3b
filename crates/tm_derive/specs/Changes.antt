-- Members of a merge patch (RFC 7396).
use Rattle.std.specs.Prelude.{ℕ, List, [], ◌∷◌, Option, Some, None}
use Rattle.wot_json.specs.Tree.{Json}
use Rattle.wot_json.specs.Lookup.{member_named}
use Rattle.wot_json.specs.Merge.{members_under}

-- the value's member of this name, where it has one
abbrev pub part_under : List ℕ → Json → Option Json
part_under name value = member_named name (members_under value)

-- the change of the member of this name, where there is one
abbrev pub change_of : List ℕ → Option Json → List (List ℕ × Json)
change_of name None = []
change_of name (Some v) = (name, v) ∷ []
