-- A Thing Model's value without what is optional in it and wasn't chosen (Thing Description
-- 1.1, section "Thing Model").
use Rattle.std.specs.Prelude.{◌&&◌, not, Bool, ℕ, List, [], ◌∷◌, ◌++◌, codes, Option, Some, None, option_and_then, if◌then◌else◌}
use Rattle.wot_json.specs.Tree.{Json, null, object, members_of}
use Rattle.wot_json.specs.Lookup.{member_list}
use Rattle.wot_json.specs.Merge.{merge}
use Rattle.wot_json.specs.Places.{step_text}
use Rattle.tm_derive.specs.Changes.{part_under, change_of}
use Rattle.tm_derive.specs.Given.{Choice}
use Rattle.tm_derive.specs.Optional.{is_among, is_chosen}

-- the affordance at this place is optional and not chosen for the Thing of this segment
abbrev pub is_left_out : List (List ℕ) → List Choice → List ℕ → List ℕ → Bool
is_left_out texts choices segment place = is_among place texts && not (is_chosen choices segment place)

-- the pointer to a member of what a description holds under a name
abbrev pub member_place : List ℕ → List ℕ → List ℕ
member_place holder name = step_text holder ++ step_text name

-- a merge patch (RFC 7396) that takes away members that are left out, and one that does so in an object under a name
abbrev pub dropped_member : (List ℕ → Bool) → List ℕ → List ℕ → List (List ℕ × Json)
dropped_member is_out holder name = if is_out (member_place holder name) then (name, null) ∷ [] else []

abbrev pub dropped_members : (List ℕ → Bool) → List ℕ → List (List ℕ × Json) → List (List ℕ × Json)
dropped_members is_out holder [] = []
dropped_members is_out holder (m ∷ ms) = dropped_member is_out holder m.0 ++ dropped_members is_out holder ms

abbrev pub holder_change : (List ℕ → Bool) → List ℕ → Json → Option Json
holder_change is_out holder (object ms) = Some (object (members_of (dropped_members is_out holder (member_list ms))))
holder_change is_out holder v = None

-- the patch of what the value holds under a name, where it holds affordances
abbrev pub holder_patch : (List ℕ → Bool) → List ℕ → Json → List (List ℕ × Json)
holder_patch is_out holder value = change_of holder (option_and_then (holder_change is_out holder) (part_under holder value))

-- the patch that takes away all affordances that are left out, and the list of what is optional
abbrev pub dropping_patch : (List ℕ → Bool) → Json → List (List ℕ × Json)
dropping_patch is_out value =
    holder_patch is_out (codes "actions") value ++ holder_patch is_out (codes "events") value
    ++ holder_patch is_out (codes "properties") value ++ change_of (codes "tm:optional") (Some null)

-- the value without them
abbrev pub chosen_value : (List ℕ → Bool) → Json → Json
chosen_value is_out value = merge value (object (members_of (dropping_patch is_out value)))
