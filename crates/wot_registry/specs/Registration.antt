-- The registration information of a description (WoT Discovery): what is asked for by it, and what is said in it.
use Rattle.std.specs.Prelude.{◌+◌, ◌*◌, ◌&&◌, ℕ, ℤ, pos, List, Option, Some, None, unsigned_abs, codes, if◌then◌else◌}
use Rattle.std.specs.Prelude.{[], ◌∷◌}
use Rattle.std.specs.Ordering.{int_cmp, is_le}
use Rattle.wot_json.specs.Tree.{Json, null, boolean, integer, string, array, object, no_members, member, members_of}
use Rattle.wot_json.specs.Lookup.{member_list, member_named, value_under}
use Rattle.wot_json.specs.Merge.{without_member, members_under, merge}
use Rattle.wot_registry.specs.Times.{Times, longest_ttl}
use Rattle.wot_registry.specs.Dates.{date_text}

-- ---- what is asked for

-- a time to live: from one second to 365 days
abbrev pub ttl_within : ℤ → Option (Option ℕ)
ttl_within z = if is_le (int_cmp (pos 1) z) && is_le (int_cmp z (pos longest_ttl)) then Some (Some (unsigned_abs z)) else None

-- the time to live that the member `ttl` asks for, where it is one: none where there is no such member
abbrev pub ttl_in : Option Json → Option (Option ℕ)
ttl_in None = Some None
ttl_in (Some null) = None
ttl_in (Some (boolean b)) = None
ttl_in (Some (integer z)) = ttl_within z
ttl_in (Some (string s)) = None
ttl_in (Some (array es)) = None
ttl_in (Some (object ms)) = None

-- the same of the member `registration`, which is an object, where there is one; its other members are ignored
abbrev pub ttl_of_registration : Option Json → Option (Option ℕ)
ttl_of_registration None = Some None
ttl_of_registration (Some null) = None
ttl_of_registration (Some (boolean b)) = None
ttl_of_registration (Some (integer z)) = None
ttl_of_registration (Some (string s)) = None
ttl_of_registration (Some (array es)) = None
ttl_of_registration (Some (object ms)) = ttl_in (value_under (codes "ttl") ms)

-- the time to live that a description asks for
abbrev pub asked_ttl : Json → Option (Option ℕ)
asked_ttl description = ttl_of_registration (member_named (codes "registration") (members_under description))

-- the description but for its registration information, which is not kept
abbrev pub without_registration : Json → Json
without_registration null = null
without_registration (boolean b) = boolean b
without_registration (integer z) = integer z
without_registration (string s) = string s
without_registration (array es) = array es
without_registration (object ms) = object (members_of (without_member (codes "registration") (member_list ms)))

-- ---- what is said

-- a value that has this registration information and no other members
abbrev pub registered_as : List (List ℕ × Json) → Json
registered_as members = object (member (codes "registration") (object (members_of members)) no_members)

-- the date and time of a moment of a clock that began at `epoch`
abbrev pub moment_value : ℕ → ℕ → Json
moment_value epoch moment = string (date_text (epoch + moment))

-- the registration information that is said of the times of an entry
abbrev pub said_of : ℕ → Times → Option ℕ → List (List ℕ × Json)
said_of epoch t None =
    (codes "created", moment_value epoch t.created) ∷ (codes "modified", moment_value epoch t.modified) ∷ []
said_of epoch t (Some seconds) =
    (codes "created", moment_value epoch t.created) ∷ (codes "expires", moment_value epoch (t.modified + 1_000 * seconds))
    ∷ (codes "modified", moment_value epoch t.modified) ∷ (codes "ttl", integer (pos seconds)) ∷ []

-- a description as it is given out: merged with what is said of its times (RFC 7396)
abbrev pub shown : ℕ → Option Times → Json → Json
shown epoch None description = description
shown epoch (Some t) description = merge description (registered_as (said_of epoch t t.ttl))

-- a kept description as a patch is applied to it: with its time to live, where it has one
abbrev pub with_ttl : Option ℕ → Json → Json
with_ttl None description = description
with_ttl (Some seconds) description = merge description (registered_as ((codes "ttl", integer (pos seconds)) ∷ []))
