-- The conditions of a request on the version that a property has: preconditions (RFC 9110, section 13; RFC 7252,
-- sections 5.10.6 and 5.10.8). A version is a number, and stands for a representation as a strong entity tag does (RFC
-- 9110, section 8.8.3).
use Rattle.std.specs.Prelude.{ℕ, Bool, false, not, ◌||◌, nat_eq, [], Option, Some, None}
use Rattle.std.specs.List.{list_any}
use Rattle.thing_ops.specs.declared.conditions.Tags.{Tags}
use Rattle.thing_ops.specs.declared.conditions.Conditions.{Conditions}

-- a version is among these: any is, or it is one of the list
abbrev pub has : Tags → ℕ → Bool
has tags version = tags.any || list_any (λ v. nat_eq v version) tags.list

-- If-Match (RFC 9110, section 13.1.1; RFC 7252, section 5.10.8.1): the version has to be among these, where they stand
abbrev pub is_missed : Option Tags → ℕ → Bool
is_missed None version = false
is_missed (Some tags) version = not (has tags version)

-- A property of this version isn't what is asked: nothing was to be there, and a property always is (If-None-Match: RFC
-- 9110, section 13.1.2; RFC 7252, section 5.10.8.2), or it has none of the versions that it was to have.
abbrev pub fails : Conditions → ℕ → Bool
fails c version = c.absent || is_missed c.if_match version

-- A request to write asks besides that the property has none of the versions that its sender knows (RFC 9110, section
-- 13.1.2), where a request to read is told that it has one.
abbrev pub fails_to_write : Conditions → ℕ → Bool
fails_to_write c version = fails c version || has c.known version

-- nothing is asked
abbrev pub no_tags : Tags
no_tags = record { any = false; list = [] }

abbrev pub no_conditions : Conditions
no_conditions = record { if_match = None; known = no_tags; absent = false }
