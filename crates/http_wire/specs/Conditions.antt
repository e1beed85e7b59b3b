-- The demands of the header lines of a request on the version of a property: If-Match and If-None-Match (RFC 9110,
-- sections 8.8.3, 13.1.1 and 13.1.2).
use Rattle.std.specs.Prelude.{◌≡◌, ◌≤◌, ℕ, ◌-◌, ◌==◌, List, [], ◌∷◌, length, map, take, drop, codes, Bool, true, false, not, ◌&&◌, nat_eq, nat_le, filter_map, Option, Some, None, if◌then◌else◌}
use Rattle.std.specs.List.{filter, flat_map, list_any, slice_split, starts_with}
use Rattle.std.specs.Str.{bytes_eq}
use Rattle.std.specs.Str.Parse.{digits_value}
use Rattle.thing_ops.specs.declared.conditions.Tags.{Tags}
use Rattle.thing_ops.specs.declared.conditions.Conditions.{Conditions}
use Rattle.thing_ops.specs.declared.verb.Verb.{Verb}
use Rattle.thing_ops.specs.declared.verb.Verb.TheVariants as verb
use Rattle.http_replies.specs.Writing.{entity_tag}
use Rattle.http_fields.specs.Fields.{Line, values_of, asks_for_version, trimmed}

-- ---- versions as entity tags

-- the number that the bytes between the first and the last say
abbrev pub number_inside : List ℕ → ℕ
number_inside tag = digits_value 10 (take (length tag - 2) (drop 1 tag))

-- The version that an item names: it is the entity tag of a number from 1 to 4,294,967,295. Any other item names none.
abbrev pub version_of : List ℕ → Option ℕ
version_of item =
    let version = number_inside item in
    if nat_le 1 version && nat_le version 4294967295 && bytes_eq item (entity_tag version) then Some version else None

-- ---- items

-- The items of the lines of one name: their values, joined by commas and cut at commas (sections 5.3 and 5.6.1), each
-- without the white space around it.
abbrev pub items_of : List (List ℕ) → List (List ℕ)
items_of values = map trimmed (flat_map (slice_split (λ b. b == 44)) values)

-- an item is `*`
abbrev pub is_star : List ℕ → Bool
is_star item = bytes_eq item (codes "*")

-- the versions that items name, or any: an item is `*`
abbrev pub tags_of : List (List ℕ) → Tags
tags_of items = record { any = list_any is_star items; list = filter_map version_of items }

-- An item without the `W/` of a weak tag. If-None-Match compares weak tags as strong ones; If-Match takes none, so that
-- there an item with it names nothing (section 8.8.3.2). The text after it isn't trimmed again.
abbrev pub without_weak : List ℕ → List ℕ
without_weak item = if starts_with nat_eq item (codes "W/") then drop 2 item else item

-- ---- what is asked

-- the demands of the values of If-Match, if there are any
abbrev pub match_of : List (List ℕ) → Option Tags
match_of [] = None
match_of (value ∷ values) = Some (tags_of (items_of (value ∷ values)))

-- the versions that the values of If-None-Match name
abbrev pub none_match_of : List (List ℕ) → Tags
none_match_of values = tags_of (map without_weak (items_of values))

-- GET and HEAD
abbrev pub reads : Verb → Bool
reads verb.Get = true
reads verb.Head = true
reads verb.Put = false
reads verb.Post = false
reads verb.Patch = false
reads verb.Delete = false
reads verb.Other = false

-- The demands of lines on the version. `*` of If-None-Match says of a request to read that its sender has any version,
-- and of another request that nothing is to be there.
abbrev pub conditions_of : Verb → List Line → Conditions
conditions_of verb lines =
    let named = none_match_of (values_of (codes "if-none-match") lines) in
    record {
      if_match = match_of (values_of (codes "if-match") lines);
      known = record { any = named.any && reads verb; list = named.list };
      absent = named.any && not (reads verb);
    }

-- the lines that ask for a version: no other line asks anything of it
abbrev pub asking_lines : List Line → List Line
asking_lines lines = filter asks_for_version lines

-- ---- laws

-- a version that is written is read again
abbrev pub TagsAreReadAgain : Type 0
TagsAreReadAgain = (version : ℕ) → 1 ≤ version → version ≤ 4294967295 → version_of (entity_tag version) ≡ Some version

-- the asking lines of a head make the same demands as all its lines
abbrev pub NoOtherLineAsks : Type 0
NoOtherLineAsks = (verb : Verb) (lines : List Line) → conditions_of verb (asking_lines lines) ≡ conditions_of verb lines
