-- Inside: the header lines that ask for a version as the bytes of a head have them, and what is noted of them.
use Rattle.std.specs.Prelude.{ℕ, ◌-◌, ◌==◌, List, [], ◌++◌, length, map, slice_index, codes, Bool, true, false, not, ◌&&◌, ◌||◌, nat_le, Option, Some, None, if◌then◌else◌}
use Rattle.std.specs.List.{list_any, slice_split, before_first, after_first}
use Rattle.std.specs.Fmt.{decimal}
use Rattle.std.specs.Str.{bytes_eq}
use Rattle.std.specs.Str.Parse.{digits_value}
use Rattle.thing_ops.specs.declared.conditions.Tags.{Tags}
use Rattle.thing_ops.specs.declared.conditions.Conditions.{Conditions}
use Rattle.thing_ops.specs.declared.verb.Verb.{Verb}
use Rattle.http_wire.specs.declared.conditions.NotedFields.{NotedFields}
use Rattle.http_fields.specs.Fields.{Line, has_name, values_of, trimmed}
use Rattle.http_wire.specs.Conditions.{items_of, tags_of, without_weak, none_match_of, reads, asking_lines}

-- the bytes behind the start line of a head: after the first line feed that comes after the first space
abbrev pub behind_start : List ℕ → List ℕ
behind_start head = after_first (λ b. b == 10) (after_first (λ b. b == 32) head)

-- the name and the value of a line: up to the first colon, and what is after it without white space
abbrev pub line_in : List ℕ → Line
line_in bytes = (before_first (λ b. b == 58) bytes, trimmed (after_first (λ b. b == 58) bytes))

-- The lines between line feeds: a CR before one is white space.
abbrev pub lines_in : List ℕ → List Line
lines_in bytes = map line_in (slice_split (λ b. b == 10) bytes)

-- the lines in bytes that ask for a version, where there are some
abbrev pub asking_lines_in : Bool → List ℕ → List Line
asking_lines_in false bytes = []
asking_lines_in true bytes = asking_lines (lines_in bytes)

-- ---- what is noted of lines, one after another

-- the versions that some items name, and then others
abbrev pub both_tags : Tags → Tags → Tags
both_tags one other = record { any = one.any || other.any; list = one.list ++ other.list }

-- the notes of lines: whether one is If-Match, and the versions that the lines of each name say
abbrev pub noted_of : List Line → NotedFields
noted_of lines = record {
  stands = list_any (has_name (codes "if-match")) lines;
  matched = tags_of (items_of (values_of (codes "if-match") lines));
  named = none_match_of (values_of (codes "if-none-match") lines);
}

-- and of others after them
abbrev pub noted_then : NotedFields → NotedFields → NotedFields
noted_then one other = record {
  stands = one.stands || other.stands;
  matched = both_tags one.matched other.matched;
  named = both_tags one.named other.named;
}

-- an item, which may be of a weak tag
abbrev pub opened : Bool → List ℕ → List ℕ
opened true item = without_weak item
opened false item = item

-- the versions that the items of a value name
abbrev pub named_in : Bool → List (List ℕ) → Tags
named_in weak items = tags_of (map (opened weak) (map trimmed items))

-- the demands of notes
abbrev pub asked_by : Verb → NotedFields → Conditions
asked_by verb noted = record {
  if_match = if noted.stands then Some noted.matched else None;
  known = record { any = noted.named.any && reads verb; list = noted.named.list };
  absent = noted.named.any && not (reads verb);
}

-- bytes stand in double quotes
abbrev pub is_quoted : List ℕ → Bool
is_quoted item = nat_le 2 (length item) && (slice_index item 0 == 34) && (slice_index item (length item - 1) == 34)

-- the number from 1 to 4,294,967,295 that bytes say in decimal
abbrev pub number_named : List ℕ → Option ℕ
number_named digits =
    let version = digits_value 10 digits in
    if nat_le 1 version && nat_le version 4294967295 && bytes_eq digits (decimal version) then Some version else None
