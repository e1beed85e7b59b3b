-- The beginning and the grammar of a request head, and its header lines (RFC 9112, sections 2.2, 3 and 5).
use Rattle.std.specs.Prelude.{◌≤◌, ℕ, ◌==◌, List, [], ◌∷◌, length, map, Bool, ◌&&◌, not, if◌then◌else◌}
use Rattle.httparse.specs.Grammar.{ReadsRequest, RequestHead}
use Rattle.httparse.specs.Spans.{name_and_value}
use Rattle.http_fields.specs.Fields.{Line}

-- The bytes after the CR LF pairs in front of a message (section 2.2).
abbrev pub skipped : List ℕ → List ℕ
skipped [] = []
skipped (a ∷ []) = a ∷ []
skipped (a ∷ b ∷ bytes) = if (a == 13) && (b == 10) then skipped bytes else a ∷ b ∷ bytes

-- a byte may come after this one: a line feed after each carriage return, and after no other byte
abbrev pub may_follow : ℕ → ℕ → Bool
may_follow before b = if before == 13 then b == 10 else not (b == 10)

-- after this byte each carriage return and each line feed is part of a CR LF
abbrev pub are_paired : ℕ → List ℕ → Bool
are_paired before [] = not (before == 13)
are_paired before (b ∷ bytes) = may_follow before b && are_paired b bytes

-- The bytes are exactly this request head, of at most 64 header lines, by the grammar of `httparse` in its default
-- settings. That takes more than RFC 9112 does, as bare line feeds, and so is asked after `has_pairs_alone`. A head has
-- one tree by it, whose parts are its method, its target, its version, and its names and values.
abbrev pub IsHead : List ℕ → RequestHead → Type 0
IsHead bytes h = ReadsRequest bytes h [] × (length h.fields ≤ 64)

-- the version is HTTP/1.1; else it is HTTP/1.0
abbrev pub is_newer : RequestHead → Bool
is_newer h = h.minor == 1

-- the header lines of a head
abbrev pub lines_of : RequestHead → List Line
lines_of h = map name_and_value h.fields
