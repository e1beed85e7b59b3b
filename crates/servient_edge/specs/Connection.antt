-- The bytes that a connection gives and keeps.
use Rattle.std.specs.Prelude.{◌≡◌, ◌≤◌, ◌-◌, ℕ, Bool, true, false, List, [], ◌++◌, length, Option, Some, None, is_some, nat_lt, nat_le, if◌then◌else◌}
use Rattle.servient_edge.specs.declared.connection.Connection.{Connection}
use Rattle.servient_edge.specs.declared.turns.Took.{Took}
use Rattle.servient_edge.specs.declared.turns.Took.TheVariants as took

-- A turn may give this of a connection that is closed, or isn't: bytes of one that is open, some and no more than a
-- buffer takes, and its end; of one that is closed nothing but that it is over.
abbrev pub TookAt : Bool → Took → Type 0
TookAt closed (took.Bytes count) = (closed ≡ false) × (1 ≤ count) × (count ≤ 4096)
TookAt closed took.Unwanted = closed ≡ true
TookAt closed took.Nothing = Unit {0}
TookAt closed took.Ended = closed ≡ false
TookAt closed took.Over = closed ≡ true

-- it is the end of a connection
abbrev pub IsEnd : Took → Type 0
IsEnd (took.Bytes count) = ⊥
IsEnd took.Unwanted = ⊥
IsEnd took.Nothing = ⊥
IsEnd took.Ended = Unit {0}
IsEnd took.Over = Unit {0}

-- whether something is kept
abbrev pub has_any : List ℕ → Bool
has_any kept = nat_lt 0 (length kept)

-- Whether a connection was closed and its peer has had its time at a moment: two seconds once nothing is kept, and
-- thirty as long as something is.
abbrev pub over_since : Option ℕ → List ℕ → ℕ → Bool
over_since None kept moment = false
over_since (Some since) kept moment = nat_le (if has_any kept then 30_000 else 2_000) (moment - since)

abbrev pub is_over_at : Connection → ℕ → Bool
is_over_at connection moment = over_since connection.closed connection.kept moment

-- of what was kept, and then a message, a front has gone, and the rest is kept
abbrev pub KeepsRest : List ℕ → List ℕ → List ℕ → Type 0
KeepsRest kept message kept_after = (front : List ℕ) × (kept ++ message ≡ front ++ kept_after)

-- the bytes that are sent of a message: none where the connection is closed
abbrev pub sent_by : Connection → List ℕ → List ℕ
sent_by connection message = if is_some connection.closed then [] else message

-- A turn leaves this of the bytes that are kept, where the connection goes on: a front has gone, and the rest is kept.
abbrev pub Leaves : List ℕ → Took → List ℕ → Type 0
Leaves before (took.Bytes count) after = KeepsRest before [] after
Leaves before took.Unwanted after = KeepsRest before [] after
Leaves before took.Nothing after = KeepsRest before [] after
Leaves before took.Ended after = Unit {0}
Leaves before took.Over after = Unit {0}
