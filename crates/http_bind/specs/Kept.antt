-- The code's form of the value that it holds of a connection.
use Rattle.std.specs.Prelude.{◌≤◌, length, drop, Option, option_map, vec_capacity}
use Rattle.http_bind.specs.declared.slot.ConnectionState.{ConnectionState}
use Rattle.http_bind.specs.declared.slot.ConnectionSlot.TheInside.{Inside}
use Rattle.http_bind.specs.Slots.{Held, longest_rest}
use Rattle.std.specs.Prelude.{List, ℕ}

-- these bytes are held, in this state
abbrev pub held_with : List ℕ → ConnectionState → Held
held_with rest st = record { rest = rest; continued = st.continued; owed = st.owed; active = st.active }

-- the view: the bytes after those that were taken
abbrev pub seen : Inside → Option Held
seen x = option_map (held_with (drop x.start x.bytes.items)) x.state

-- the invariant: the bytes are within the memory that was taken at first
pub record IsKept (x : Inside) : Type 0 where
  pub start : x.start ≤ length x.bytes.items
  pub bound : length x.bytes.items ≤ longest_rest
  pub capacity : longest_rest ≤ vec_capacity x.bytes
