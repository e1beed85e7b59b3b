-- The times at which a Confirmable message that nothing acknowledged is sent again, in milliseconds (RFC 7252, sections
-- 4.2 and 4.8).
use Rattle.std.specs.Prelude.{◌+◌, ◌%◌, ℕ}

-- the time after its first sending: ACK_TIMEOUT, 2 seconds, and up to 1 second more, which its message ID says in place
-- of a random factor
abbrev pub first_timeout : ℕ → ℕ
first_timeout id = 2000 + id % 1001
