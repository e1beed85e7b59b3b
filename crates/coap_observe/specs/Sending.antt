-- A notification that is sent as a Confirmable message, again and again until it is acknowledged (RFC 7641, section
-- 4.5; RFC 7252, section 4.2). Times are in milliseconds.
use Rattle.std.specs.Prelude.{◌+◌, ◌-◌, ◌*◌, ℕ, nat_le, Bool}
use Rattle.coap_msg.specs.declared.transmission.TheConstants.{MOST_RETRANSMISSIONS}
use Rattle.coap_msg.specs.Transmission.{first_timeout}

-- a notification that nothing acknowledged: its message ID, the number of times that it was sent again, the time from
-- the last sending to the next, and the moment of the last
pub record Sent : Type 0 where
  pub id : ℕ
  pub retransmissions : ℕ
  pub timeout : ℕ
  pub last : ℕ

-- one that is sent now for the first time
abbrev pub first_sent : ℕ → ℕ → Sent
first_sent now id = record { id = id; retransmissions = 0; timeout = first_timeout id; last = now }

-- one that is sent again now, with this message ID: its timeout doubles
abbrev pub sent_again : ℕ → ℕ → Sent → Sent
sent_again now id n = record { id = id; retransmissions = n.retransmissions + 1; timeout = 2 * n.timeout; last = now }

-- its timeout is over
abbrev pub is_due : ℕ → Sent → Bool
is_due now n = nat_le n.timeout (now - n.last)

-- it was sent again as often as it may be
abbrev pub is_exhausted : Sent → Bool
is_exhausted n = nat_le MOST_RETRANSMISSIONS n.retransmissions
