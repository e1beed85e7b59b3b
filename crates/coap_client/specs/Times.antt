-- The times of a request, in milliseconds (RFC 7252, sections 4.2 and 4.8).
use Rattle.std.specs.Prelude.{◌+◌, ◌*◌, ℕ, nat_lt, if◌then◌else◌}
use Rattle.coap_msg.specs.Transmission.{first_timeout}
use Rattle.coap_client.specs.declared.outstanding.Outstanding.{Outstanding}

-- the number of the four moments for a retransmission (MAX_RETRANSMIT, section 4.8) that have come so long after the
-- first sending: the timeout doubles each time (section 4.2)
abbrev pub retransmissions_within : ℕ → ℕ → ℕ
retransmissions_within timeout age =
    if nat_lt age timeout then 0
    else if nat_lt age (3 * timeout) then 1
    else if nat_lt age (7 * timeout) then 2
    else if nat_lt age (15 * timeout) then 3
    else 4

-- the same for a request, which isn't sent again once it is acknowledged (section 4.2)
abbrev pub retransmissions_by : Outstanding → ℕ → ℕ
retransmissions_by o age = if o.is_acknowledged then 0 else retransmissions_within (first_timeout o.id) age

-- The time after its first sending at which a request is given up: where nothing acknowledged it, when the timeout
-- after the fourth retransmission is over (section 4.2); else after 100 seconds (MAX_LATENCY, section 4.8.2).
abbrev pub deadline : Outstanding → ℕ
deadline o = if o.is_acknowledged then 100000 else 31 * first_timeout o.id

-- A request isn't sent again from this moment on (MAX_TRANSMIT_WAIT after the first sending, section 4.8.2).
abbrev pub transmission_end : Outstanding → ℕ
transmission_end o = o.first + 31 * first_timeout o.id
