-- The datagrams of the storm: requests for the status of the built-in lamp (RFC 7252, section 3).
use Rattle.std.specs.Prelude.{ℕ, ◌/◌, ◌%◌, List, [], ◌∷◌, ◌++◌, codes, decimal}
use Rattle.storm_events.specs.declared.datagram.Asks.{Asks}
use Rattle.storm_events.specs.declared.datagram.Asks.TheVariants.{ConfirmableGet, ConfirmablePut, NonConfirmableGet}
use Rattle.storm_events.specs.declared.datagram.Datagram.{Datagram}

-- The first byte: version 1 (two bits), Confirmable or Non-confirmable (two bits), no token (four bits). Then the code:
-- 0.01 is GET, 0.03 PUT.
abbrev pub header_of : Asks → List ℕ
header_of ConfirmableGet = 0x40 ∷ 0x01 ∷ []
header_of (ConfirmablePut status) = 0x40 ∷ 0x03 ∷ []
header_of NonConfirmableGet = 0x50 ∷ 0x01 ∷ []

-- Uri-Path (11) three times: `lamp`, `properties`, `status`. Each option has a byte of the delta from the number before it
-- (11, 0, 0) and its length (4, 10, 6).
abbrev pub path : List ℕ
path = (0xb4 ∷ codes "lamp") ++ (0x0a ∷ codes "properties") ++ (0x06 ∷ codes "status")

-- After the path a PUT has Content-Format (12) 50, which is JSON, then the payload marker and the status in decimal.
abbrev pub body_of : Asks → List ℕ
body_of ConfirmableGet = []
body_of (ConfirmablePut status) = 0x11 ∷ 0x32 ∷ 0xff ∷ decimal status
body_of NonConfirmableGet = []

-- the bytes of a datagram: its header ends with the message ID in network byte order
abbrev pub bytes_of : Datagram → List ℕ
bytes_of d = header_of d.asks ++ (d.id / 256 ∷ d.id % 256 ∷ []) ++ path ++ body_of d.asks
