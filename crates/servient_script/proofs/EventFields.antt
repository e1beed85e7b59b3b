-- The fields of a line, and which event they are.
use Rattle.std.proofs.Common.{◌≡◌, ℕ, List, [], ◌∷◌, codes, decimal, refl, ap, arith}
use Rattle.coap_msg.specs.declared.endpoint.Endpoint.{Endpoint}
use Rattle.servient_outside.specs.declared.net.What.{What}
use Rattle.servient_outside.specs.declared.net.What.TheVariants.{Opened, Bytes, Ended, Datagram, Tick, Stop}
use Rattle.servient_script.specs.Script.{endpoint_text, hex_text, what_fields}

-- the first byte of the first field
abbrev first_byte : List (List ℕ) → ℕ
first_byte [] = 0
first_byte ([] ∷ fields) = 0
first_byte ((b ∷ bytes) ∷ fields) = b

-- ---- which kind has these fields

pub is_opened : (what : What) (bytes field : List ℕ) → codes "open" ∷ field ∷ [] ≡ what_fields what bytes → (c : ℕ) × (what ≡ Opened c) × (field ≡ decimal c)
is_opened (Opened c) bytes field is = (c, refl, cc)
is_opened (Bytes c count) bytes field is = absurd cc
is_opened (Ended c) bytes field is = absurd cc
is_opened (Datagram from count) bytes field is = absurd cc
is_opened Tick bytes field is = absurd cc
is_opened Stop bytes field is = absurd cc

pub is_ended : (what : What) (bytes field : List ℕ) → codes "end" ∷ field ∷ [] ≡ what_fields what bytes → (c : ℕ) × (what ≡ Ended c) × (field ≡ decimal c)
is_ended (Opened c) bytes field is = absurd cc
is_ended (Bytes c count) bytes field is = absurd cc
is_ended (Ended c) bytes field is = (c, refl, cc)
is_ended (Datagram from count) bytes field is = absurd cc
is_ended Tick bytes field is = absurd cc
is_ended Stop bytes field is = absurd cc

pub are_bytes : (what : What) (bytes field digits : List ℕ) → codes "bytes" ∷ field ∷ digits ∷ [] ≡ what_fields what bytes → (c : ℕ) × (count : ℕ) × (what ≡ Bytes c count) × (field ≡ decimal c) × (digits ≡ hex_text bytes)
are_bytes (Opened c) bytes field digits is = absurd cc
are_bytes (Bytes c count) bytes field digits is = (c, count, refl, cc, cc)
are_bytes (Ended c) bytes field digits is = absurd cc
are_bytes (Datagram from count) bytes field digits is = absurd cc
are_bytes Tick bytes field digits is = absurd cc
are_bytes Stop bytes field digits is = absurd cc

pub is_datagram : (what : What) (bytes field digits : List ℕ) → codes "data" ∷ field ∷ digits ∷ [] ≡ what_fields what bytes → (from : Endpoint) × (count : ℕ) × (what ≡ Datagram from count) × (field ≡ endpoint_text from) × (digits ≡ hex_text bytes)
is_datagram (Opened c) bytes field digits is = absurd cc
is_datagram (Bytes c count) bytes field digits is = absurd cc
is_datagram (Ended c) bytes field digits is = absurd cc
is_datagram (Datagram from count) bytes field digits is = (from, count, refl, cc, cc)
is_datagram Tick bytes field digits is = absurd cc
is_datagram Stop bytes field digits is = absurd cc

pub is_tick : (what : What) (bytes : List ℕ) → codes "tick" ∷ [] ≡ what_fields what bytes → what ≡ Tick
is_tick (Opened c) bytes is = absurd cc
is_tick (Bytes c count) bytes is = absurd cc
is_tick (Ended c) bytes is = absurd cc
is_tick (Datagram from count) bytes is = absurd cc
is_tick Tick bytes is = refl
is_tick Stop bytes is = let same : 116 ≡ 115 = ap first_byte is in absurd (omega (arith, same))

pub is_the_stop : (what : What) (bytes : List ℕ) → codes "stop" ∷ [] ≡ what_fields what bytes → what ≡ Stop
is_the_stop (Opened c) bytes is = absurd cc
is_the_stop (Bytes c count) bytes is = absurd cc
is_the_stop (Ended c) bytes is = absurd cc
is_the_stop (Datagram from count) bytes is = absurd cc
is_the_stop Tick bytes is = let same : 115 ≡ 116 = ap first_byte is in absurd (omega (arith, same))
is_the_stop Stop bytes is = refl
