-- The CoAP message format (RFC 7252, section 3).
use Rattle.std.specs.Prelude.{◌≡◌, ℕ, ◌+◌, ◌-◌, ◌*◌, ◌/◌, ◌%◌, ◌^◌, ◌<◌, ◌≤◌, ◌⊎◌, List, [], ◌∷◌, ◌++◌, length, nat_lt, if◌then◌else◌}
use Rattle.coap_msg.specs.declared.constants.TheConstants.{LONGEST_TOKEN}
use Rattle.coap_msg.specs.declared.message.Type4.{Type4}
use Rattle.coap_msg.specs.declared.message.Type4.TheVariants.{Con, Non, Ack, Rst}

-- an option: its number and its value
abbrev pub CoapOption : Type 0
CoapOption = ℕ × List ℕ

-- a message, apart from where it lies in memory
pub record CoapMessage : Type 0 where
  pub kind : Type4
  pub code : ℕ
  pub id : ℕ
  pub token : List ℕ
  pub options : List CoapOption
  pub payload : List ℕ

-- the two bits of a message's type
abbrev pub type_bits : Type4 → ℕ
type_bits Con = 0
type_bits Non = 1
type_bits Ack = 2
type_bits Rst = 3

-- The header: one byte of version 1 (two bits), type (two bits) and token length (four bits), the code,
-- and the message ID in network byte order (section 3).
abbrev pub header : CoapMessage → List ℕ
header m =
    (64 * 1 + 16 * type_bits m.kind + length m.token) ∷ m.code ∷ (m.id / 256) ∷ (m.id % 256) ∷ []

-- The four bits of an option delta or an option length: up to 12 the number itself, 13 where one byte
-- follows, 14 where two follow; 15 is reserved (section 3.1).
abbrev pub nibble : ℕ → ℕ
nibble n = if nat_lt n 13 then n else if nat_lt n 269 then 13 else 14

-- The bytes of the extended delta or length: the number less 13 in one byte, or less 269 in two in
-- network byte order (section 3.1).
abbrev pub extended : ℕ → List ℕ
extended n =
    if nat_lt n 13 then [] else if nat_lt n 269 then (n - 13) ∷ [] else ((n - 269) / 256) ∷ ((n - 269) % 256) ∷ []

-- An option after one of the number last: delta and length in one byte, the extended delta, the
-- extended length, the value (section 3.1).
unfoldable pub option_spelling : ℕ → CoapOption → List ℕ
option_spelling last o =
    (16 * nibble (o.0 - last) + nibble (length o.1)) ∷ extended (o.0 - last) ++ extended (length o.1) ++ o.1

-- each option after the one before it, the first as if after the number 0
abbrev pub options_spelling : ℕ → List CoapOption → List ℕ
options_spelling last [] = []
options_spelling last (o ∷ os) = option_spelling last o ++ options_spelling o.0 os

-- the payload marker and the payload, or nothing where the payload is empty (section 3)
abbrev pub payload_spelling : List ℕ → List ℕ
payload_spelling [] = []
payload_spelling (b ∷ bs) = 255 ∷ b ∷ bs

-- the bytes of a message: header, token, options, payload (section 3)
abbrev pub spelling : CoapMessage → List ℕ
spelling m = header m ++ (m.token ++ (options_spelling 0 m.options ++ payload_spelling m.payload))

-- the largest delta or length that a nibble and its extended bytes can say, 269 + 65535 (section 3.1)
abbrev pub largest_number : ℕ
largest_number = 65804

-- An option may follow one of the number last: numbers don't fall, a number has 16 bits, and a
-- value has no more bytes than a length can say.
pub record MayFollow (last : ℕ) (o : CoapOption) : Type 0 where
  pub order : last ≤ o.0
  pub number : o.0 < 2 ^ 16
  pub value : length o.1 ≤ largest_number

-- each option may follow the one before it
abbrev pub AreInOrder : ℕ → List CoapOption → Type 0
AreInOrder last [] = Unit {0}
AreInOrder last (o ∷ os) = MayFollow last o × AreInOrder o.0 os

-- the classes that are not reserved: requests 0, success 2, client errors 4, server errors 5 (section 12.1); a message
-- of a reserved class is none
abbrev pub IsClass : ℕ → Type 0
IsClass class = (class ≡ 0) ⊎ (class ≡ 2) ⊎ (class ≡ 4) ⊎ (class ≡ 5)

-- an Empty message has nothing but its header (section 4.1)
pub record HasHeaderAlone (m : CoapMessage) : Type 0 where
  pub token : m.token ≡ []
  pub options : m.options ≡ []
  pub payload : m.payload ≡ []

-- The bounds of a message: a code of 8 bits and an ID of 16, a token of at most 8 bytes (section 3), a
-- class that is not reserved, options in order, and code 0.00 alone.
pub record IsWellFormed (m : CoapMessage) : Type 0 where
  pub code : m.code < 2 ^ 8
  pub class : IsClass (m.code / 32)
  pub id : m.id < 2 ^ 16
  pub token : length m.token ≤ LONGEST_TOKEN
  pub options : AreInOrder 0 m.options
  pub empty : m.code ≡ 0 → HasHeaderAlone m

-- these bytes are a message within the bounds
pub record Spells (m : CoapMessage) (bytes : List ℕ) : Type 0 where
  pub bounds : IsWellFormed m
  pub bytes_are : bytes ≡ spelling m
