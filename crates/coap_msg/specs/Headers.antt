-- The header of a message: its first four bytes (RFC 7252, section 3).
use Rattle.std.specs.Prelude.{◌≡◌, ℕ, ◌+◌, ◌*◌, ◌/◌, ◌%◌, ◌^◌, ◌<◌, List, [], ◌∷◌, ◌++◌}
use Rattle.coap_msg.specs.declared.header.Header.{Header}
use Rattle.coap_msg.specs.Grammar.{type_bits}

-- the four bytes of a header of any version
abbrev pub header_spelling : Header → List ℕ
header_spelling h =
    (64 * h.version + 16 * type_bits h.kind + h.token_length) ∷ h.code ∷ (h.id / 256) ∷ (h.id % 256) ∷ []

-- The bytes are this header, whose fields have their bits, and then the rest.
pub record SpellsHeader (h : Header) (bytes rest : List ℕ) : Type 0 where
  pub bytes_are : bytes ≡ header_spelling h ++ rest
  pub version : h.version < 4
  pub token_length : h.token_length < 16
  pub code : h.code < 2 ^ 8
  pub id : h.id < 2 ^ 16
