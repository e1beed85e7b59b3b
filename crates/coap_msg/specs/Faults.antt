-- The faults of bytes that are no message (RFC 7252, section 3). Of a fault all that is judged before it is right. At
-- most one fault holds of given bytes, and none of the bytes of a message (`one_fault`, `no_fault`). So the faults are
-- said without a function that would be the reader again.
use Rattle.std.specs.Prelude.{◌≡◌, ◌≢◌, ℕ, ◌+◌, ◌/◌, ◌%◌, ◌^◌, ◌<◌, ◌≤◌, ◌⊎◌, List, [], ◌∷◌, ◌++◌, length, drop}
use Rattle.coap_msg.specs.declared.constants.TheConstants.{LONGEST_TOKEN}
use Rattle.coap_msg.specs.declared.header.Header.{Header}
use Rattle.coap_msg.specs.declared.message.MsgFault.{MsgFault}
use Rattle.coap_msg.specs.declared.message.MsgFault.TheVariants as fault
use Rattle.coap_msg.specs.Grammar.{CoapOption, IsClass, option_spelling, options_spelling, largest_number, AreInOrder}
use Rattle.coap_msg.specs.Opts.{last_number}
use Rattle.coap_msg.specs.Headers.{SpellsHeader}

-- ---- the header

-- The version is 1, and the token has at most 8 bytes, all of which are there.
pub record HasToken (h : Header) (rest : List ℕ) : Type 0 where
  pub version : h.version ≡ 1
  pub short : h.token_length ≤ LONGEST_TOKEN
  pub within : h.token_length ≤ length rest

-- Nothing is wrong with a header and the number of bytes after it: the token is there, nothing follows the code 0.00
-- (section 4.1), and the class is not reserved (section 12.1).
pub record MayGoOn (h : Header) (rest : List ℕ) : Type 0 where
  pub token : HasToken h rest
  pub empty : h.code ≡ 0 → length rest ≡ 0
  pub class : IsClass (h.code / 32)

-- The fault of a header and the bytes after it. (The class of the code 0.00 is not reserved.)
pub data HasHeaderFault (f : MsgFault) (h : Header) (rest : List ℕ) : Type 0 where
  of_version : f ≡ fault.Version → h.version ≢ 1 → HasHeaderFault f h rest
  of_token : f ≡ fault.TokenLength → h.version ≡ 1 → (LONGEST_TOKEN < h.token_length) ⊎ (length rest < h.token_length) → HasHeaderFault f h rest
  of_empty : f ≡ fault.EmptyCode → HasToken h rest → h.code ≡ 0 → 0 < length rest → HasHeaderFault f h rest
  of_class : f ≡ fault.Class → HasToken h rest → ¬ (IsClass (h.code / 32)) → HasHeaderFault f h rest

-- ---- the options and the payload

-- one of the two nibbles of an option's first byte is the reserved 15 (section 3.1)
abbrev pub HasReservedNibble : ℕ → Type 0
HasReservedNibble b = (b / 16 ≡ 15) ⊎ (b % 16 ≡ 15)

-- The bytes begin with the spelling of a delta and a value, for any number that the delta gives (section 3.1).
pub record BeginsWhole (bytes : List ℕ) : Type 0 where
  pub delta : ℕ
  pub value : List ℕ
  pub after : List ℕ
  pub delta_bound : delta ≤ largest_number
  pub value_bound : length value ≤ largest_number
  pub bytes_are : bytes ≡ option_spelling 0 (delta, value) ++ after

-- The fault right here, after an option of the number last.
pub data HasFaultHere (f : MsgFault) (last : ℕ) (bytes : List ℕ) : Type 0 where
  -- a byte that isn't the payload marker has a reserved nibble
  of_nibble : (b : ℕ) (after : List ℕ) → f ≡ fault.Nibble → bytes ≡ b ∷ after → b ≢ 255 → HasReservedNibble b → HasFaultHere f last bytes
  -- an option passes the end
  of_cut : (b : ℕ) (after : List ℕ) → f ≡ fault.OptionCut → bytes ≡ b ∷ after → ¬ (HasReservedNibble b) → ¬ (BeginsWhole bytes) → HasFaultHere f last bytes
  -- a whole option has a number of more than 16 bits
  of_number : (whole : BeginsWhole bytes) → f ≡ fault.OptionNumber → 2 ^ 16 ≤ last + whole.delta → HasFaultHere f last bytes
  -- the payload marker is the last byte
  of_payload : f ≡ fault.NoPayload → bytes ≡ 255 ∷ [] → HasFaultHere f last bytes

-- The bytes after a token are some options in order, and then something is wrong.
pub record HasBodyFault (f : MsgFault) (body : List ℕ) : Type 0 where
  pub done : List CoapOption
  pub rest : List ℕ
  pub order : AreInOrder 0 done
  pub body_is : body ≡ options_spelling 0 done ++ rest
  pub here : HasFaultHere f (last_number 0 done) rest

-- ---- the whole

-- The fault of bytes, the first in the order of `MsgFault`.
pub data HasMsgFault (f : MsgFault) (bytes : List ℕ) : Type 0 where
  -- there are too few for a header
  is_short : f ≡ fault.Short → length bytes < 4 → HasMsgFault f bytes
  -- the header is at fault
  in_header : (h : Header) (rest : List ℕ) → SpellsHeader h bytes rest → HasHeaderFault f h rest → HasMsgFault f bytes
  -- the header and the token are right, and the bytes after them are at fault
  in_body : (h : Header) (rest : List ℕ) → SpellsHeader h bytes rest → MayGoOn h rest → HasBodyFault f (drop h.token_length rest) → HasMsgFault f bytes
