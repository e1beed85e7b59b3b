-- Messages that are written into a caller's room (RFC 7252, section 4.6).
use Rattle.std.specs.Prelude.{◌≡◌, ◌≤◌, ℕ, List, length, take, drop, Option, Some, None}
use Rattle.coap_msg.specs.Grammar.{CoapMessage, spelling}

-- these bytes are at the front of a room, as many as there are, and the rest of the room is as it was
pub record IsWritten (bytes : List ℕ) (n : ℕ) (old new : List ℕ) : Type 0 where
  pub within : n ≤ length new
  pub front : take n new ≡ bytes
  pub rest : drop n new ≡ drop n old

-- a reply was written, or there is none
abbrev pub IsReplied : Option CoapMessage → Option ℕ → List ℕ → List ℕ → Type 0
IsReplied None None old new = new ≡ old
IsReplied (Some m) (Some n) old new = IsWritten (spelling m) n old new
IsReplied None (Some n) old new = ⊥
IsReplied (Some m) None old new = ⊥
