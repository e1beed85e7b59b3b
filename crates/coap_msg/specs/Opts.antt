-- Options that are written one after another (RFC 7252, sections 3.1 and 5.10).
use Rattle.std.specs.Prelude.{◌≡◌, ◌<◌, ℕ, List, [], ◌∷◌, ◌++◌, length, map, Result, Ok, Err}
use Rattle.coap_msg.specs.declared.opts.NoRoom.{NoRoom}
use Rattle.coap_msg.specs.Grammar.{CoapOption, options_spelling}

-- the options so far, and the number of bytes of the room
pub record WrittenOptions : Type 0 where
  pub list : List CoapOption
  pub room : ℕ

-- the number of the last option; where there is none, the number that they follow
abbrev pub last_number : ℕ → List CoapOption → ℕ
last_number last [] = last
last_number last (o ∷ os) = last_number o.0 os

-- these options were written after those that were, or the room is too small for them
abbrev pub PutsOptions : List CoapOption → Result (Unit {0}) NoRoom → WrittenOptions → WrittenOptions → Type 0
PutsOptions os (Ok _) old new = new ≡ record old { list = old.list ++ os }
PutsOptions os (Err _) old new = old.room < length (options_spelling 0 (old.list ++ os))

-- one option of this number for each segment of a path (sections 5.10.1 and 5.10.7)
abbrev pub segment_options : ℕ → List (List ℕ) → List CoapOption
segment_options number segments = map (λ segment. (number, segment)) segments
