-- Inside: the bytes after the token, which `decode` takes apart by itself.
use Rattle.std.specs.Prelude.{◌≡◌, ℕ, List, ◌++◌}
use Rattle.coap_msg.specs.Grammar.{CoapOption, options_spelling, payload_spelling, AreInOrder}

-- The bytes after a token are options in order and a payload.
pub record SpellsBody (options : List CoapOption) (payload body : List ℕ) : Type 0 where
  pub order : AreInOrder 0 options
  pub body_is : body ≡ options_spelling 0 options ++ payload_spelling payload
