-- Inside: how `Opts` keeps the options that were written.
use Rattle.std.specs.Prelude.{◌≡◌, ℕ, List}
use Rattle.coap_msg.specs.Grammar.{options_spelling, AreInOrder}
use Rattle.coap_msg.specs.Opts.{last_number}
use Rattle.coap_msg.specs.Options.{options_of}

-- The bytes spell options in order, the last of which has this number.
pub record AreWritten (last : ℕ) (bytes : List ℕ) : Type 0 where
  pub order : AreInOrder 0 (options_of bytes)
  pub spelled : bytes ≡ options_spelling 0 (options_of bytes)
  pub last_is : last_number 0 (options_of bytes) ≡ last
