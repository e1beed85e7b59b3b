-- The options that an iterator has left (RFC 7252, section 3.1).
use Rattle.std.specs.Prelude.{ℕ, List, length}
use Rattle.std.specs.Borrow.{Bor}
use Rattle.coap_msg.specs.declared.options.OptionsIter.{OptionsIter}
use Rattle.coap_msg.specs.Grammar.{CoapOption}
use Rattle.coap_msg.specs.Options.{options_at}

-- the options that are still to come
abbrev pub options_left : OptionsIter → List CoapOption
options_left i = options_at (length i.rest.now) i.last i.rest.now

-- an item, apart from where its value lies in memory
abbrev pub option_of_item : ℕ × Bor (List ℕ) → CoapOption
option_of_item item = (item.0, item.1.now)
