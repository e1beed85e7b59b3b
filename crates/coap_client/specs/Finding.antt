-- Inside the crate: the findings, the next message ID and the value of Block2.
use Rattle.std.specs.Prelude.{ℕ, List, Option, Some, None, option_map}
use Rattle.std.specs.Borrow.{Bor}
use Rattle.std.specs.Option.{option_to_list}
use Rattle.coap_client.specs.Names.{IsNextId, AreAllUsed}

-- the next message ID was found, or there is none
abbrev pub FindsId : List (Option ℕ) → ℕ → ℕ → Option ℕ → Type 0
FindsId uses next now None = AreAllUsed uses now
FindsId uses next now (Some id) = IsNextId uses next now id

-- the values that were found so far, of which there is one at most
abbrev pub found_values : Option (Bor (List ℕ)) → List (List ℕ)
found_values value = option_to_list (option_map (λ v. v.now) value)
