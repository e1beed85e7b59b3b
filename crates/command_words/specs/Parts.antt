-- The results of the code's functions, against the definitions.
use Rattle.std.specs.Prelude.{◌≡◌, ℕ, List, map, Option, Some, None, option_map, Result, Ok, Err}
use Rattle.std.specs.Borrow.{Bor}
use Rattle.command_words.specs.declared.fault.WordsFault.{WordsFault}
use Rattle.command_words.specs.declared.fault.WordsFault.TheVariants.{Usage, NoMemory}

-- A success is the value that is defined, and the words are refused only where there is none. Being
-- out of memory says nothing.
abbrev pub Reads : {A : Type 0} → Option A → Result A WordsFault → Type 0
Reads part (Ok value) = part ≡ Some value
Reads part (Err Usage) = part ≡ None
Reads part (Err NoMemory) = Unit {0}

-- the texts that references lead to
abbrev pub texts : List (Bor (List ℕ)) → List (List ℕ)
texts = map (λ s. s.now)

abbrev pub text_in : Option (Bor (List ℕ)) → Option (List ℕ)
text_in = option_map (λ s. s.now)
