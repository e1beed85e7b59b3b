-- The meaning of each fault of `read`, as a statement on the bytes.
use Rattle.std.specs.Prelude.{◌≡◌, ℕ, List, Some, None, ⊤}
use Rattle.wot_json.specs.Reading.{value_of, first_pointer, IsTooDeep, IsFirstWrong}
use Rattle.wot_json.specs.declared.reading.ReadFault.{ReadFault}
use Rattle.wot_json.specs.declared.reading.ReadFault.TheVariants.{NotJson, TooDeep, NotInteger, NoMemory}

-- The fault says what is wrong with the bytes: they have no value, or one that nests too deep, or one whose first wrong
-- number is at the pointer. Out of memory says nothing of them.
abbrev pub HasReadFault : List ℕ → ReadFault → Type 0
HasReadFault bytes NotJson = value_of bytes ≡ None
HasReadFault bytes TooDeep = IsTooDeep bytes
HasReadFault bytes (NotInteger pointer) = IsFirstWrong bytes pointer
HasReadFault bytes NoMemory = ⊤

-- These are the places of the wrong numbers, and the fault names the first; or it is out of memory.
abbrev pub NamesFirst : List (List (List ℕ)) → ReadFault → Type 0
NamesFirst places NotJson = ⊥
NamesFirst places TooDeep = ⊥
NamesFirst places (NotInteger pointer) = first_pointer places ≡ Some pointer
NamesFirst places NoMemory = ⊤
