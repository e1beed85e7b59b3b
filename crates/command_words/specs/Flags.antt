-- A flag among the words of a command, as `--endless` and `--log` of `serve`: an option that takes no value.
use Rattle.std.specs.Prelude.{◌≡◌, ◌+◌, ◌++◌, ℕ, Bool, true, false, List, [], ◌∷◌, Option, Some, None, option_map, option_and_then, if◌then◌else◌, codes, take, drop}
use Rattle.std.specs.Str.{bytes_eq}
use Rattle.command_words.specs.Words.{WordKind, option, word_kind, Arguments, arguments_after, Form, Values, values_of}

-- The place of the first word that is the flag, where the options haven't ended before it.
abbrev pub flag_place : List ℕ → List (List ℕ) → Option ℕ
flag_place flag [] = None
flag_place flag (word ∷ words) =
    if bytes_eq word flag then Some 0
    else if bytes_eq word (codes "--") then None
    else option_map (λ place. place + 1) (flag_place flag words)

-- a flag has this place among the words
abbrev pub IsFlagPlace : List (List ℕ) → ℕ → Type 0
IsFlagPlace words place = (flag : List ℕ) × (flag_place flag words ≡ Some place)

-- The arguments of the words before that place and of those after it: each part is arguments by itself, so that no option
-- before it has its value behind it.
abbrev pub arguments_around : List (List ℕ) → List (List ℕ) → Option Arguments
arguments_around before behind =
    option_and_then (λ first. option_map (λ second. first ++ second) (arguments_after behind None)) (arguments_after before None)

-- the values that they give, where they are arguments of this form
abbrev pub values_around : Form → List (List ℕ) → List (List ℕ) → Option Values
values_around form before behind =
    option_and_then (λ arguments. values_of arguments form.places form.options) (arguments_around before behind)

-- a word that is an option without a value, which the next word gives it
abbrev pub awaits_value : WordKind → Bool
awaits_value (option name None) = true
awaits_value _ = false

-- whether an option awaits its value after these words, where one did or didn't before them
abbrev pub is_open : Bool → List (List ℕ) → Bool
is_open before [] = before
is_open before (word ∷ words) = is_open (awaits_value (word_kind word)) words

-- the same where this other flag may stand between an option and its value
abbrev pub is_open_but : List ℕ → Bool → List (List ℕ) → Bool
is_open_but other before [] = before
is_open_but other before (word ∷ words) = is_open_but other (if bytes_eq word other then before else awaits_value (word_kind word)) words

-- The other words than that at the place of a flag, as they are, where no option before it awaits its value. Another flag,
-- which may stand before it, awaits none.
abbrev pub words_without : List ℕ → List (List ℕ) → ℕ → Option (List (List ℕ))
words_without other words place =
    if is_open_but other false (take place words) then None else Some (take place words ++ drop (place + 1) words)
