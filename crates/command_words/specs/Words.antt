-- The words of a command line after the name of the command: plain words and options, and the names that they give
-- values to. A word is the list of its bytes.
use Rattle.std.specs.Prelude.{◌==◌, ℕ, Bool, List, [], ◌∷◌, map, Option, Some, None, option_map, option_and_then, if◌then◌else◌, find, not}
use Rattle.std.specs.List.{list_any, filter, before_first, after_first}
use Rattle.std.specs.Str.{bytes_eq}

-- ---- words

-- the kind of a word, where the options haven't ended
pub data WordKind : Type 0 where
  -- `--`: the options end here
  options_end : WordKind
  -- `--name` or `--name=value`
  option : List ℕ → Option (List ℕ) → WordKind
  -- another word that begins with `-`, as `-x`: no option is called so
  unknown : WordKind
  -- any other word, also an empty one, and `-` alone
  plain : WordKind

abbrev pub is_equals_sign : ℕ → Bool
is_equals_sign b = b == 61

-- `name` or `name=value`, cut at its first `=`
abbrev pub option_of : List ℕ → WordKind
option_of text = option (before_first is_equals_sign text) (if list_any is_equals_sign text then Some (after_first is_equals_sign text) else None)

-- a word is judged by its first two bytes: a hyphen is 45
abbrev pub kind_after_two_hyphens : List ℕ → WordKind
kind_after_two_hyphens [] = options_end
kind_after_two_hyphens (b ∷ bytes) = option_of (b ∷ bytes)

abbrev pub kind_after_hyphen : List ℕ → WordKind
kind_after_hyphen [] = plain
kind_after_hyphen (b ∷ bytes) = if b == 45 then kind_after_two_hyphens bytes else unknown

abbrev pub word_kind : List ℕ → WordKind
word_kind [] = plain
word_kind (b ∷ bytes) = if b == 45 then kind_after_hyphen bytes else plain

-- ---- arguments

-- One argument of a command.
pub data Argument : Type 0 where
  -- a plain word
  word_given : List ℕ → Argument
  -- an option's name and its value
  option_given : List ℕ → List ℕ → Argument

abbrev pub Arguments : Type 0
Arguments = List Argument

abbrev pub with_argument : Argument → Option Arguments → Option Arguments
with_argument argument = option_map (λ arguments. argument ∷ arguments)

-- the arguments that a word and the words after it are, by what it is; `next` gives those of the words after it, where
-- an option of this name still has no value
abbrev pub from_word : WordKind → List ℕ → List (List ℕ) → (Option (List ℕ) → Option Arguments) → Option Arguments
from_word options_end word words next = Some (map word_given words)
from_word (option name (Some value)) word words next = with_argument (option_given name value) (next None)
from_word (option name None) word words next = next (Some name)
from_word unknown word words next = None
from_word plain word words next = with_argument (word_given word) (next None)

-- the same where an option comes before that has no value yet: a plain word is its value
abbrev pub from_value : List ℕ → WordKind → List ℕ → (Option (List ℕ) → Option Arguments) → Option Arguments
from_value name plain word next = with_argument (option_given name word) (next None)
from_value name _ word next = None

abbrev pub from_either : Option (List ℕ) → List ℕ → List (List ℕ) → (Option (List ℕ) → Option Arguments) → Option Arguments
from_either None word words next = from_word (word_kind word) word words next
from_either (Some name) word words next = from_value name (word_kind word) word next

-- The arguments that these words are, in order, after an option that has no value yet, or after none. An option has a
-- value: what follows its `=`, or else the next word, if that is plain. After `--` each word is plain.
abbrev pub arguments_after : List (List ℕ) → Option (List ℕ) → Option Arguments
arguments_after [] None = Some []
arguments_after [] (Some name) = None
arguments_after (word ∷ words) waiting = from_either waiting word words (arguments_after words)

-- ---- values by name

-- the words that a command takes: its plain words, by name and in order, and the names of its options
pub record Form : Type 0 where
  pub places : List (List ℕ)
  pub options : List (List ℕ)

-- names and the values that were given to them
abbrev pub Values : Type 0
Values = List (List ℕ × List ℕ)

abbrev pub with_value : List ℕ → List ℕ → Option Values → Option Values
with_value name value = option_map (λ values. (name, value) ∷ values)

abbrev pub has_name : List ℕ → List (List ℕ) → Bool
has_name name names = list_any (λ other. bytes_eq other name) names

-- the other names
abbrev pub names_without : List ℕ → List (List ℕ) → List (List ℕ)
names_without name = filter (λ other. not (bytes_eq other name))

-- The values that the arguments give: each plain word to the next place, as long as there is one, and each option to
-- its own name, once.
abbrev pub values_of : Arguments → List (List ℕ) → List (List ℕ) → Option Values
values_of [] places options = Some []
values_of (word_given word ∷ arguments) [] options = None
values_of (word_given word ∷ arguments) (place ∷ places) options = with_value place word (values_of arguments places options)
values_of (option_given name value ∷ arguments) places options =
    if has_name name options then with_value name value (values_of arguments places (names_without name options)) else None

-- the values that the words after a command's name give, where they are arguments that it takes
abbrev pub values_given : Form → List (List ℕ) → Option Values
values_given form words =
    option_and_then (λ arguments. values_of arguments form.places form.options) (arguments_after words None)

-- the value of a name
abbrev pub value_at : List ℕ → Values → Option (List ℕ)
value_at name values = option_map (λ given. given.1) (find (λ given. bytes_eq given.0 name) values)
