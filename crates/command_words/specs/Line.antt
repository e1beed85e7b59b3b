-- The use of `clap`: the command that is made for a form, and the values that its matches hold.
use Rattle.std.specs.Prelude.{◌≡◌, ◌&&◌, ◌++◌, not, nat_lt, ℕ, Bool, true, false, List, [], ◌∷◌, map, length, codes, Some}
use Rattle.std.specs.Borrow.{Bor}
use Rattle.std.specs.List.{All, list_all}
use Rattle.std.specs.Str.{IsUtf8}
use Rattle.clap.specs.Words.{App, Row, Rule, new_app, new_rule, rows_of}
use Rattle.clap.specs.declared.parser.matches.Found.{Found}
use Rattle.command_words.specs.Words.{Form, Values, has_name}
use Rattle.command_words.specs.Parts.{texts}

-- each word is a text in UTF-8, as a `str` is
abbrev pub AreTexts : List (List ℕ) → Type 0
AreTexts = All IsUtf8

-- ---- the command

-- the form of these places and options
abbrev pub form_of : List (Bor (List ℕ)) → List (Bor (List ℕ)) → Form
form_of places options = record { places = texts places; options = texts options }

-- the names are different, and the places few
abbrev pub are_distinct : List (List ℕ) → Bool
are_distinct [] = true
are_distinct (name ∷ names) = not (has_name name names) && are_distinct names

abbrev pub is_form : Form → Bool
is_form form = are_distinct (form.places ++ form.options) && nat_lt (length form.places) 100

-- an argument with a long name
abbrev pub long_rule : List ℕ → Rule
long_rule name = record (new_rule name) { long = Some name }

-- the `clap` command with these arguments, with no program's name before its words, no help and no version
abbrev pub app_with : List Rule → App
app_with rules = let app = new_app (codes "servient") in
    record app { top = record app.top { rules = rules; no_binary_name = true; disable_help_flag = true; disable_version_flag = true } }

abbrev pub app_for : Form → App
app_for form = app_with (map new_rule form.places ++ map long_rule form.options)

-- ---- its matches

-- the first of some texts, and whether there is one
abbrev pub first_text : List (List ℕ) → List ℕ
first_text [] = []
first_text (text ∷ texts) = text

abbrev pub has_text : List (List ℕ) → Bool
has_text [] = false
has_text (text ∷ texts) = true

-- each row is a name with its value
abbrev pub values_in_rows : List Row → Values
values_in_rows = map (λ row. (row.id, first_text row.values))

abbrev pub values_in : Found → Values
values_in found = values_in_rows (rows_of found)

abbrev pub EachHasValue : Found → Type 0
EachHasValue found = list_all (λ row. has_text row.values) (rows_of found) ≡ true
