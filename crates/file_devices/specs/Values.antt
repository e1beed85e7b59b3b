-- The value of the content of a device's file, and the text that is written of a value.
use Rattle.std.specs.Prelude.{◌≡◌, ◌≤◌, ◌<◌, ℕ, ◌-◌, List, [], Option, Some, None, Result, Ok, Err, length, drop, take}
use Rattle.std.specs.Char.{is_ascii_whitespace}
use Rattle.std.specs.List.{prefix_len, suffix_len}
use Rattle.std.specs.Str.{IsUtf8}
use Rattle.wot_json.specs.Json.{json_text}
use Rattle.wot_json.specs.Meaning.{json_of}
use Rattle.wot_json.specs.Reading.{tree_of}
use Rattle.wot_json.specs.declared.tree.Tree.{Tree}
use Rattle.wot_json.specs.declared.tree.Tree.TheVariants as json
use Rattle.file_devices.specs.declared.notation.Notation.{Notation}
use Rattle.file_devices.specs.declared.notation.Notation.TheVariants as notation
use Rattle.file_devices.specs.declared.fault.FileFault.{FileFault}
use Rattle.file_devices.specs.declared.fault.FileFault.TheVariants as fault

-- the most bytes that a content may have, and the text of a value that is read
abbrev pub longest : ℕ
longest = 1024

-- a content without the blanks and line ends around it
abbrev pub trimmed : List ℕ → List ℕ
trimmed content =
    let rest = drop (prefix_len is_ascii_whitespace content) content in
    take (length rest - suffix_len is_ascii_whitespace rest) rest

-- A trimmed content says this: as JSON the value of its text, as a text that text itself; or no value.
abbrev pub Says : Notation → List ℕ → Option Tree → Type 0
Says notation.Json text (Some v) = tree_of text ≡ Some (json_of v)
Says notation.Json text None = tree_of text ≡ None
Says notation.Text text (Some v) = IsUtf8 text × (v ≡ json.Text text)
Says notation.Text text None = ¬ (IsUtf8 text)

-- the result of a content that isn't too long
pub data ComesTo (way : Notation) (content : List ℕ) (found : Result Tree FileFault) : Type 0 where
  value : (v : Tree) → Says way (trimmed content) (Some v) → length (json_text v) ≤ longest → found ≡ Ok v → ComesTo way content found
  no_value : Says way (trimmed content) None → found ≡ Err fault.NoValue → ComesTo way content found
  -- a text of many bytes that are escaped may be longer than its content
  long_text : (v : Tree) → Says way (trimmed content) (Some v) → longest < length (json_text v) → found ≡ Err fault.TooLong → ComesTo way content found

-- The text that is written of a value: its JSON text, or the text that it is; of a value that is no text none, as a
-- text.
abbrev pub text_written : Notation → Tree → Option (List ℕ)
text_written notation.Json v = Some (json_text v)
text_written notation.Text json.Null = None
text_written notation.Text (json.Bool b) = None
text_written notation.Text (json.Int n) = None
text_written notation.Text (json.Text t) = Some t
text_written notation.Text (json.List es) = None
text_written notation.Text (json.Obj ms) = None

-- the text that is written of an input; without one the file is emptied
abbrev pub input_written : Notation → Option Tree → Option (List ℕ)
input_written way None = Some []
input_written way (Some v) = text_written way v
