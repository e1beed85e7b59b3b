-- The text of a JSON value (RFC 8259).
use Rattle.std.specs.Prelude.{ℕ, ◌+◌, ◌-◌, ◌/◌, ◌%◌, ◌==◌, nat_lt, List, [], ◌∷◌, ◌++◌, true, false, codes, if◌then◌else◌}
use Rattle.std.specs.Fmt.{signed_decimal}
use Rattle.std.specs.List.{flat_map}
use Rattle.wot_json.specs.declared.tree.Tree.{Tree}
use Rattle.wot_json.specs.Tree.{Json, null, boolean, integer, string, array, object, Elements, no_elements, element, Members, no_members, member}
use Rattle.wot_json.specs.Meaning.{json_of}

-- a lower-case hexadecimal digit
abbrev pub hex_digit : ℕ → ℕ
hex_digit n = if nat_lt n 10 then 48 + n else 97 + (n - 10)

-- One byte of a text in UTF-8 (RFC 8259 section 7): the quotation mark and the backslash are escaped by
-- a backslash, control characters by their letter or by four hexadecimal digits, and all else is itself.
abbrev pub escaped_byte : ℕ → List ℕ
escaped_byte b =
    if b == 34 then codes "\\\""
    else if b == 92 then codes "\\\\"
    else if b == 8 then codes "\\b"
    else if b == 9 then codes "\\t"
    else if b == 10 then codes "\\n"
    else if b == 12 then codes "\\f"
    else if b == 13 then codes "\\r"
    else if nat_lt b 32 then codes "\\u00" ++ hex_digit (b / 16) ∷ hex_digit (b % 16) ∷ []
    else b ∷ []

-- the text of a JSON string: its bytes, escaped, between quotation marks
abbrev pub json_string : List ℕ → List ℕ
json_string bytes = codes "\"" ++ flat_map escaped_byte bytes ++ codes "\""

-- The text of a value, with no blanks: literals (section 3), whole numbers with a minus sign where they are
-- below zero and without a leading zero (section 6), strings (section 7), arrays (section 5) and objects (section 4).
abbrev mutual
  pub text_of : Json → List ℕ
  text_of null = codes "null"
  text_of (boolean true) = codes "true"
  text_of (boolean false) = codes "false"
  text_of (integer n) = signed_decimal n
  text_of (string s) = json_string s
  text_of (array es) = codes "[" ++ elements_text es ++ codes "]"
  text_of (object ms) = codes "{" ++ members_text ms ++ codes "}"

  -- the first element, and each further one after a comma
  pub elements_text : Elements → List ℕ
  elements_text no_elements = []
  elements_text (element v es) = text_of v ++ more_elements_text es

  pub more_elements_text : Elements → List ℕ
  more_elements_text no_elements = []
  more_elements_text (element v es) = codes "," ++ text_of v ++ more_elements_text es

  -- the first member, and each further one after a comma
  pub members_text : Members → List ℕ
  members_text no_members = []
  members_text (member n v ms) = json_string n ++ codes ":" ++ text_of v ++ more_members_text ms

  pub more_members_text : Members → List ℕ
  more_members_text no_members = []
  more_members_text (member n v ms) = codes "," ++ json_string n ++ codes ":" ++ text_of v ++ more_members_text ms

-- the text of a tree of the code
abbrev pub json_text : Tree → List ℕ
json_text t = text_of (json_of t)

-- a further element: a comma and its text
abbrev pub further_element : Tree → List ℕ
further_element t = codes "," ++ json_text t

-- a member: its name, a colon and its value
abbrev pub field_text : List ℕ × Tree → List ℕ
field_text m = json_string m.0 ++ codes ":" ++ json_text m.1

-- a further member: a comma, and the member
abbrev pub further_field : List ℕ × Tree → List ℕ
further_field m = codes "," ++ field_text m
