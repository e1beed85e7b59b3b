-- Lines as lists of fields, with one blank between two of them.
use Rattle.std.specs.Prelude.{◌≢◌, ℕ, List, [], All}
use Rattle.std.specs.List.{AllByRecursion, join_with_byte}

-- some fields as one text, with one blank between two
abbrev pub fields_text : List (List ℕ) → List ℕ
fields_text fields = join_with_byte 32 fields

-- A field: any bytes but blanks.
abbrev pub IsField : List ℕ → Type 0
IsField field = All (λ b. b ≢ 32) field

-- the fields of a line: one or more
pub record AreFields (fields : List (List ℕ)) : Type 0 where
  pub some : fields ≢ []
  pub each : AllByRecursion IsField fields
