-- The fields that the code reads of header lines, apart from their place in memory.
use Rattle.std.specs.Prelude.{ℕ, List, [], ◌∷◌, ◌||◌, Bool, false, codes, Option, Some, None, if◌then◌else◌}
use Rattle.thing_ops.specs.declared.request.Accept.{Accept}
use Rattle.http_fields.specs.declared.fields.FoundField.{FoundField}
use Rattle.http_fields.specs.declared.fields.FoundField.TheVariants as found
use Rattle.http_fields.specs.declared.fields.Fields.{Fields}
use Rattle.http_fields.specs.Fields.{Line, has_name, Standing, absent, once, often, Said, is_continue, asks_for_version, has_item, is_close, takes_json, takes_td}

-- the number of times that a field was found
abbrev pub standing_of : FoundField → Standing
standing_of found.Absent = absent
standing_of (found.Once value) = once value.now
standing_of found.Often = often

-- the fields that were read of the header lines
abbrev pub said_in : Fields → Said
said_in f = record {
  host = standing_of f.host;
  content_length = standing_of f.content_length;
  transfer_encoding = standing_of f.transfer_encoding;
  content_type = standing_of f.content_type;
  continues = f.continues;
  closes = f.closes;
  accept = f.accept;
  conditional = f.conditional;
}

-- ---- header lines that are read one after another

-- a field that comes once more
abbrev pub once_more : List ℕ → Standing → Standing
once_more value absent = once value
once_more value (once before) = often
once_more value often = often

abbrev pub more_if : Bool → List ℕ → Standing → Standing
more_if named value before = if named then once_more value before else before

-- the types that a value of `Accept` takes
abbrev pub types_in : List ℕ → Accept
types_in value = record { json = has_item takes_json value; td = has_item takes_td value }

-- the types that one takes or the other does
abbrev pub both_taken : Option Accept → Accept → Accept
both_taken None more = more
both_taken (Some before) more = record { json = before.json || more.json; td = before.td || more.td }

abbrev pub taken_if : Bool → List ℕ → Option Accept → Option Accept
taken_if named value before = if named then Some (both_taken before (types_in value)) else before

-- a test that a value passes where the line has the name
abbrev pub or_if : Bool → (List ℕ → Bool) → List ℕ → Bool → Bool
or_if named test value before = before || (if named then test value else false)

-- The fields with one line more. The lines are read in one pass, because a pass for each field took four times as long.
abbrev pub with_line : Line → Said → Said
with_line line said = record {
  host = more_if (has_name (codes "host") line) line.1 said.host;
  content_length = more_if (has_name (codes "content-length") line) line.1 said.content_length;
  transfer_encoding = more_if (has_name (codes "transfer-encoding") line) line.1 said.transfer_encoding;
  content_type = more_if (has_name (codes "content-type") line) line.1 said.content_type;
  continues = or_if (has_name (codes "expect") line) is_continue line.1 said.continues;
  closes = or_if (has_name (codes "connection") line) (has_item is_close) line.1 said.closes;
  accept = taken_if (has_name (codes "accept") line) line.1 said.accept;
  conditional = said.conditional || asks_for_version line;
}

-- and with these lines, one after another
abbrev pub with_lines : Said → List Line → Said
with_lines said [] = said
with_lines said (line ∷ lines) = with_lines (with_line line said) lines
