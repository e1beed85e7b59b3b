use Rattle.std.proofs.Common.{◌≡◌, ◌<◌, ◌^◌, true, drop}
use Rattle.std.specs.List.{list_all}
use Rattle.std.specs.Char.{is_ascii_hexdigit}
use Rattle.std.specs.Str.Parse.{digits_value, digits_value_after}
use Rattle.http_fields.proofs.chunks.hexadecimal.Given as goal

abbrev pub invariant-loop-byte : goal.invariant-loop-byte
invariant-loop-byte l =
    (list_all is_ascii_hexdigit (drop l.byte-index l.digits) ≡ true)
    × (digits_value 16 l.digits ≡ digits_value_after 16 l.number (drop l.byte-index l.digits))
    × (l.number < 16 ^ l.byte-index)
