use Rattle.std.proofs.Common.{◌≡◌, ◌+◌, true, drop, ℕ}
use Rattle.std.specs.Prelude.{min}
use Rattle.std.specs.List.{list_all}
use Rattle.std.specs.Char.{is_ascii_digit}
use Rattle.std.specs.Str.Parse.{digits_value, digits_value_after}
use Rattle.http_fields.proofs.framing.number.Given as goal

abbrev pub invariant-loop-byte : goal.invariant-loop-byte
invariant-loop-byte l =
    (list_all is_ascii_digit (drop l.byte-index l.value) ≡ true)
    × ((n : ℕ) × (digits_value 10 l.value ≡ digits_value_after 10 n (drop l.byte-index l.value)) × (l.number ≡ min n (l.most + 1)))
