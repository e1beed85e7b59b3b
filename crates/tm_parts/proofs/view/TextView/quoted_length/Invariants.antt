use Rattle.std.proofs.Common.{◌≡◌, ◌+◌, ◌≤◌, length}
use Rattle.std.specs.List.{flat_map}
use denote.Text.{Utf8}
use denote.Shadow.{shadow}
use Rattle.wot_json.specs.Json.{json_string, escaped_byte}
use Rattle.tm_parts.specs.Placeholders.{pieces}
use Rattle.tm_parts.specs.Substitution.{piece_text}
use Rattle.tm_parts.specs.Views.{seen_text, values_in}
use Rattle.tm_parts.proofs.view.TextView.quoted_length.Given as goal

abbrev pub invariant-loop-rest : goal.invariant-loop-rest
invariant-loop-rest l =
    (l.length + length (flat_map escaped_byte (flat_map (piece_text (values_in l.self.values)) (pieces l.rest))) ≡ length (json_string (seen_text l.self)))
    × (2 ≤ l.length) × (l.length ≤ l.most) × shadow (Utf8 l.rest)

abbrev pub decreases-loop-rest : goal.decreases-loop-rest
decreases-loop-rest l = length l.rest
