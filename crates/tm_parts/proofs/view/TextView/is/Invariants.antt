use Rattle.std.proofs.Common.{◌≡◌, length}
use Rattle.std.specs.List.{flat_map}
use Rattle.std.specs.Str.{bytes_eq}
use denote.Text.{Utf8}
use denote.Shadow.{shadow}
use Rattle.tm_parts.specs.Placeholders.{pieces}
use Rattle.tm_parts.specs.Substitution.{piece_text}
use Rattle.tm_parts.specs.Views.{seen_text, values_in}
use Rattle.tm_parts.proofs.view.TextView.is.Given as goal

abbrev pub invariant-loop-rest : goal.invariant-loop-rest
invariant-loop-rest l = (bytes_eq (flat_map (piece_text (values_in l.self.values)) (pieces l.rest)) l.left ≡ bytes_eq (seen_text l.self) l.text) × shadow (Utf8 l.left) × shadow (Utf8 l.rest)

abbrev pub decreases-loop-rest : goal.decreases-loop-rest
decreases-loop-rest l = length l.rest
