use Rattle.std.proofs.Common.{◌≡◌, ◌++◌, length}
use Rattle.std.specs.Prelude.{string_bytes}
use Rattle.std.specs.List.{flat_map}
use denote.Text.{Utf8}
use denote.Shadow.{shadow}
use Rattle.tm_parts.specs.Placeholders.{pieces}
use Rattle.tm_parts.specs.Substitution.{piece_text}
use Rattle.tm_parts.specs.Views.{seen_text, values_in}
use Rattle.tm_parts.proofs.view.TextView.build.Given as goal

abbrev pub invariant-loop-rest : goal.invariant-loop-rest
invariant-loop-rest l = (string_bytes l.built ++ flat_map (piece_text (values_in l.self.values)) (pieces l.rest) ≡ seen_text l.self) × shadow (Utf8 l.rest)

abbrev pub decreases-loop-rest : goal.decreases-loop-rest
decreases-loop-rest l = length l.rest
