use Rattle.std.proofs.Common.{◌≡◌, ◌++◌, string_bytes}
use Rattle.std.specs.Str.Iter.{chars_rest}
use Rattle.wot_json.specs.Places.{token_text, step_text}
use Rattle.wot_json.proofs.places.push_step.Given as goal

abbrev pub invariant-loop-character : goal.invariant-loop-character
invariant-loop-character l = string_bytes l.pointer ++ token_text (chars_rest l.character-iterator) ≡ string_bytes l.fn.pointer ++ step_text l.fn.token
