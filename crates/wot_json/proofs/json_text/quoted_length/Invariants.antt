use Rattle.std.proofs.Common.{◌≡◌, ◌≤◌, ◌+◌, drop, length}
use Rattle.std.specs.List.{flat_map}
use Rattle.wot_json.specs.Json.{json_string, escaped_byte}
use Rattle.wot_json.proofs.json_text.quoted_length.Given as goal

-- the room that is left, and the bytes that are left
abbrev pub invariant-loop-byte : goal.invariant-loop-byte
invariant-loop-byte l = record {
  within : l.left ≤ l.most;
  exact : l.most + length (flat_map escaped_byte (drop l.byte-index l.byte-items)) ≡ l.left + length (json_string l.text);
}
