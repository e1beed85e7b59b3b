use Rattle.std.proofs.Common.{◌≡◌, ◌++◌}
use Rattle.std.specs.Prelude.{take, drop}
use Rattle.wot_json.specs.Meaning.{json_members}
use Rattle.wot_directory.specs.Kept.{kept_entries}
use Rattle.wot_directory.proofs.directory.copied_entries.Given as goal

-- the copies so far, and those to come
abbrev pub invariant-loop-id : goal.invariant-loop-id
invariant-loop-id l = json_members l.copies.items ++ take l.left (drop l.skip (kept_entries l.id-iterator)) ≡ take l.limit (drop l.offset (kept_entries l.entries.entries))
