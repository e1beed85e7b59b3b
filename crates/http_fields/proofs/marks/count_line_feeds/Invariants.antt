use Rattle.std.proofs.Common.{◌≡◌, ◌≤◌, ◌+◌, drop}
use Rattle.http_fields.specs.Marks.{line_feeds}
use Rattle.http_fields.proofs.marks.count_line_feeds.Given as goal

abbrev pub invariant-loop-byte : goal.invariant-loop-byte
invariant-loop-byte l = (line_feeds l.bytes ≡ l.count + line_feeds (drop l.byte-index l.bytes)) × (l.count ≤ l.byte-index)
