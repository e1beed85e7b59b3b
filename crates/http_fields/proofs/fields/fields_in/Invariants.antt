use Rattle.std.proofs.Common.{◌≡◌, [], map, drop}
use Rattle.httparse.specs.Spans.{header_bytes}
use Rattle.http_fields.specs.Fields.{said_by}
use Rattle.http_fields.specs.Found.{said_in, with_lines}
use Rattle.http_fields.proofs.fields.fields_in.Given as goal

abbrev pub invariant-loop-header : goal.invariant-loop-header
invariant-loop-header l =
    with_lines (said_by []) (map (header_bytes l.head) l.headers)
    ≡ with_lines (said_in l.fields) (map (header_bytes l.head) (drop l.header-index l.headers))
