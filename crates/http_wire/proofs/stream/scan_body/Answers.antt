use Rattle.std.proofs.Common.{rules, ◌≡◌, ◌||◌, ◌&&◌, ◌∙◌, ap, sym}
use Rattle.std.specs.Prelude.{not}
use Rattle.http_wire.specs.Judging.{has_body}
use Rattle.http_fields.specs.BodySeen.{body_seen}
use Rattle.http_wire.specs.Stream.{body_front}
use Rattle.http_wire.proofs.Fronts.{message_with_body}
use Rattle.http_wire.proofs.stream.scan_body.Goals as goal
use Rattle.http_wire.proofs.stream.scan_body.Goals.{then-not-head, else-not-head, then-head, else-head, then-has_body, else-has_body, in-Stated, in-Chunked}

pub returns-after-not-head-clause-ok : goal.returns-after-not-head-clause-ok
returns-after-not-head-clause-ok c = λ h parts.
    let closing : c.if-not-head.result ≡ (not c.args.head.now.newer || c.args.head.now.fields.closes) =
    elim c.if-not-head.branch [ then-not-head w ↦ search rules | else-not-head w ↦ search rules ] in
    let awaits : c.if-head.value ≡ (c.args.head.now.newer && has_body c.args.framing) =
    elim c.if-head.branch [ then-head w ↦ search rules | else-head w ↦ search rules ] in
    let asks : c.if-has_body.expect ≡ (c.args.head.now.newer && has_body c.args.framing && c.args.head.now.fields.continues) =
    elim c.if-has_body.branch [ then-has_body w ↦ search rules | else-has_body w ↦ search rules ] in
    let front : body_seen c.match-framing.found ≡ body_front c.args.framing c.args.after.now =
    elim c.match-framing.branch [ in-Stated w ↦ search rules | in-Chunked w ↦ search rules ] in
    message_with_body h c.args.head.now c.args.framing c.args.taken c.in-Whole.used c.if-has_body.expect c.if-not-head.result c.format.result c.unwrap_or.result c.in-Whole.body
    (body_front c.args.framing c.args.after.now) (sym (ap body_seen c.in-Whole.is) ∙ front) asks closing c.format.ensures (search rules) parts
