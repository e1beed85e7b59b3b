use Rattle.std.proofs.Common.{◌≡◌, ◌∙◌, ap, subst, arith}
use Rattle.std.specs.Prelude.{Result, Ok}
use Rattle.httparse.specs.declared.Error.{Error}
use Rattle.httparse.specs.declared.Status.{Status}
use Rattle.httparse.specs.declared.Status.TheVariants.{Complete}
use Rattle.httparse.specs.declared.spans.ResponseSpans.{ResponseSpans}
use Rattle.httparse.specs.Outcome.{IfComplete}
use Rattle.httparse.specs.Spans.{IsResponseWithin, IsResponseOf}
use Rattle.http_replies.proofs.ReplyHeads.{read_as}
use Rattle.http_replies.proofs.reply_heads.read_reply.Goals as goal

pub returns-then-found-head : goal.returns-then-found-head
returns-then-found-head c =
    let head = c.args.head.now in
    let headers = c.parse_response.new.headers in
    let is : c.parse_response.result ≡ Ok (Complete c.in-Ok-Complete.found) = c.in-Ok-Complete.is ∙ ap Ok c.in-Ok-Complete.field-0-is in
    let within = subst (λ (r : Result (Status ResponseSpans) Error). IfComplete r (IsResponseWithin head headers)) is c.parse_response.ensures.within in
    let of = subst (λ (r : Result (Status ResponseSpans) Error). IfComplete r (IsResponseOf head headers)) is c.parse_response.ensures.complete in
    read_as head headers c.in-Ok-Complete.found c.parts_at.result
    (omega (arith, within.section.count_fits, c.parse_response.auto.headers)) of c.if-found-head.true
    (record {
      status = c.parts_at.ensures.status;
      newer = c.parts_at.ensures.newer;
      fields = c.parts_at.ensures.fields;
    })
