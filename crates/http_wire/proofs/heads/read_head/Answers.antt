use Rattle.std.proofs.Common.{◌≡◌, ◌∙◌, ◌==◌, ap, subst, arith, refl, rules}
use Rattle.std.specs.Prelude.{Result, Ok}
use Rattle.std.specs.List.{after_first}
use Rattle.httparse.specs.declared.Error.{Error}
use Rattle.httparse.specs.declared.Status.{Status}
use Rattle.httparse.specs.declared.Status.TheVariants.{Complete}
use Rattle.httparse.specs.declared.spans.RequestSpans.{RequestSpans}
use Rattle.httparse.specs.Outcome.{IfComplete}
use Rattle.httparse.specs.Spans.{IsRequestWithin, IsRequestOf}
use Rattle.http_wire.proofs.HeadParts.{read_as}
use Rattle.http_wire.proofs.heads.read_head.Goals as goal

pub returns-then-found-head-clause-ok : goal.returns-then-found-head-clause-ok
returns-then-found-head-clause-ok c =
    let head = c.args.head.now in
    let headers = c.parse_request.new.headers in
    let is : c.parse_request.result ≡ Ok (Complete c.in-Ok-Complete.found) = c.in-Ok-Complete.is ∙ ap Ok c.in-Ok-Complete.field-0-is in
    let within = subst (λ (r : Result (Status RequestSpans) Error). IfComplete r (IsRequestWithin head headers)) is c.parse_request.ensures.within in
    let of = subst (λ (r : Result (Status RequestSpans) Error). IfComplete r (IsRequestOf head headers)) is c.parse_request.ensures.complete in
    read_as head headers c.in-Ok-Complete.found
    (record {
      method = c.of.result;
      target = c.of-then-found-head.result;
      newer = c.in-Ok-Complete.found.version == 1;
      fields = c.fields_in.result;
      lines = c.cut-then-found-head.result.1;
    })
    (omega (arith, c.if-count_line_feeds-gt-MOST_LINE_FEEDS.false, c.count_line_feeds.ensures.ok)) (search rules)
    (omega (arith, within.section.count_fits, c.parse_request.auto.headers)) of c.if-found-head.true
    (record {
      method = c.of.ensures;
      target = c.of-then-found-head.ensures;
      newer = refl;
      fields = c.fields_in.ensures;
      lines = c.cut-then-found-head.ensures.after ∙ ap (after_first (λ b. b == 10)) c.cut.ensures.after;
    })
