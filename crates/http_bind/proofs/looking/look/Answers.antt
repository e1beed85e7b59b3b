use Rattle.std.proofs.Common.{ap, ◌∙◌, subst, sym, refl, inl, inr}
use Rattle.std.specs.Prelude.{Some, None}
use Rattle.http_wire.specs.Reading.{asked}
use Rattle.http_bind.specs.Replying.{is_head}
use Rattle.http_bind.specs.declared.looking.HeldFront.TheVariants as seen
use Rattle.http_wire.specs.declared.scanned.Scanned.{Scanned}
use Rattle.http_wire.specs.Stream.{IsFront}
use Rattle.http_wire.specs.Scanned.{front_of, plain_head}
use Rattle.http_bind.specs.Streams.{found}
use Rattle.http_bind.proofs.FaultWords.{fault_said}
use Rattle.http_bind.proofs.Messages.{takes_continue, takes_found, shows_whole, message_step, same_as_head, something}
use Rattle.http_bind.proofs.looking.look.Goals as goal

pub returns-then-wants_continue-clause-shows : goal.returns-then-wants_continue-clause-shows
returns-then-wants_continue-clause-shows c = (
  front_of c.scan-scanned.result,
  c.scan-scanned.ensures.ok,
  takes_continue c.args.continued (front_of c.scan-scanned.result) c.wants_continue.result c.wants_continue.ensures c.if-wants_continue.true,
)

pub returns-in-Short-clause-shows : goal.returns-in-Short-clause-shows
returns-in-Short-clause-shows c = (
  front_of c.scan-scanned.result,
  c.scan-scanned.ensures.ok,
  takes_found c.args.continued (front_of c.scan-scanned.result) c.wants_continue.result c.wants_continue.ensures c.if-wants_continue.false
      ∙ ap (λ (s : Scanned). found (front_of s)) c.in-Short.is,
)

pub returns-in-Fault-clause-shows : goal.returns-in-Fault-clause-shows
returns-in-Fault-clause-shows c = (
  front_of c.scan-scanned.result,
  c.scan-scanned.ensures.ok,
  (
    takes_found c.args.continued (front_of c.scan-scanned.result) c.wants_continue.result c.wants_continue.ensures c.if-wants_continue.false
        ∙ ap (λ (s : Scanned). found (front_of s)) c.in-Fault.is,
    fault_said c.args.bytes.now c.in-Fault.status c.in-Fault.expect
        (subst (λ (s : Scanned). IsFront c.args.bytes.now (front_of s)) c.in-Fault.is c.scan-scanned.ensures.ok),
  ),
)

pub returns-in-Ok-clause-shows : goal.returns-in-Ok-clause-shows
returns-in-Ok-clause-shows c =
    let q = c.in-Ok.ensures.ok in
    let h = c.in-Whole.head in
    shows_whole c.args.continued c.args.bytes.now c.scan-scanned.result h c.in-Whole.body c.in-Whole.used c.in-Whole.expect c.wants_continue.result
    (seen.Message (record { used = c.in-Whole.used; owed = record { bodiless = c.eq.result; closes = c.in-Whole.head.close } }) (Some c.in-Ok.parts)) c.request_of.new.room
    c.in-Whole.is c.scan-scanned.ensures.ok c.wants_continue.ensures c.if-wants_continue.false
    (q.0, q.1, message_step (plain_head h) c.in-Whole.body c.in-Whole.used q.0 c.eq.result q.1 (c.eq.ensures ∙ same_as_head c.verb_of.result ∙ ap is_head c.verb_of.ensures), q.2)

pub returns-in-Err-BadTarget-clause-shows : goal.returns-in-Err-BadTarget-clause-shows
returns-in-Err-BadTarget-clause-shows c =
    let h = c.in-Whole.head in
    shows_whole c.args.continued c.args.bytes.now c.scan-scanned.result h c.in-Whole.body c.in-Whole.used c.in-Whole.expect c.wants_continue.result
    (seen.Fault 400) c.request_of.new.room
    c.in-Whole.is c.scan-scanned.ensures.ok c.wants_continue.ensures c.if-wants_continue.false
    (elim c.in-Err-BadTarget.ensures.fault [
      | inl bad ↦ (bad.1, refl)
      | inr none ↦ absurd (let same = sym c.in-Err-BadTarget.field-0-is ∙ none.0 in cc)
    ])

pub returns-in-Err-NoMemory-clause-shows : goal.returns-in-Err-NoMemory-clause-shows
returns-in-Err-NoMemory-clause-shows c =
    let h = c.in-Whole.head in
    shows_whole c.args.continued c.args.bytes.now c.scan-scanned.result h c.in-Whole.body c.in-Whole.used c.in-Whole.expect c.wants_continue.result
    (seen.Message (record { used = c.in-Whole.used; owed = record { bodiless = c.eq.result; closes = c.in-Whole.head.close } }) None) c.request_of.new.room
    c.in-Whole.is c.scan-scanned.ensures.ok c.wants_continue.ensures c.if-wants_continue.false
    (elim c.in-Err-NoMemory.ensures.fault [
      | inl bad ↦ absurd (let same = sym c.in-Err-NoMemory.field-0-is ∙ bad.0 in cc)
      | inr none ↦ let q = something (asked (plain_head h) c.in-Whole.body) none.1 in
          (q.0, q.1, message_step (plain_head h) c.in-Whole.body c.in-Whole.used q.0 c.eq.result q.1 (c.eq.ensures ∙ same_as_head c.verb_of.result ∙ ap is_head c.verb_of.ensures), tt)
    ])
