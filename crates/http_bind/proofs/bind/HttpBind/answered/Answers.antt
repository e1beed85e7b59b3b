use Rattle.std.proofs.Common.{◌≡◌, take, cond, [], rules}
use Rattle.http_bind.proofs.Calls.{answers_wait, others_waiting, answers_reply, answered_body, isnt_wait, settles_left, settles_room, others_without}
use Rattle.http_bind.proofs.bind.HttpBind.answered.Goals as goal
use Rattle.http_bind.proofs.bind.HttpBind.answered.Goals.{then-owed, else-owed}

pub returns-in-Wait-clause-leads : goal.returns-in-Wait-clause-leads
returns-in-Wait-clause-leads c =
    answers_wait c.args.c c.in-Wait.target c.args.now c.args.outcome.now c.args.self.now c.of_a_wait.result c.begin_wait.new.self c.in-Wait.is c.requires.owed c.begin_wait.ensures c.of_a_wait.ensures.waits

pub returns-in-Wait-clause-others : goal.returns-in-Wait-clause-others
returns-in-Wait-clause-others c = others_waiting c.args.c c.in-Wait.target c.args.now c.args.self.now c.begin_wait.new.self c.begin_wait.ensures

pub returns-after-owed-clause-leads : goal.returns-after-owed-clause-leads
returns-after-owed-clause-leads c =
    let body : c.if-owed.body.now ≡ cond c.take_owed-owed.result.bodiless [] c.payload-payload.result.now =
    elim c.if-owed.branch [ then-owed w ↦ search rules | else-owed w ↦ search rules ] in
    answers_reply c.args.c c.args.now c.args.outcome.now c.args.self.now (take c.put_answer-length.result c.put_answer-length.new.out) c.if-owed.body.now
    c.take_owed-owed.result c.take_owed-owed.new.self (isnt_wait c.args.outcome.now c.in_default.not-Wait) c.take_owed-owed.ensures c.put_answer-length.ensures.text
    (answered_body c.take_owed-owed.result.bodiless c.args.outcome.now c.payload-payload.result.now c.if-owed.body.now body c.payload-payload.ensures)

pub returns-after-owed-clause-left : goal.returns-after-owed-clause-left
returns-after-owed-clause-left c = settles_left c.args.c c.args.now c.args.self.now c.take_owed-owed.result c.take_owed-owed.new.self c.requires.owed c.take_owed-owed.ensures

pub returns-after-owed-clause-room : goal.returns-after-owed-clause-room
returns-after-owed-clause-room c = settles_room c.args.c c.args.now c.args.self.now c.take_owed-owed.result c.take_owed-owed.new.self c.requires.owed c.take_owed-owed.ensures

pub returns-after-owed-clause-others : goal.returns-after-owed-clause-others
returns-after-owed-clause-others c = others_without c.args.c c.args.self.now c.take_owed-owed.new.self c.take_owed-owed.ensures.held c.take_owed-owed.ensures.after
