use Rattle.std.proofs.Common.{◌≡◌, sym, inl, inr}
use Rattle.std.specs.Prelude.{Some}
use Rattle.thing_ops.specs.Requests.{request_seen}
use Rattle.thing_core.specs.Refusals.{Asked, act_asked}
use Rattle.thing_core.proofs.RefusalLaws.{act_decides, act_is_free, act_is_refused, act_is_refused_by_state, is_asked, is_there, none_stands, verb_decides}
use Rattle.thing_core.proofs.admitting.admitted.Goals as goal

pub returns-in-Err : goal.returns-in-Err
returns-in-Err c =
    let a : Asked = record { site = c.args.things.now; state = c.args.machine.now.state; request = request_seen c.args.request.now } in
    inr (verb_decides a c.route.result c.in-Some.place c.in-Err.allow
    (is_there a c.invocations.result.now c.in-Some.place (sym c.invocations.ensures.items) c.in-Some.ensures) c.route.ensures c.in-Err.ensures.0 c.in-Err.ensures.1)

pub returns-in-Err-judge : goal.returns-in-Err-judge
returns-in-Err-judge c =
    let a : Asked = record { site = c.args.things.now; state = c.args.machine.now.state; request = request_seen c.args.request.now } in
    let asked : act_asked a ≡ Some c.in-Ok.act =
    is_asked a c.route.result c.in-Some.place c.in-Ok.act
    (is_there a c.invocations.result.now c.in-Some.place (sym c.invocations.ensures.items) c.in-Some.ensures) c.route.ensures c.in-Ok.ensures in
    elim (act_is_refused c.in-Ok.act a.state a.request c.in-Err-judge.outcome c.in-Err-judge.ensures.fault)
    [ inl out ↦ inl out | inr first ↦ inr (act_decides a c.in-Ok.act c.in-Err-judge.outcome asked first) ]

pub returns-in-Some-refusal_by_state : goal.returns-in-Some-refusal_by_state
returns-in-Some-refusal_by_state c =
    let a : Asked = record { site = c.args.things.now; state = c.args.machine.now.state; request = request_seen c.args.request.now } in
    let asked : act_asked a ≡ Some c.in-Ok.act =
    is_asked a c.route.result c.in-Some.place c.in-Ok.act
    (is_there a c.invocations.result.now c.in-Some.place (sym c.invocations.ensures.items) c.in-Some.ensures) c.route.ensures c.in-Ok.ensures in
    elim (act_is_refused_by_state c.in-Ok.act a.state a.request c.in-Ok-judge.inputs.items c.in-Some-refusal_by_state.outcome c.in-Ok-judge.ensures.ok c.in-Some-refusal_by_state.ensures)
    [ inl out ↦ inl out | inr first ↦ inr (act_decides a c.in-Ok.act c.in-Some-refusal_by_state.outcome asked first) ]

pub returns : goal.returns
returns c =
    let a : Asked = record { site = c.args.things.now; state = c.args.machine.now.state; request = request_seen c.args.request.now } in
    let asked : act_asked a ≡ Some c.in-Ok.act =
    is_asked a c.route.result c.in-Some.place c.in-Ok.act
    (is_there a c.invocations.result.now c.in-Some.place (sym c.invocations.ensures.items) c.in-Some.ensures) c.route.ensures c.in-Ok.ensures in
    let free = act_is_free c.in-Ok.act a.state a.request c.in-Ok-judge.inputs.items c.in-Ok-judge.ensures.ok c.in-None-refusal_by_state.ensures.0 c.in-None-refusal_by_state.ensures.1 in
    (asked, free.0, none_stands a c.in-Ok.act asked free.1)
