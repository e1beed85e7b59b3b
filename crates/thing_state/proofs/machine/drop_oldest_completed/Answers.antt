use Rattle.std.proofs.Common.{◌∙◌, ap, sym, not, arith}
use Rattle.std.specs.List.{position}
use Rattle.thing_state.specs.State.{is_running, running_count}
use Rattle.thing_state.proofs.InvocationLists.{oldest_at, none_completed}
use Rattle.thing_state.proofs.machine.drop_oldest_completed.Goals as goal

pub returns-in-Some-clause-items : goal.returns-in-Some-clause-items
returns-in-Some-clause-items c =
    c.take_back.ensures.items
    ∙ (oldest_at c.args.invocations.now.items c.in-Some.index
    (ap (position (λ i. not (is_running i))) (sym c.as_slice.ensures.value) ∙ sym c.place_of_completed.ensures ∙ c.in-Some.is)).1

pub returns-in-None-clause-items : goal.returns-in-None-clause-items
returns-in-None-clause-items c =
    absurd (omega (arith, none_completed c.as_slice.result.now (sym c.place_of_completed.ensures ∙ c.in-None.is), ap running_count c.as_slice.ensures.value, c.as_slice.ensures.len, c.requires.some))

pub returns-in-None-clause-len : goal.returns-in-None-clause-len
returns-in-None-clause-len c =
    absurd (omega (arith, none_completed c.as_slice.result.now (sym c.place_of_completed.ensures ∙ c.in-None.is), ap running_count c.as_slice.ensures.value, c.as_slice.ensures.len, c.requires.some))

pub returns-in-None-clause-spare : goal.returns-in-None-clause-spare
returns-in-None-clause-spare c =
    absurd (omega (arith, none_completed c.as_slice.result.now (sym c.place_of_completed.ensures ∙ c.in-None.is), ap running_count c.as_slice.ensures.value, c.as_slice.ensures.len, c.requires.some))
