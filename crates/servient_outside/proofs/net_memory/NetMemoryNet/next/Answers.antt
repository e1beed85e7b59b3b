use Rattle.std.proofs.Common.{refl, sym, ap, ◌∙◌, arith}
use Rattle.servient_outside.specs.declared.calls.CallCount.{CallCount}
use Rattle.std.proofs.lemmas.Option.{slice_get_within}
use Rattle.servient_base.specs.Count.{one_more}
use Rattle.servient_outside.specs.declared.net.EventWithBytes.{EventWithBytes}
use Rattle.servient_outside.specs.Network.{heard, next_event}
use Rattle.servient_outside.specs.CallCount.{none_fails}
use Rattle.servient_outside.specs.NetMemory.{stop_of}
use Rattle.servient_outside.specs.Order.{given_by, steps}
use Rattle.servient_outside.proofs.GivenEvents.{in_buffer-prefix, drop_past, none_fails as never_failing, stop_in_buffer, all_counted, fails_now, history_called, made_called, given_called, left_heard, left_none, left_broke, TakesFrom-at_item}
use Rattle.servient_outside.proofs.ActsKept.{failing_never}
use Rattle.servient_outside.proofs.OrderLaws.{call_failed, call_gave, call_stopped, given_failed, given_gave}
use Rattle.servient_outside.proofs.net_memory.NetMemoryNet.next.Goals as goal

pub invariant_of-self-then-next_fails : goal.invariant_of-self-then-next_fails
invariant_of-self-then-next_fails c =
    let n = c.args.self.now in
    let later = ap (λ (x : CallCount). x.fails) c.next_fails.ensures.counted in
    record {
      moment_in_bounds = n.moment_in_bounds;
      given_in_bounds = n.given_in_bounds;
      since_in_bounds = λ none within. absurd (never_failing n.calls.fails _ _ later none (c.if-next_fails.ensures.fails.0 refl));
      made_by_steps = λ counted kept.
          let both = c.uncounted_after-self.ensures.counted counted in
          made_called n.log.gaps.items n.log.acts.items n.calls.made _ n.log.since _ n.log.gap_for_each (omega (arith, both.1, c.saturating_add-self.ensures)) (ap (λ (x : CallCount). x.made) c.next_fails.ensures.counted) (n.made_by_steps both.0 kept);
      given_by_steps = λ counted kept.
          let both = c.uncounted_after-self.ensures.counted counted in
          let more = given_called n.log.gaps.items n.log.acts.items n.calls.fails c.next_fails.new.self.fails n.calls.made n.log.since c.saturating_add-self.result n.log.gap_for_each later (omega (arith, both.1, c.saturating_add-self.ensures)) (n.made_by_steps both.0 kept) in
          let same = given_failed n.calls.fails n.calls.made (given_by n.calls.fails (steps n.log.gaps.items n.log.acts.items n.log.since) 0 0) (fails_now n.calls.fails n.calls.made _ c.next_fails.ensures.fails ∙ c.if-next_fails.true) in
          omega (arith, n.given_by_steps both.0 kept, more, same);
    }

pub invariant_of-self-then-self-len : goal.invariant_of-self-then-self-len
invariant_of-self-then-self-len c =
    let n = c.args.self.now in
    let later = ap (λ (x : CallCount). x.fails) c.next_fails.ensures.counted in
    record {
      moment_in_bounds = n.moment_in_bounds;
      given_in_bounds = omega arith;
      since_in_bounds = λ none within. omega (arith, n.since_in_bounds (sym later ∙ none) (omega arith), c.saturating_add-self.ensures);
      made_by_steps = λ counted kept.
          let both = c.uncounted_after-self.ensures.counted counted in
          made_called n.log.gaps.items n.log.acts.items n.calls.made _ n.log.since _ n.log.gap_for_each (omega (arith, both.1, c.saturating_add-self.ensures)) (ap (λ (x : CallCount). x.made) c.next_fails.ensures.counted) (n.made_by_steps both.0 kept);
      given_by_steps = λ counted kept.
          let both = c.uncounted_after-self.ensures.counted counted in
          let more = given_called n.log.gaps.items n.log.acts.items n.calls.fails c.next_fails.new.self.fails n.calls.made n.log.since c.saturating_add-self.result n.log.gap_for_each later (omega (arith, both.1, c.saturating_add-self.ensures)) (n.made_by_steps both.0 kept) in
          let same = given_gave n.calls.fails n.calls.made (given_by n.calls.fails (steps n.log.gaps.items n.log.acts.items n.log.since) 0 0) (fails_now n.calls.fails n.calls.made _ c.next_fails.ensures.fails ∙ c.if-next_fails.false) in
          omega (arith, n.given_by_steps both.0 kept, more, same);
    }

pub invariant_of-self-else-self-len : goal.invariant_of-self-else-self-len
invariant_of-self-else-self-len c =
    let n = c.args.self.now in
    let later = ap (λ (x : CallCount). x.fails) c.next_fails.ensures.counted in
    record {
      moment_in_bounds = n.moment_in_bounds;
      given_in_bounds = n.given_in_bounds;
      since_in_bounds = λ none within. absurd (omega arith);
      made_by_steps = λ counted kept.
          let both = c.uncounted_after-self.ensures.counted counted in
          made_called n.log.gaps.items n.log.acts.items n.calls.made _ n.log.since _ n.log.gap_for_each (omega (arith, both.1, c.saturating_add-self.ensures)) (ap (λ (x : CallCount). x.made) c.next_fails.ensures.counted) (n.made_by_steps both.0 kept);
      given_by_steps = λ counted kept.
          let both = c.uncounted_after-self.ensures.counted counted in
          let more = given_called n.log.gaps.items n.log.acts.items n.calls.fails c.next_fails.new.self.fails n.calls.made n.log.since c.saturating_add-self.result n.log.gap_for_each later (omega (arith, both.1, c.saturating_add-self.ensures)) (n.made_by_steps both.0 kept) in
          let same = given_gave n.calls.fails n.calls.made (given_by n.calls.fails (steps n.log.gaps.items n.log.acts.items n.log.since) 0 0) (fails_now n.calls.fails n.calls.made _ c.next_fails.ensures.fails ∙ c.if-next_fails.false) in
          omega (arith, n.given_by_steps both.0 kept, more, same);
    }

pub returns-then-next_fails-clause-shows : goal.returns-then-next_fails-clause-shows
returns-then-next_fails-clause-shows c =
    let n = c.args.self.now in
    let later = ap (λ (x : CallCount). x.fails) c.next_fails.ensures.counted in
    record {
      history = history_called n.log.gaps.items n.log.acts.items n.calls.fails _ n.events (stop_of n) n.calls.made n.uncounted _ n.log.lost n.log.since _ _
          c.uncounted_after-self.ensures.counted (omega (arith, c.saturating_add-self.ensures)) later n.log.gap_for_each n.made_by_steps
          (λ counted kept. call_failed n.calls.fails n.events (stop_of n) n.calls.made _ (fails_now n.calls.fails n.calls.made _ c.next_fails.ensures.fails ∙ c.if-next_fails.true));
      left = left_broke next_event n.calls.fails (one_more n.calls.made) _ _ (c.if-next_fails.ensures.fails.0 refl);
      faults = omega (arith, c.saturating_add-self-then-next_fails.ensures);
      no_failure = λ never. absurd (failing_never n.calls.fails _ (c.if-next_fails.ensures.fails.0 refl) never);
    }

pub returns-then-self-len-clause-shows : goal.returns-then-self-len-clause-shows
returns-then-self-len-clause-shows c =
    let n = c.args.self.now in
    let e = c.at-next.result.now in
    let same = in_buffer-prefix e c.copy_from_slice.new.self _ (c.copy_from_slice.ensures.after ∙ c.as_slice-bytes.ensures) c.at-next.ensures.bounds.bytes in
    let later = ap (λ (x : CallCount). x.fails) c.next_fails.ensures.counted in
    record {
      history = history_called n.log.gaps.items n.log.acts.items n.calls.fails _ n.events (stop_of n) n.calls.made n.uncounted _ n.log.lost n.log.since _ _
          c.uncounted_after-self.ensures.counted (omega (arith, c.saturating_add-self.ensures)) later n.log.gap_for_each n.made_by_steps
          (λ counted kept. call_gave n.calls.fails n.events (stop_of n) n.calls.made _ n.given e (fails_now n.calls.fails n.calls.made _ c.next_fails.ensures.fails ∙ c.if-next_fails.false) (n.given_by_steps counted kept) c.at-next.ensures.item (slice_get_within _ _ _ c.at-next.ensures.item) ∙ ap (λ (x : EventWithBytes). heard x) (sym same));
      left = left_heard n.events n.calls.fails _ n.given n.uncounted _ e _ later (λ none counted. all_counted n.calls.fails n.events n.given n.log.since n.uncounted _ none counted n.since_in_bounds (slice_get_within _ _ _ c.at-next.ensures.item) (omega arith) c.uncounted_after-self.ensures.unchanged) c.at-next.ensures.item same;
      faults = omega arith;
      no_failure = λ never. (ap none_fails later ∙ never, refl, refl);
    }

pub returns-then-self-len-clause-takes : goal.returns-then-self-len-clause-takes
returns-then-self-len-clause-takes c =
    let n = c.args.self.now in
    let e = c.at-next.result.now in
    let same = in_buffer-prefix e c.copy_from_slice.new.self _ (c.copy_from_slice.ensures.after ∙ c.as_slice-bytes.ensures) c.at-next.ensures.bounds.bytes in
    TakesFrom-at_item n.events n.given n.stop_moment e _ c.at-next.ensures.item same

pub returns-clause-shows : goal.returns-clause-shows
returns-clause-shows c =
    let n = c.args.self.now in
    let later = ap (λ (x : CallCount). x.fails) c.next_fails.ensures.counted in
    record {
      history = history_called n.log.gaps.items n.log.acts.items n.calls.fails _ n.events (stop_of n) n.calls.made n.uncounted _ n.log.lost n.log.since _ _
          c.uncounted_after-self.ensures.counted (omega (arith, c.saturating_add-self.ensures)) later n.log.gap_for_each n.made_by_steps
          (λ counted kept. call_stopped n.calls.fails n.events (stop_of n) n.calls.made _ n.given (fails_now n.calls.fails n.calls.made _ c.next_fails.ensures.fails ∙ c.if-next_fails.false) (n.given_by_steps counted kept) (omega arith) ∙ ap (λ (x : EventWithBytes). heard x) (sym (stop_in_buffer n.stop_moment c.args.buffer.now)));
      left = left_none n.events n.calls.fails n.given n.uncounted _ _ (drop_past n.given n.events (omega arith));
      faults = omega arith;
      no_failure = λ never. (ap none_fails later ∙ never, refl, refl);
    }
