use Rattle.std.proofs.Common.{refl, sym, ap, ◌∙◌, ◌+◌, ℕ, arith, inl, inr, length}
use Rattle.std.specs.Prelude.{min}
use Rattle.servient_outside.specs.NetMemory.{stop_of, IsNoCall}
use Rattle.servient_outside.proofs.GivenEvents.{history_did, made_did, given_did, continues_untold}
use Rattle.servient_outside.proofs.ActsKept.{told_still, kept_act, kept_some, no_call_made}
use Rattle.servient_outside.proofs.net_memory.NetMemory.keep.Goals as goal

pub invariant_of-self : goal.invariant_of-self
invariant_of-self c =
    let n = c.args.self.now in
    let kept = kept_some IsNoCall n.log c.keep.new.self c.args.act c.requires c.keep.ensures in
    record {
      moment_in_bounds = n.moment_in_bounds;
      given_in_bounds = n.given_in_bounds;
      since_in_bounds = λ none within. elim kept [
        | inl k ↦ omega (arith, k.2.since)
        | inr l ↦ omega (arith, n.since_in_bounds none within, l.since)
      ];
      made_by_steps = λ counted none. elim kept [
        | inl k ↦ sym (no_call_made k.0 n.calls.made k.1) ∙ made_did n.log.gaps.items _ n.log.acts.items _ n.calls.made n.log.since _ k.0 n.log.gap_for_each k.2.gaps k.2.acts k.2.since (n.made_by_steps counted (sym k.2.lost ∙ none))
        | inr l ↦ absurd (omega (arith, l.lost, none))
      ];
      given_by_steps = λ counted none. elim kept [
        | inl k ↦ n.given_by_steps counted (sym k.2.lost ∙ none) ∙ ap (λ (x : ℕ). min x (length n.events)) (sym (given_did n.log.gaps.items _ n.log.acts.items _ n.calls.fails n.log.since _ k.0 n.log.gap_for_each k.2.gaps k.2.acts k.2.since))
        | inr l ↦ absurd (omega (arith, l.lost, none))
      ];
    }

pub returns-clause-history : goal.returns-clause-history
returns-clause-history c = λ done made.
    let n = c.args.self.now in
    elim (kept_act n.log c.keep.new.self c.args.act done made c.keep.ensures) [
      | inl k ↦ history_did n.log.gaps.items _ n.log.acts.items _ n.calls.fails n.events (stop_of n) n.calls.made n.uncounted n.log.lost _ n.log.since _ done n.made_by_steps n.log.gap_for_each k.gaps k.acts k.lost k.since
      | inr l ↦ continues_untold _ _ _ _ (omega (arith, l.lost))
    ]

pub returns-clause-kept_or_counted : goal.returns-clause-kept_or_counted
returns-clause-kept_or_counted c = λ done made.
    elim (kept_act c.args.self.now.log c.keep.new.self c.args.act done made c.keep.ensures) [
      | inl k ↦ inl (k.acts, k.lost)
      | inr l ↦ inr (l.acts, l.lost)
    ]

pub returns-clause-events_stay : goal.returns-clause-events_stay
returns-clause-events_stay c =
    let n = c.args.self.now in
    record {
      rest = record { rest = refl; stop_moment = refl; told = λ same was. told_still (n.uncounted + n.log.lost) _ _ _ (ap (λ (x : ℕ). n.uncounted + x) same) was };
      calls = refl;
      faults = refl;
    }
