use Rattle.std.proofs.Common.{◌≡◌, ◌≤◌, ◌<◌, true, cond, length, refl, ap, sym, subst, ◌∙◌, ℕ, List}
use Rattle.std.specs.Prelude.{string_bytes, None}
use Rattle.std.specs.Ordering.{nat_cmp, is_eq}
use Rattle.std.specs.Cmp.Lexicographic.{slice_cmp}
use Rattle.std.specs.BTreeMap as tree
use Rattle.std.specs.String.{string_cmp}
use Rattle.wot_registry.specs.Times.{Times, without_times, is_standing}
use Rattle.wot_registry.specs.Kept.{kept_times}
use Rattle.wot_registry.proofs.KeptTimes.{found_in, times_removed, fewer_kept}
use Rattle.wot_registry.proofs.Due.{none_due, popped_due, popped_over, popped_found, kept_after_expiry}
use Rattle.wot_registry.proofs.times_by_id.TimesById.take_expired.Goals as goal

pub returns-then-not-is_first_due-clause-none : goal.returns-then-not-is_first_due-clause-none
returns-then-not-is_first_due-clause-none c = (
  refl,
  subst (λ (ts : List (List ℕ × Times)). (id : List ℕ) → is_standing c.args.now ts id ≡ true) c.self.view_is
      (none_due c.args.now c.self.inside.by_id c.self.inside.order c.is_first_due.result c.self.invariant c.is_first_due.ensures c.if-not-is_first_due.true),
)

pub returns-in-Some-clause-taken : goal.returns-in-Some-clause-taken
returns-in-Some-clause-taken c =
    ap kept_times c.remove-there.ensures.entries ∙ times_removed c.as_str.result.now c.self.inside.by_id.entries c.self.invariant.ordered
    ∙ ap (λ (id : List ℕ). without_times id (kept_times c.self.inside.by_id.entries)) (c.as_str.ensures.value ∙ sym c.from_string.ensures)
    ∙ ap (λ (ts : List (List ℕ × Times)). without_times c.from_string.result ts) c.self.view_is

pub invariant_of-self : goal.invariant_of-self
invariant_of-self c =
    kept_after_expiry c.self.inside.by_id c.remove-there.new.self c.self.inside.order c.pop_first.new.self (c.in-Some.field-0-0, c.in-Some.id) c.self.invariant
    c.in-Some.ensures.member c.in-Some.ensures.updates.0
    (λ k. c.remove-there.ensures.updates.0 k
    ∙ ap (λ (bs : List ℕ). cond (is_eq (slice_cmp nat_cmp bs (string_bytes k))) None (tree.get string_cmp c.self.inside.by_id k)) c.as_str.ensures.value)
    c.remove-there.ensures.ordered

pub returns-in-Some-clause-over : goal.returns-in-Some-clause-over
returns-in-Some-clause-over c =
    let due : c.in-Some.field-0-0 ≤ c.args.now =
    popped_due c.args.now c.self.inside.order c.pop_first.new.self.keys (c.in-Some.field-0-0, c.in-Some.id) c.is_first_due.result c.is_first_due.ensures c.if-not-is_first_due.false c.in-Some.ensures.removal in
    ap (λ (id : List ℕ). is_standing c.args.now c.args.self.now id) c.from_string.ensures
    ∙ ap (λ (ts : List (List ℕ × Times)). is_standing c.args.now ts (string_bytes c.in-Some.id)) (sym c.self.view_is)
    ∙ popped_over c.args.now c.self.inside.by_id c.self.inside.order (c.in-Some.field-0-0, c.in-Some.id) c.self.invariant c.in-Some.ensures.member due

pub returns-in-Some-clause-fewer : goal.returns-in-Some-clause-fewer
returns-in-Some-clause-fewer c =
    let found = popped_found c.self.inside.by_id c.self.inside.order (c.in-Some.field-0-0, c.in-Some.id) c.self.invariant c.in-Some.ensures.member in
    subst (λ (ts : List (List ℕ × Times)). length (kept_times c.remove-there.new.self.entries) < length ts) c.self.view_is
    (fewer_kept c.self.inside.by_id.entries c.remove-there.new.self.entries c.remove-there.result found.0
    (c.remove-there.ensures.value ∙ ap (λ (bs : List ℕ). found_in bs c.self.inside.by_id.entries) c.as_str.ensures.value ∙ found.1) c.remove-there.ensures.len)
