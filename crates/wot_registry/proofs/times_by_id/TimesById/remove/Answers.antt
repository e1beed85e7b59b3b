use Rattle.std.proofs.Common.{ap, sym, ◌∙◌, ℕ, List}
use Rattle.std.specs.Prelude.{string_bytes, Option}
use Rattle.std.specs.BTreeSet.{contains}
use Rattle.std.proofs.lemmas.Map.Lookups.{exact_bytes}
use Rattle.wot_registry.specs.Times.{Times, without_times}
use Rattle.wot_registry.specs.Kept.{kept_times, placed_cmp, without_placed}
use Rattle.wot_registry.proofs.KeptTimes.{times_removed}
use Rattle.wot_registry.proofs.Expiring.{kept_after_removal}
use Rattle.wot_registry.proofs.times_by_id.TimesById.remove.Goals as goal

pub invariant_of-self : goal.invariant_of-self
invariant_of-self c =
    kept_after_removal c.self.inside.by_id c.remove_entry.new.self c.self.inside.order c.unplace.new.order c.args.id.now c.in-Some.key c.in-Some.times c.self.invariant
    (sym (exact_bytes c.args.id.now (string_bytes c.in-Some.key) c.in-Some.ensures.same_key)) (sym c.in-Some.ensures.value)
    (λ q. c.unplace.ensures q ∙ ap (λ (e : Option ℕ). without_placed e c.in-Some.key q (contains placed_cmp c.self.inside.order q)) c.expiry.ensures)
    c.remove_entry.ensures.updates.0 c.remove_entry.ensures.ordered

pub returns-in-Some : goal.returns-in-Some
returns-in-Some c =
    ap kept_times c.remove_entry.ensures.entries ∙ times_removed c.args.id.now c.self.inside.by_id.entries c.self.invariant.ordered
    ∙ ap (λ (ts : List (List ℕ × Times)). without_times c.args.id.now ts) c.self.view_is

pub returns-in-None : goal.returns-in-None
returns-in-None c =
    ap kept_times c.remove_entry.ensures.entries ∙ times_removed c.args.id.now c.self.inside.by_id.entries c.self.invariant.ordered
    ∙ ap (λ (ts : List (List ℕ × Times)). without_times c.args.id.now ts) c.self.view_is
