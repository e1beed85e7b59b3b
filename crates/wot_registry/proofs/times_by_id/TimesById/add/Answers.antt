use Rattle.std.proofs.Common.{ap, ◌∙◌, ℕ, List}
use Rattle.std.specs.Prelude.{String, string_bytes, Option}
use Rattle.std.specs.declared.alloc.Global.{Global}
use Rattle.std.specs.BTreeSet.{contains}
use Rattle.wot_registry.specs.Times.{Times, with_times, times_of}
use Rattle.wot_registry.specs.Kept.{kept_times, placed_cmp, with_placed}
use Rattle.wot_registry.proofs.KeptTimes.{times_found, times_inserted}
use Rattle.wot_registry.proofs.Expiring.{kept_after_add, kept_after_undoing}
use Rattle.wot_registry.proofs.times_by_id.TimesById.add.Goals as goal

pub invariant_of-self-in-Ok : goal.invariant_of-self-in-Ok
invariant_of-self-in-Ok c =
    kept_after_add c.self.inside.by_id c.insert.new.self c.self.inside.order c.place.new.order c.args.key c.args.placed c.args.times c.self.invariant c.requires.same
    (times_found (string_bytes c.args.key) c.self.inside.by_id.entries ∙ ap (λ (ts : List (List ℕ × Times)). times_of (string_bytes c.args.key) ts) c.self.view_is ∙ c.requires.absent)
    (λ q. c.in_ok-place.ensures.ok q ∙ ap (λ (e : Option ℕ). with_placed e c.args.placed q (contains placed_cmp c.self.inside.order q)) c.expiry-expiry.ensures)
    c.in-Ok.ensures.updates.0 c.insert.ensures.ordered

pub invariant_of-self-in-Err : goal.invariant_of-self-in-Err
invariant_of-self-in-Err c =
    kept_after_undoing c.self.inside.by_id c.insert.new.self c.self.inside.order c.place.new.order c.unplace.new.order c.args.key c.args.placed c.in-Err.failed.value.0 c.expiry-expiry.result
    c.self.invariant c.requires.same (ap (λ (p : String Global × Times). string_bytes p.0) c.in-Err.ensures.value_returned)
    (times_found (string_bytes c.args.key) c.self.inside.by_id.entries ∙ ap (λ (ts : List (List ℕ × Times)). times_of (string_bytes c.args.key) ts) c.self.view_is ∙ c.requires.absent)
    c.in_ok-place.ensures.ok c.unplace.ensures c.in-Err.ensures.err c.insert.ensures.ordered

pub returns-in-Ok-clause-ok : goal.returns-in-Ok-clause-ok
returns-in-Ok-clause-ok c =
    ap kept_times c.in-Ok.ensures.entries ∙ times_inserted c.self.inside.by_id.entries c.args.key c.args.times
    ∙ ap (λ (ts : List (List ℕ × Times)). with_times (string_bytes c.args.key) c.args.times ts) c.self.view_is
