use Rattle.std.proofs.Common.{rules, ap, ◌∙◌, ℕ, List}
use Rattle.std.specs.Prelude.{string_bytes, Option, option_map}
use Rattle.std.specs.BTreeSet.{contains}
use Rattle.wot_registry.specs.Times.{Times, with_times, expiry, times_of}
use Rattle.wot_registry.specs.Kept.{kept_times, placed_cmp, with_placed}
use Rattle.wot_registry.proofs.KeptTimes.{found_in, times_found, times_inserted}
use Rattle.wot_registry.proofs.Expiring.{kept_after_change, not_absent}
use Rattle.wot_registry.proofs.times_by_id.TimesById.change.Goals as goal

pub unreachable-requires : goal.unreachable-requires
unreachable-requires c =
    not_absent (found_in (string_bytes c.args.key) c.self.inside.by_id.entries) c.args.before c.in-Err.ensures.absent
    (ap (λ (o : Option Times). option_map expiry o) (times_found (string_bytes c.args.key) c.self.inside.by_id.entries ∙ ap (λ (ts : List (List ℕ × Times)). times_of (string_bytes c.args.key) ts) c.self.view_is) ∙ c.requires.there)

pub invariant_of-self-2 : goal.invariant_of-self-2
invariant_of-self-2 c =
    kept_after_change c.self.inside.by_id c.insert.new.self c.self.inside.order c.place.new.order c.unplace.new.order c.args.key c.args.copies.0 c.args.copies.1 c.args.times c.args.before
    c.self.invariant c.requires.same.0 c.requires.same.1
    (ap (λ (o : Option Times). option_map expiry o) (times_found (string_bytes c.args.key) c.self.inside.by_id.entries ∙ ap (λ (ts : List (List ℕ × Times)). times_of (string_bytes c.args.key) ts) c.self.view_is) ∙ c.requires.there)
    (search rules)
    (λ q. c.in_ok-place.ensures.ok q ∙ ap (λ (e : Option ℕ). with_placed e c.args.copies.0 q (contains placed_cmp c.self.inside.order q)) c.expiry-2.ensures)
    c.unplace.ensures c.in-Ok.ensures.updates.0 c.insert.ensures.ordered

pub returns-clause-ok : goal.returns-clause-ok
returns-clause-ok c =
    ap kept_times c.in-Ok.ensures.entries ∙ times_inserted c.self.inside.by_id.entries c.args.key c.args.times
    ∙ ap (λ (ts : List (List ℕ × Times)). with_times (string_bytes c.args.key) c.args.times ts) c.self.view_is
