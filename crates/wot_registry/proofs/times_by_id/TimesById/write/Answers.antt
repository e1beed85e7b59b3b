use Rattle.std.proofs.Common.{ap, ◌∙◌, ℕ, List}
use Rattle.std.specs.Prelude.{string_bytes, Option, option_map}
use Rattle.wot_registry.specs.Times.{Times, with_times, expiry, times_of}
use Rattle.wot_registry.specs.Kept.{kept_times}
use Rattle.wot_registry.proofs.KeptTimes.{found_in, times_found, times_inserted}
use Rattle.wot_registry.proofs.Expiring.{kept_after_write, not_absent}
use Rattle.wot_registry.proofs.times_by_id.TimesById.write.Goals as goal

pub unreachable-requires : goal.unreachable-requires
unreachable-requires c =
    not_absent (found_in (string_bytes c.args.key) c.self.inside.by_id.entries) (expiry c.args.times) c.in-Err.ensures.absent
    (ap (λ (o : Option Times). option_map expiry o) (times_found (string_bytes c.args.key) c.self.inside.by_id.entries ∙ ap (λ (ts : List (List ℕ × Times)). times_of (string_bytes c.args.key) ts) c.self.view_is) ∙ c.requires)

pub invariant_of-self : goal.invariant_of-self
invariant_of-self c =
    kept_after_write c.self.inside.by_id c.insert.new.self c.self.inside.order c.args.key c.args.times c.self.invariant
    (ap (λ (o : Option Times). option_map expiry o) (times_found (string_bytes c.args.key) c.self.inside.by_id.entries ∙ ap (λ (ts : List (List ℕ × Times)). times_of (string_bytes c.args.key) ts) c.self.view_is) ∙ c.requires)
    c.in-Ok.ensures.updates.0 c.insert.ensures.ordered

pub returns : goal.returns
returns c =
    ap kept_times c.in-Ok.ensures.entries ∙ times_inserted c.self.inside.by_id.entries c.args.key c.args.times
    ∙ ap (λ (ts : List (List ℕ × Times)). with_times (string_bytes c.args.key) c.args.times ts) c.self.view_is
