use Rattle.std.proofs.Common.{ap, sym, ◌∙◌, ℕ, List}
use Rattle.std.specs.Prelude.{Some, Option, option_map}
use Rattle.wot_registry.specs.Times.{Times, expiry, times_of}
use Rattle.wot_registry.proofs.KeptTimes.{times_found}
use Rattle.wot_registry.proofs.times_by_id.TimesById.set.Goals as goal

pub change-requires-clause-there : goal.change-requires-clause-there
change-requires-clause-there c =
    ap (λ (bs : List ℕ). option_map expiry (times_of bs c.args.self.now)) c.in_ok-key.ensures.ok
    ∙ ap (λ (ts : List (List ℕ × Times)). option_map expiry (times_of c.args.id.now ts)) (sym c.self.view_is)
    ∙ ap (λ (o : Option Times). option_map expiry o) (sym (times_found c.args.id.now c.self.inside.by_id.entries) ∙ sym c.in-Some.ensures.value)
    ∙ ap (λ (e : Option ℕ). Some e) (sym c.expiry-before.ensures)

pub add-requires-clause-absent : goal.add-requires-clause-absent
add-requires-clause-absent c =
    ap (λ (bs : List ℕ). times_of bs c.args.self.now) c.in_ok-key.ensures.ok
    ∙ ap (λ (ts : List (List ℕ × Times)). times_of c.args.id.now ts) (sym c.self.view_is)
    ∙ sym (times_found c.args.id.now c.self.inside.by_id.entries) ∙ sym c.in-None.ensures.value
