use Rattle.std.proofs.Common.{◌≡◌, refl, sym, ap, ◌∙◌, ℕ, List}
use Rattle.std.specs.Prelude.{None, Option}
use Rattle.wot_json.specs.Meaning.{json_of}
use Rattle.wot_json.specs.Lookup.{member_named}
use Rattle.wot_directory.specs.Directory.{with_entry}
use Rattle.wot_registry.specs.Times.{Times, times_of, with_times, without_times, changed}
use Rattle.wot_registry.proofs.Names.{times_undone}
use Rattle.wot_registry.proofs.Standing.{changed_is, is_of_parts, same_parts, no_times}
use Rattle.wot_registry.proofs.registry.Registry.keep.Goals as goal

-- the times were taken back
taken_back : (id : List ℕ) (t : Times) (ts set back : List (List ℕ × Times)) → set ≡ with_times id t ts → back ≡ without_times id set → times_of id ts ≡ None → back ≡ ts
taken_back id t ts set back one other none = other ∙ ap (without_times id) one ∙ times_undone id t ts none

pub invariant_of-self-in-Ok : goal.invariant_of-self-in-Ok
invariant_of-self-in-Ok c =
    is_of_parts c.self.inside.epoch c.keep_under.new.self (with_entry c.args.id.now (json_of c.args.tree) c.self.inside.directory)
    c.set.new.self (with_times c.args.id.now (changed c.args.now c.args.ttl (times_of c.args.id.now c.self.inside.times)) c.self.inside.times)
    (c.in-Ok.ensures.ok ∙ ap (λ (x : List ℕ). with_entry x (json_of c.args.tree) c.self.inside.directory) c.in_ok-key.ensures)
    (c.in_ok-set.ensures.ok ∙ ap (λ (t : Times). with_times c.args.id.now t c.self.inside.times)
    (c.changed-times.ensures ∙ ap (λ (o : Option Times). changed c.args.now c.args.ttl o) c.get.ensures))
    (changed_is c.args.id.now (json_of c.args.tree) c.args.now c.args.ttl (with_entry c.args.id.now (json_of c.args.tree) c.self.inside.directory) _ refl c.self.invariant)

pub invariant_of-self-in-Err : goal.invariant_of-self-in-Err
invariant_of-self-in-Err c =
    let absent : member_named c.args.id.now c.self.inside.directory.entries ≡ None =
    ap (λ (x : List ℕ). member_named x c.self.inside.directory.entries) (sym c.in_ok-key.ensures) ∙ c.in-Err.ensures.absent in
    is_of_parts c.self.inside.epoch c.keep_under.new.self c.self.inside.directory c.remove.new.self c.self.inside.times c.in-Err.ensures.unchanged
    (taken_back c.args.id.now c.changed-times.result c.self.inside.times c.set.new.self c.remove.new.self c.in_ok-set.ensures.ok c.remove.ensures
    (no_times c.args.id.now _ c.self.invariant absent))
    c.self.invariant

pub returns-in-Err-clause-unchanged : goal.returns-in-Err-clause-unchanged
returns-in-Err-clause-unchanged c =
    let absent : member_named c.args.id.now c.self.inside.directory.entries ≡ None =
    ap (λ (x : List ℕ). member_named x c.self.inside.directory.entries) (sym c.in_ok-key.ensures) ∙ c.in-Err.ensures.absent in
    same_parts c.self.inside.epoch c.keep_under.new.self c.self.inside.directory c.remove.new.self c.self.inside.times c.in-Err.ensures.unchanged
    (taken_back c.args.id.now c.changed-times.result c.self.inside.times c.set.new.self c.remove.new.self c.in_ok-set.ensures.ok c.remove.ensures
    (no_times c.args.id.now _ c.self.invariant absent))
    ∙ c.self.view_is
