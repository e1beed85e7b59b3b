use Rattle.std.proofs.Common.{◌≡◌, true, ◌∙◌, ℕ, List, sym, ap}
use Rattle.wot_json.specs.Tree.{Json}
use Rattle.wot_directory.specs.Contents.{Contents}
use Rattle.wot_directory.specs.Directory.{without_entry}
use Rattle.wot_registry.specs.Times.{Times, is_standing, standing_entries, without_times}
use Rattle.wot_registry.specs.Registry.{standing_contents}
use Rattle.wot_registry.proofs.Standing.{times_as_before, contents_as_before, removed_anyway, all_stand, standing_is, is_of_parts}
use Rattle.wot_registry.proofs.registry.take_away_over.Goals as goal

pub loop-id-preserved : goal.loop-id-preserved
loop-id-preserved c =
    let removed : c.remove-removed.new.self ≡ without_entry c.as_str.result.now c.loop-id.directory =
    removed_anyway c.remove-removed.result c.as_str.result.now c.loop-id.directory c.remove-removed.new.self c.remove-removed.ensures.ok c.remove-removed.ensures.unchanged c.remove-removed.ensures.fault in
    let gone : c.remove-removed.new.self ≡ without_entry c.in-Some.id c.loop-id.directory = removed ∙ ap (λ (x : List ℕ). without_entry x c.loop-id.directory) c.as_str.ensures in
    record {
      contents = ap (λ (ts : List (List ℕ × Times)). standing_contents c.args.now ts c.remove-removed.new.self) c.in-Some.ensures.taken
          ∙ ap (λ (d : Contents). standing_contents c.args.now (without_times c.in-Some.id c.loop-id.times) d) gone
          ∙ contents_as_before c.args.now c.in-Some.id c.loop-id.times c.loop-id.directory c.in-Some.ensures.over ∙ c.loop-id.invariant.contents;
      times = ap (λ (ts : List (List ℕ × Times)). standing_entries c.args.now ts ts) c.in-Some.ensures.taken
          ∙ times_as_before c.args.now c.in-Some.id c.loop-id.times c.in-Some.ensures.over ∙ c.loop-id.invariant.times;
    }

contents_left : (now : ℕ) (ts first : List (List ℕ × Times)) (d begin : Contents) → ((id : List ℕ) → is_standing now ts id ≡ true)
    → standing_contents now ts d ≡ standing_contents now first begin → d ≡ standing_contents now first begin
contents_left now ts first d begin all same =
    sym (ap (λ (es : List (List ℕ × Json)). record d { entries = es }) (all_stand (is_standing now ts) d.entries all)) ∙ same

times_left : (now : ℕ) (ts first : List (List ℕ × Times)) → ((id : List ℕ) → is_standing now ts id ≡ true) → standing_entries now ts ts ≡ standing_entries now first first
    → ts ≡ standing_entries now first first
times_left now ts first all same = sym (all_stand (is_standing now ts) ts all) ∙ same

pub returns-clause-contents : goal.returns-clause-contents
returns-clause-contents c =
    contents_left c.args.now c.loop-id.times c.args.times.now c.loop-id.directory c.args.directory.now c.in_default.ensures.none.1 c.loop-id.invariant.contents

pub returns-clause-times : goal.returns-clause-times
returns-clause-times c =
    c.in_default.ensures.none.0 ∙ times_left c.args.now c.loop-id.times c.args.times.now c.in_default.ensures.none.1 c.loop-id.invariant.times

pub returns-clause-kept : goal.returns-clause-kept
returns-clause-kept c = λ epoch is.
    is_of_parts epoch c.loop-id.directory (standing_contents c.args.now c.args.times.now c.args.directory.now) c.take_expired.new.self (standing_entries c.args.now c.args.times.now c.args.times.now)
    (contents_left c.args.now c.loop-id.times c.args.times.now c.loop-id.directory c.args.directory.now c.in_default.ensures.none.1 c.loop-id.invariant.contents)
    (c.in_default.ensures.none.0 ∙ times_left c.args.now c.loop-id.times c.args.times.now c.in_default.ensures.none.1 c.loop-id.invariant.times)
    (standing_is c.args.now _ is)
