use Rattle.std.proofs.Common.{◌≡◌, ◌∙◌, ℕ, List, None, arith, sym, subst}
use Rattle.std.specs.List.{position}
use Rattle.std.proofs.lemmas.List.{get_or_read, nil_from_length}
use Rattle.servient_script.specs.Merging.{begins_with, turns_after}
use Rattle.servient_script.proofs.MergeLaws.{as_long, kept_at, no_place}
use Rattle.thing_handler.specs.Turns.{RunTurn}
use Rattle.turn_lines.specs.Buffer.{buffered_of, HasPut}
use Rattle.turn_lines.specs.Lines.{logged_turn}
use Rattle.logged_serving.proofs.Counting.{counts_next, found_in, has_next, never_none, takes_next}
use Rattle.logged_serving.proofs.run_log.RunLog.write_next.Goals as goal

pub returns-in_default-clause-left : goal.returns-in_default-clause-left
returns-in_default-clause-left g c = λ turn more merged.
    let slots = g.R.Handlers.slots c.args.rack.now in
    absurd (never_none c.args.number (turns_after c.args.self.now.written.items slots) turn more merged
    (subst (λ (xs : List ℕ). position (begins_with c.args.number) (turns_after xs slots) ≡ None) c.as_slice.ensures.value (sym c.slot_of.ensures ∙ no_place c.slot_of.result c.in_default.not-Some)))

pub returns-in_default-clause-put : goal.returns-in_default-clause-put
returns-in_default-clause-put g c = λ turn more merged.
    let slots = g.R.Handlers.slots c.args.rack.now in
    absurd (never_none c.args.number (turns_after c.args.self.now.written.items slots) turn more merged
    (subst (λ (xs : List ℕ). position (begins_with c.args.number) (turns_after xs slots) ≡ None) c.as_slice.ensures.value (sym c.slot_of.ensures ∙ no_place c.slot_of.result c.in_default.not-Some)))

pub index-count-requires : goal.index-count-requires
index-count-requires g c =
    let found = found_in c.args.number c.in-Some.slot c.args.self.now.written.items c.as_slice.result.now (g.R.Handlers.slots c.args.rack.now) c.requires c.as_slice.ensures.value (sym c.slot_of.ensures ∙ c.in-Some.is) in
    omega (arith, found.0, c.args.self.now.written.ok.0)

pub turns-requires : goal.turns-requires
turns-requires g c =
    let found = found_in c.args.number c.in-Some.slot c.args.self.now.written.items c.as_slice.result.now (g.R.Handlers.slots c.args.rack.now) c.requires c.as_slice.ensures.value (sym c.slot_of.ensures ∙ c.in-Some.is) in
    omega (arith, found.0, as_long c.args.self.now.written.items (g.R.Handlers.slots c.args.rack.now) c.requires)

pub split_at-requires : goal.split_at-requires
split_at-requires g c =
    let counts = c.args.self.now.written.items in
    let found = found_in c.args.number c.in-Some.slot counts c.as_slice.result.now (g.R.Handlers.slots c.args.rack.now) c.requires c.as_slice.ensures.value (sym c.slot_of.ensures ∙ c.in-Some.is) in
    let counted = get_or_read counts c.in-Some.slot c.index-count.result.now found.0 c.index-count.ensures 0 in
    omega (arith, counted, kept_at counts (g.R.Handlers.slots c.args.rack.now) c.in-Some.slot 0 c.turns.result.now c.requires found.0 c.turns.ensures)

pub returns-in_default-split_first-clause-left : goal.returns-in_default-split_first-clause-left
returns-in_default-split_first-clause-left g c = λ turn more merged.
    let counts = c.args.self.now.written.items in
    let slots = g.R.Handlers.slots c.args.rack.now in
    let found = found_in c.args.number c.in-Some.slot counts c.as_slice.result.now slots c.requires c.as_slice.ensures.value (sym c.slot_of.ensures ∙ c.in-Some.is) in
    let counted = get_or_read counts c.in-Some.slot c.index-count.result.now found.0 c.index-count.ensures 0 in
    absurd (has_next c.args.number c.in-Some.slot c.index-count.result.now counts slots c.turns.result.now c.split_at.result.1.now c.requires found.0 found.1 c.turns.ensures counted c.split_at.ensures.back
    (nil_from_length c.split_at.result.1.now c.in_default-split_first.ensures.cases))

pub returns-in_default-split_first-clause-put : goal.returns-in_default-split_first-clause-put
returns-in_default-split_first-clause-put g c = λ turn more merged.
    let counts = c.args.self.now.written.items in
    let slots = g.R.Handlers.slots c.args.rack.now in
    let found = found_in c.args.number c.in-Some.slot counts c.as_slice.result.now slots c.requires c.as_slice.ensures.value (sym c.slot_of.ensures ∙ c.in-Some.is) in
    let counted = get_or_read counts c.in-Some.slot c.index-count.result.now found.0 c.index-count.ensures 0 in
    absurd (has_next c.args.number c.in-Some.slot c.index-count.result.now counts slots c.turns.result.now c.split_at.result.1.now c.requires found.0 found.1 c.turns.ensures counted c.split_at.ensures.back
    (nil_from_length c.split_at.result.1.now c.in_default-split_first.ensures.cases))

pub index_mut-requires : goal.index_mut-requires
index_mut-requires g c =
    let found = found_in c.args.number c.in-Some.slot c.args.self.now.written.items c.as_slice.result.now (g.R.Handlers.slots c.args.rack.now) c.requires c.as_slice.ensures.value (sym c.slot_of.ensures ∙ c.in-Some.is) in
    omega (arith, found.0, c.args.self.now.written.ok.0)

pub returns-clause-kept : goal.returns-clause-kept
returns-clause-kept g c =
    let counts = c.args.self.now.written.items in
    let slots = g.R.Handlers.slots c.args.rack.now in
    let found = found_in c.args.number c.in-Some.slot counts c.as_slice.result.now slots c.requires c.as_slice.ensures.value (sym c.slot_of.ensures ∙ c.in-Some.is) in
    counts_next c.in-Some.slot c.index-count.result.now counts slots c.turns.result.now c.split_at.result.1.now _ _ c.requires found.0 c.turns.ensures c.split_at.ensures.back_len c.in-Some-split_first.ensures.cases.0

pub returns-clause-left : goal.returns-clause-left
returns-clause-left g c = λ turn more merged.
    let counts = c.args.self.now.written.items in
    let slots = g.R.Handlers.slots c.args.rack.now in
    let found = found_in c.args.number c.in-Some.slot counts c.as_slice.result.now slots c.requires c.as_slice.ensures.value (sym c.slot_of.ensures ∙ c.in-Some.is) in
    let counted = get_or_read counts c.in-Some.slot c.index-count.result.now found.0 c.index-count.ensures 0 in
    (takes_next c.args.number c.in-Some.slot c.index-count.result.now counts slots c.turns.result.now c.split_at.result.1.now _ _ turn more c.requires found.0 found.1 c.turns.ensures counted c.split_at.ensures.back c.in-Some-split_first.ensures.cases.0 merged).1

pub returns-clause-put : goal.returns-clause-put
returns-clause-put g c = λ turn more merged.
    let counts = c.args.self.now.written.items in
    let slots = g.R.Handlers.slots c.args.rack.now in
    let found = found_in c.args.number c.in-Some.slot counts c.as_slice.result.now slots c.requires c.as_slice.ensures.value (sym c.slot_of.ensures ∙ c.in-Some.is) in
    let counted = get_or_read counts c.in-Some.slot c.index-count.result.now found.0 c.index-count.ensures 0 in
    let next = takes_next c.args.number c.in-Some.slot c.index-count.result.now counts slots c.turns.result.now c.split_at.result.1.now _ _ turn more c.requires found.0 found.1 c.turns.ensures counted c.split_at.ensures.back c.in-Some-split_first.ensures.cases.0 merged in
    subst (λ (t : RunTurn). HasPut (logged_turn c.args.moment t) (buffered_of c.args.self.now.lines) (buffered_of c.put_line.new.lines) (g.O.Out.seen c.args.out.now) (g.O.Out.seen c.put_line.new.out)) next.0 c.put_line.ensures
