use Rattle.std.proofs.Common.{◌≡◌, ◌∙◌, ◌+◌, ℕ, List, refl, sym, ap, subst}
use Rattle.std.proofs.lemmas.Result.{on_ok_weaker}
use Rattle.servient_ends.specs.Ends.{Turn, asks_next, does_due, delivers, passes}
use Rattle.servient_rehearsal.specs.declared.notes.Notes.{Notes}
use Rattle.servient_rehearsal.specs.Moves.{turn_of, turn_besides}
use Rattle.servient_rehearsal.specs.Noted.{noted_of}
use Rattle.servient_rehearsal.specs.Playing.{kept, PlaysTurn, PlaysTurnAtMost}
use Rattle.servient_rehearsal.proofs.TurnLaws.{turns_play}
use Rattle.servient_rehearsal.proofs.ClientLaws.{passed_turn}
use Rattle.servient_rehearsal.proofs.PlayLaws.{on_error_weaker}
use Rattle.servient_rehearsal.proofs.playing.play.Goals as goal

pub returns-in-Ask-clause-ok : goal.returns-in-Ask-clause-ok
returns-in-Ask-clause-ok g c =
    let same : asks_next (record { code = c.in-Ask.code; path = c.in-Ask.path; observe = c.in-Ask.observe; format = c.in-Ask.format; block1 = c.in-Ask.block1; block2 = c.in-Ask.block2; payload = c.as_slice.result.now }) ≡ turn_of c.args.next.now = ap (λ (l : List ℕ). asks_next (record { code = c.in-Ask.code; path = c.in-Ask.path; observe = c.in-Ask.observe; format = c.in-Ask.format; block1 = c.in-Ask.block1; block2 = c.in-Ask.block2; payload = l })) c.as_slice.ensures ∙ ap turn_of (sym c.in-Ask.is) in
    on_ok_weaker c.ask_servient.result
    (λ plays. subst (λ (x : Turn). PlaysTurn c.args.servient.now.exposed.site x (kept c.args.servient.now c.args.client.now c.args.notes.now)
    (kept c.args.servient.now c.ask_servient.new.client c.ask_servient.new.notes) (g.R.Handlers.slots c.args.rack.now) (g.R.Handlers.slots c.args.rack.now)) same (plays c.args.servient.now.exposed.site c.args.servient.now (g.R.Handlers.slots c.args.rack.now)))
    c.ask_servient.ensures.ok

pub returns-in-Ask-clause-fault : goal.returns-in-Ask-clause-fault
returns-in-Ask-clause-fault g c =
    let same : asks_next (record { code = c.in-Ask.code; path = c.in-Ask.path; observe = c.in-Ask.observe; format = c.in-Ask.format; block1 = c.in-Ask.block1; block2 = c.in-Ask.block2; payload = c.as_slice.result.now }) ≡ turn_of c.args.next.now = ap (λ (l : List ℕ). asks_next (record { code = c.in-Ask.code; path = c.in-Ask.path; observe = c.in-Ask.observe; format = c.in-Ask.format; block1 = c.in-Ask.block1; block2 = c.in-Ask.block2; payload = l })) c.as_slice.ensures ∙ ap turn_of (sym c.in-Ask.is) in
    on_error_weaker c.ask_servient.result
    (λ plays. subst (λ (x : Turn). PlaysTurnAtMost c.args.servient.now.exposed.site x (kept c.args.servient.now c.args.client.now c.args.notes.now)
    (kept c.args.servient.now c.ask_servient.new.client c.ask_servient.new.notes) (g.R.Handlers.slots c.args.rack.now) (g.R.Handlers.slots c.args.rack.now)) same (plays c.args.servient.now.exposed.site c.args.servient.now c.ask_servient.new.notes (g.R.Handlers.slots c.args.rack.now)))
    c.ask_servient.ensures.fault

pub returns-in-Due-clause-ok : goal.returns-in-Due-clause-ok
returns-in-Due-clause-ok g c =
    let same : does_due ≡ turn_of c.args.next.now = ap turn_of (sym c.in-Due.is) in
    on_ok_weaker c.do_due.result
    (λ plays. subst (λ (x : Turn). PlaysTurn c.args.servient.now.exposed.site x (kept c.args.servient.now c.args.client.now c.args.notes.now)
    (kept c.args.servient.now c.do_due.new.client c.do_due.new.notes) (g.R.Handlers.slots c.args.rack.now) (g.R.Handlers.slots c.args.rack.now)) same (plays c.args.servient.now.exposed.site c.args.servient.now (g.R.Handlers.slots c.args.rack.now)))
    c.do_due.ensures.ok

pub returns-in-Due-clause-fault : goal.returns-in-Due-clause-fault
returns-in-Due-clause-fault g c =
    let same : does_due ≡ turn_of c.args.next.now = ap turn_of (sym c.in-Due.is) in
    on_error_weaker c.do_due.result
    (λ plays. subst (λ (x : Turn). PlaysTurnAtMost c.args.servient.now.exposed.site x (kept c.args.servient.now c.args.client.now c.args.notes.now)
    (kept c.args.servient.now c.do_due.new.client c.do_due.new.notes) (g.R.Handlers.slots c.args.rack.now) (g.R.Handlers.slots c.args.rack.now)) same (plays c.args.servient.now.exposed.site c.args.servient.now c.do_due.new.notes (g.R.Handlers.slots c.args.rack.now)))
    c.do_due.ensures.fault

pub returns-in-Deliver-clause-ok : goal.returns-in-Deliver-clause-ok
returns-in-Deliver-clause-ok g c =
    let same : delivers c.in-Deliver.index ≡ turn_of c.args.next.now = ap turn_of (sym c.in-Deliver.is) in
    on_ok_weaker c.deliver.result
    (λ plays. subst (λ (x : Turn). PlaysTurn c.args.servient.now.exposed.site x (kept c.args.servient.now c.args.client.now c.args.notes.now)
    (kept c.deliver.new.servient c.deliver.new.client c.deliver.new.notes) (g.R.Handlers.slots c.args.rack.now) (g.R.Handlers.slots c.deliver.new.rack)) same plays)
    c.deliver.ensures.ok

pub returns-in-Deliver-clause-fault : goal.returns-in-Deliver-clause-fault
returns-in-Deliver-clause-fault g c =
    let same : delivers c.in-Deliver.index ≡ turn_of c.args.next.now = ap turn_of (sym c.in-Deliver.is) in
    on_error_weaker c.deliver.result
    (λ plays. subst (λ (x : Turn). PlaysTurnAtMost c.args.servient.now.exposed.site x (kept c.args.servient.now c.args.client.now c.args.notes.now)
    (kept c.deliver.new.servient c.deliver.new.client c.deliver.new.notes) (g.R.Handlers.slots c.args.rack.now) (g.R.Handlers.slots c.deliver.new.rack)) same plays)
    c.deliver.ensures.fault

pub returns-in-Other-clause-ok : goal.returns-in-Other-clause-ok
returns-in-Other-clause-ok g c =
    let same : turn_besides c.in-Other.what c.as_slice-in-Other.result.now ≡ turn_of c.args.next.now = ap (λ (l : List ℕ). turn_besides c.in-Other.what l) c.as_slice-in-Other.ensures ∙ ap turn_of (sym c.in-Other.is) in
    on_ok_weaker c.happen.result
    (λ plays. subst (λ (x : Turn). PlaysTurn c.args.servient.now.exposed.site x (kept c.args.servient.now c.args.client.now c.args.notes.now)
    (kept c.happen.new.servient c.args.client.now c.happen.new.notes) (g.R.Handlers.slots c.args.rack.now) (g.R.Handlers.slots c.happen.new.rack)) same (plays c.args.client.now))
    c.happen.ensures.ok

pub returns-in-Other-clause-fault : goal.returns-in-Other-clause-fault
returns-in-Other-clause-fault g c =
    let same : turn_besides c.in-Other.what c.as_slice-in-Other.result.now ≡ turn_of c.args.next.now = ap (λ (l : List ℕ). turn_besides c.in-Other.what l) c.as_slice-in-Other.ensures ∙ ap turn_of (sym c.in-Other.is) in
    on_error_weaker c.happen.result
    (λ plays. subst (λ (x : Turn). PlaysTurnAtMost c.args.servient.now.exposed.site x (kept c.args.servient.now c.args.client.now c.args.notes.now)
    (kept c.happen.new.servient c.args.client.now c.happen.new.notes) (g.R.Handlers.slots c.args.rack.now) (g.R.Handlers.slots c.happen.new.rack)) same (plays c.args.client.now c.happen.new.notes))
    c.happen.ensures.fault

pub returns-in-Pass-clause-ok : goal.returns-in-Pass-clause-ok
returns-in-Pass-clause-ok g c =
    let same : passes c.in-Pass.time ≡ turn_of c.args.next.now = ap turn_of (sym c.in-Pass.is) in
    let after : Notes = record c.args.notes.now { world = record c.args.notes.now.world { moment = c.args.notes.now.world.moment + c.in-Pass.time } } in
    subst (λ (x : Turn). PlaysTurn c.args.servient.now.exposed.site x (kept c.args.servient.now c.args.client.now c.args.notes.now) (kept c.args.servient.now c.args.client.now after) (g.R.Handlers.slots c.args.rack.now) (g.R.Handlers.slots c.args.rack.now)) same
    (turns_play c.args.servient.now.exposed.site (passes c.in-Pass.time) (kept c.args.servient.now c.args.client.now c.args.notes.now) c.args.servient.now c.args.client.now after (g.R.Handlers.slots c.args.rack.now) (g.R.Handlers.slots c.args.rack.now)
    (record (noted_of c.args.notes.now.world) { moment = c.args.notes.now.world.moment + c.in-Pass.time }) c.args.notes.now.registered
    (passed_turn c.args.servient.now.exposed.site c.args.servient.now (g.R.Handlers.slots c.args.rack.now) c.in-Pass.time c.args.client.now c.args.notes.now) refl refl)
