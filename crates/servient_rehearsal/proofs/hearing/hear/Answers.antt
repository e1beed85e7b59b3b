use Rattle.std.proofs.Common.{◌∙◌, sym, inl}
use Rattle.std.proofs.lemmas.Result.{on_ok_weaker}
use Rattle.servient_outside.specs.NetMemory.{net_seen}
use Rattle.servient_ends.specs.Ends.{event_at}
use Rattle.servient_rehearsal.specs.Noted.{noted_of}
use Rattle.servient_rehearsal.proofs.StepLaws.{stepped, heard_all}
use Rattle.servient_rehearsal.proofs.PlayLaws.{on_error}
use Rattle.servient_rehearsal.proofs.hearing.hear.Goals as goal

pub returns-then-lost-ne0-clause-fault : goal.returns-then-lost-ne0-clause-fault
returns-then-lost-ne0-clause-fault g c =
    inl (stepped c.args.servient.now.exposed.site (event_at c.args.notes.now.world.moment c.args.what c.args.bytes.now) c.args.servient.now c.step.new.self
    (g.R.Handlers.slots c.args.rack.now) (g.R.Handlers.slots c.step.new.rack) (net_seen c.in_ok-net.net) (net_seen c.step.new.net) c.step.ensures.step)

pub returns-clause-ok : goal.returns-clause-ok
returns-clause-ok g c =
    on_ok_weaker c.note_all.result
    (λ put. heard_all c.args.servient.now.exposed.site (event_at c.args.notes.now.world.moment c.args.what c.args.bytes.now) c.args.servient.now c.step.new.self
    (g.R.Handlers.slots c.args.rack.now) (g.R.Handlers.slots c.step.new.rack) (net_seen c.in_ok-net.net) (net_seen c.step.new.net) _ c.acts.result.now
    (noted_of c.args.notes.now.world) (noted_of c.note_all.new.notes.world) c.in_ok-net.ensures.history (c.in_ok-net.ensures.left c.new-2.ensures) c.step.ensures.step
    (c.acts.ensures.tells (sym c.lost.ensures ∙ c.if-lost-ne0.false)) c.acts.ensures.told put)
    c.note_all.ensures.noted

pub returns-clause-fault : goal.returns-clause-fault
returns-clause-fault g c =
    on_error c.note_all.result
    (inl (stepped c.args.servient.now.exposed.site (event_at c.args.notes.now.world.moment c.args.what c.args.bytes.now) c.args.servient.now c.step.new.self
    (g.R.Handlers.slots c.args.rack.now) (g.R.Handlers.slots c.step.new.rack) (net_seen c.in_ok-net.net) (net_seen c.step.new.net) c.step.ensures.step))
