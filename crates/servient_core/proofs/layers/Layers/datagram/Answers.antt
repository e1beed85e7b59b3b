use Rattle.std.proofs.Common.{◌∷◌, [], List, ℕ, refl, subst, arith, ◌∙◌}
use Rattle.std.specs.Prelude.{Option}
use Rattle.coap_opts.specs.AskSeen.{ask_seen}
use Rattle.coap_bind.specs.Server.{Answers}
use Rattle.coap_bind.proofs.LengthLaws.{replies_fit}
use Rattle.servient_outside.specs.declared.net.Act.TheVariants as act
use Rattle.servient_outside.specs.Network.{NetShows, did}
use Rattle.servient_trace.specs.Trace.{outside}
use Rattle.servient_core.proofs.PartLaws.{receives_long, heard_nothing, heard_at_once, heard_asked}
use Rattle.servient_core.proofs.DeliverLaws.{ready_after}
use Rattle.servient_core.proofs.PathLaws.{asked_short}
use Rattle.servient_core.proofs.layers.Layers.datagram.Goals as goal

pub returns-then-bytes-gt-LONGEST_DATAGRAM : goal.returns-then-bytes-gt-LONGEST_DATAGRAM
returns-then-bytes-gt-LONGEST_DATAGRAM g c = record {
  refines = receives_long c.args.self.now.exposed.site c.args.from c.args.bytes.now c.args.self.now
      (outside (g.N.Net.seen c.args.net.now) (g.R.Handlers.slots c.args.rack.now)) c.if-bytes-gt-LONGEST_DATAGRAM.true;
  ready = c.requires.ready;
  site = refl;
}

pub answer-size-requires-clause-code : goal.answer-size-requires-clause-code
answer-size-requires-clause-code g c =
    let heard = c.in-Ask.ensures.ok in
    (c.perform-outcome.ensures.sendable
    (asked_short c.args.from c.args.bytes.now c.args.self.now.moment heard.heard c.args.self.now.coap c.datagram.new.self (ask_seen c.in-Ask.ask) c.in-Ask.ticket heard.hears heard.tells.0)).0

pub answer-size-requires-clause-room : goal.answer-size-requires-clause-room
answer-size-requires-clause-room g c =
    let heard = c.in-Ask.ensures.ok in
    replies_fit c.in-Ask.ticket c.perform-outcome.result _ c.datagram.new.self c.in-Ask.ensures.ticket
    (c.perform-outcome.ensures.sendable
    (asked_short c.args.from c.args.bytes.now c.args.self.now.moment heard.heard c.args.self.now.coap c.datagram.new.self (ask_seen c.in-Ask.ask) c.in-Ask.ticket heard.hears heard.tells.0)).1

pub returns-in-Nothing : goal.returns-in-Nothing
returns-in-Nothing g c =
    let heard = c.in-Nothing.ensures.ok in
    record {
      refines = heard_nothing c.args.self.now.exposed.site c.args.from c.args.bytes.now c.args.self.now c.datagram.new.self
          (outside (g.N.Net.seen c.args.net.now) (g.R.Handlers.slots c.args.rack.now)) heard.heard (omega (arith, c.if-bytes-gt-LONGEST_DATAGRAM.false)) heard.hears heard.tells.0;
      ready = record { pending = c.requires.ready.pending; moment = c.in-Nothing.ensures.moment; clock = c.requires.ready.clock; room = c.requires.ready.room };
      site = refl;
    }

pub returns-in-Send : goal.returns-in-Send
returns-in-Send g c =
    let heard = c.in-Send.ensures.ok in
    record {
      refines = heard_at_once c.args.self.now.exposed.site c.args.from c.args.bytes.now heard.tells.0 c.args.self.now c.datagram.new.self
          (g.N.Net.seen c.args.net.now) (g.N.Net.seen c.datagram-in-Send.new.self) (g.R.Handlers.slots c.args.rack.now) heard.heard
          (omega (arith, c.if-bytes-gt-LONGEST_DATAGRAM.false)) heard.hears heard.tells.1
          (subst (λ (sent : List ℕ). NetShows (g.N.Net.seen c.args.net.now) (g.N.Net.seen c.datagram-in-Send.new.self) (did (act.Datagram c.args.from sent) ∷ []))
          heard.tells.2.front c.datagram-in-Send.ensures);
      ready = record { pending = c.requires.ready.pending; moment = c.in-Send.ensures.moment; clock = c.requires.ready.clock; room = c.requires.ready.room };
      site = refl;
    }

pub returns-in-Ask : goal.returns-in-Ask
returns-in-Ask g c =
    let heard = c.in-Ask.ensures.ok in
    let replied = c.answer-size.ensures.ok in
    let k = c.args.self.now in
    let e = c.perform-outcome.new.exposed in
    let performed = c.perform-outcome.ensures.performed in
    let after = g.R.Handlers.slots c.perform-outcome.new.rack in
    let m = g.N.Net.seen c.datagram-in-Ask.new.self in
    record {
      refines = heard_asked k.exposed.site c.args.from c.args.bytes.now replied.bytes (ask_seen c.in-Ask.ask) c.in-Ask.ticket c.perform-outcome.result
          k c.deliver.new.self e c.datagram.new.self c.answer-size.new.self (g.N.Net.seen c.args.net.now) m (g.R.Handlers.slots c.args.rack.now) after
          (outside (g.N.Net.seen c.deliver.new.net) after) heard.heard performed
          (omega (arith, c.if-bytes-gt-LONGEST_DATAGRAM.false)) heard.hears heard.tells.0 refl
          (subst (λ (target : Option ℕ). Answers c.in-Ask.ticket c.perform-outcome.result target replied.bytes c.datagram.new.self c.answer-size.new.self) c.observed_by-target.ensures replied.answers)
          (subst (λ (sent : List ℕ). NetShows (g.N.Net.seen c.args.net.now) m (did (act.Datagram c.args.from sent) ∷ [])) replied.written.front c.datagram-in-Ask.ensures)
          (c.deliver.ensures.delivered after);
      ready = ready_after (record k { exposed = e; coap = c.answer-size.new.self }) c.deliver.new.self c.requires.ready.room
          (omega (arith, c.answer-size.ensures.moment, c.in-Ask.ensures.moment)) c.requires.ready.clock c.deliver.ensures.only c.deliver.ensures.pending;
      site = c.deliver.ensures.only.site ∙ performed.site;
    }
