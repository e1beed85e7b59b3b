use Rattle.std.proofs.Common.{◌∙◌, List, ℕ, refl, sym, subst, arith, ap}
use Rattle.servient_base.specs.Moves.{Each, Refines}
use Rattle.thing_ops.specs.Requests.{request_seen}
use Rattle.thing_site.specs.Site.{Site}
use Rattle.thing_site.specs.Fits.{Fits}
use Rattle.coap_exchange.specs.Table.{Table}
use Rattle.servient_trace.specs.Trace.{outside, Shows}
use Rattle.servient_core.specs.Machine.{Delivers}
use Rattle.servient_core.specs.Serving.{StandsFor}
use Rattle.servient_core.proofs.PartLaws.{others_keep, refines_by_http}
use Rattle.servient_core.proofs.LoopLaws.{others_then, others_all}
use Rattle.servient_core.proofs.ConnectionLaws.{takes_nothing, takes_continue, takes_fault, takes_unread, takes_interruption, takes_request}
use Rattle.servient_core.proofs.layers.Layers.take.Goals as goal

pub returns-in-Idle-clause-takes : goal.returns-in-Idle-clause-takes
returns-in-Idle-clause-takes g c =
    takes_nothing c.args.c c.args.self.now c.next.new.self (outside (g.N.Net.seen c.args.net.now) (g.R.Handlers.slots c.args.rack.now)) c.in-Idle.ensures.gives.0

pub returns-in-Idle-clause-left : goal.returns-in-Idle-clause-left
returns-in-Idle-clause-left g c = others_keep c.args.c c.args.self.now.http c.next.new.self c.in-Idle.ensures.others

pub returns-in-Continue-clause-takes : goal.returns-in-Continue-clause-takes
returns-in-Continue-clause-takes g c =
    takes_continue c.args.self.now.exposed.site c.args.c c.args.self.now c.next.new.self c.send_continue.new.http (g.N.Net.seen c.args.net.now) (g.N.Net.seen c.send_continue.new.net)
    (g.R.Handlers.slots c.args.rack.now) c.in-Continue.ensures.gives.0 c.send_continue.ensures.continued

pub returns-in-Continue-clause-left : goal.returns-in-Continue-clause-left
returns-in-Continue-clause-left g c =
    others_then c.args.c c.args.self.now.http c.next.new.self c.send_continue.new.http (others_keep c.args.c c.args.self.now.http c.next.new.self c.in-Continue.ensures.others)
    (others_all c.args.c c.next.new.self c.send_continue.new.http c.send_continue.ensures.left)

pub returns-in-Continue-clause-less : goal.returns-in-Continue-clause-less
returns-in-Continue-clause-less g c = λ more. omega (arith, c.in-Continue.ensures.less, c.send_continue.ensures.left c.args.c)

pub returns-in-Refuse-clause-takes : goal.returns-in-Refuse-clause-takes
returns-in-Refuse-clause-takes g c =
    takes_fault c.args.self.now.exposed.site c.args.c c.in-Refuse.status c.args.self.now c.next.new.self c.refuse.new.http (g.N.Net.seen c.args.net.now)
    (g.N.Net.seen c.refuse.new.net) (g.R.Handlers.slots c.args.rack.now) c.in-Refuse.ensures.gives.0 c.refuse.ensures.refused

pub returns-in-Refuse-clause-left : goal.returns-in-Refuse-clause-left
returns-in-Refuse-clause-left g c =
    others_then c.args.c c.args.self.now.http c.next.new.self c.refuse.new.http (others_keep c.args.c c.args.self.now.http c.next.new.self c.in-Refuse.ensures.others)
    (others_all c.args.c c.next.new.self c.refuse.new.http c.refuse.ensures.left)

pub returns-in-Close-clause-takes : goal.returns-in-Close-clause-takes
returns-in-Close-clause-takes g c =
    takes_interruption c.args.self.now.exposed.site c.args.c c.args.self.now c.next.new.self (g.N.Net.seen c.args.net.now) (g.N.Net.seen c.close.new.self)
    (g.R.Handlers.slots c.args.rack.now) c.in-Close.ensures.gives.0 c.close.ensures

pub returns-in-Close-clause-left : goal.returns-in-Close-clause-left
returns-in-Close-clause-left g c = others_keep c.args.c c.args.self.now.http c.next.new.self c.in-Close.ensures.others

pub returns-in-Memory-clause-takes : goal.returns-in-Memory-clause-takes
returns-in-Memory-clause-takes g c =
    let asked = c.in-Memory.ensures.gives in
    takes_unread c.args.self.now.exposed.site c.args.c asked.0 c.args.self.now c.next.new.self c.answer.new.http (g.N.Net.seen c.args.net.now) (g.N.Net.seen c.answer.new.net)
    (g.R.Handlers.slots c.args.rack.now) asked.1.0 c.answer.ensures.answered

pub returns-in-Memory-clause-left : goal.returns-in-Memory-clause-left
returns-in-Memory-clause-left g c =
    others_then c.args.c c.args.self.now.http c.next.new.self c.answer.new.http (others_keep c.args.c c.args.self.now.http c.next.new.self c.in-Memory.ensures.others)
    (others_all c.args.c c.next.new.self c.answer.new.http c.answer.ensures.left)

pub returns-in-Memory-clause-less : goal.returns-in-Memory-clause-less
returns-in-Memory-clause-less g c = λ more. omega (arith, c.in-Memory.ensures.less, c.answer.ensures.left c.args.c)

pub returns-in-Ask-clause-takes : goal.returns-in-Ask-clause-takes
returns-in-Ask-clause-takes g c =
    let asked = c.in-Ask.ensures.gives in
    let made = c.perform_by_http-outcome.ensures in
    let k = c.args.self.now in
    let q = request_seen c.in-Ask.request in
    let e = c.perform_by_http-outcome.new.exposed in
    let f = c.perform_by_http-outcome.new.directory in
    let before = g.R.Handlers.slots c.args.rack.now in
    let after = g.R.Handlers.slots c.perform_by_http-outcome.new.rack in
    let n = g.N.Net.seen c.args.net.now in
    let m = g.N.Net.seen c.answer-in-Ask.new.net in
    let v = outside (g.N.Net.seen c.deliver.new.net) after in
    takes_request k.exposed.site c.args.c q made.done c.perform_by_http-outcome.result k c.deliver.new.self c.next.new.self c.answer-in-Ask.new.http
    e f n m before after v asked.0
    (refines_by_http k.exposed.site q c.perform_by_http-outcome.result (record k { http = c.next.new.self }) e f n before after made refl)
    made.outcome c.answer-in-Ask.ensures.answered
    (subst (λ (ts : List ℕ). Refines StandsFor Shows (Each Delivers ts) (record k { http = c.answer-in-Ask.new.http; exposed = e; directory = f }) c.deliver.new.self (outside m after) v)
    made.pending (c.deliver.ensures.delivered after))

pub returns-in-Ask-clause-on : goal.returns-in-Ask-clause-on
returns-in-Ask-clause-on g c =
    let made = c.perform_by_http-outcome.ensures in
    let only = c.deliver.ensures.only in
    record {
      connection = c.requires.on.connection;
      pending = c.deliver.ensures.pending;
      moment = omega (arith, c.requires.on.moment, only.moment, ap (λ (x : Table). x.moment) only.exchanges);
      clock = omega (arith, c.requires.on.clock, only.moment);
      fits = subst (λ (site : Site). Fits site (g.R.Handlers.slots c.perform_by_http-outcome.new.rack)) (sym only.site) (made.fits c.requires.on.fits);
    }

pub returns-in-Ask-clause-site : goal.returns-in-Ask-clause-site
returns-in-Ask-clause-site g c = c.deliver.ensures.only.site ∙ c.perform_by_http-outcome.ensures.site

pub returns-in-Ask-clause-left : goal.returns-in-Ask-clause-left
returns-in-Ask-clause-left g c =
    others_then c.args.c c.args.self.now.http c.next.new.self c.deliver.new.self.http (others_keep c.args.c c.args.self.now.http c.next.new.self c.in-Ask.ensures.others)
    (others_then c.args.c c.next.new.self c.answer-in-Ask.new.http c.deliver.new.self.http (others_all c.args.c c.next.new.self c.answer-in-Ask.new.http c.answer-in-Ask.ensures.left)
    (others_all c.args.c c.answer-in-Ask.new.http c.deliver.new.self.http c.deliver.ensures.only.left))

pub returns-in-Ask-clause-less : goal.returns-in-Ask-clause-less
returns-in-Ask-clause-less g c = λ more. omega (arith, c.in-Ask.ensures.less, c.answer-in-Ask.ensures.left c.args.c, c.deliver.ensures.only.left c.args.c)
