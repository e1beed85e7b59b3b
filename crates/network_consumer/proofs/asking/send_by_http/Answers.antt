use Rattle.std.proofs.Common.{ap}
use Rattle.network_consumer.specs.Deeds.{sight}
use Rattle.network_consumer.specs.declared.http_waiting.HttpWaiting.{HttpWaiting}
use Rattle.network_consumer.specs.declared.waiting.Waiting.TheVariants.{Http}
use Rattle.network_consumer.proofs.AskingLaws.{http_sent, not_dialled, dial_memory}
use Rattle.network_consumer.proofs.asking.send_by_http.Goals as goal

pub returns-in-Connected : goal.returns-in-Connected
returns-in-Connected g c =
    http_sent _ _ _ _ _ _ _ (g.N.Net.seen c.args.net.now) (g.N.Net.seen c.dial.new.self) (g.N.Net.seen c.send.new.self) (g.O.Out.seen c.args.out.now) (sight (g.N.Net.seen c.await_end.new.net) (g.O.Out.seen c.await_end.new.out)) c.as_str.ensures (ap (λ (x : HttpWaiting). Http x) c.new.ensures) c.in-Connected.ensures.shows c.send.ensures c.await_end.ensures

pub returns-in-Failed : goal.returns-in-Failed
returns-in-Failed g c = not_dialled _ _ _ _ (g.N.Net.seen c.args.net.now) (g.N.Net.seen c.dial.new.self) (g.O.Out.seen c.args.out.now) c.as_str.ensures c.in-Failed.ensures.shows

pub returns-in-NoMemory : goal.returns-in-NoMemory
returns-in-NoMemory g c = dial_memory _ _ _ _ (g.N.Net.seen c.args.net.now) (g.N.Net.seen c.dial.new.self) (g.O.Out.seen c.args.out.now) c.as_str.ensures c.in-NoMemory.ensures.shows
