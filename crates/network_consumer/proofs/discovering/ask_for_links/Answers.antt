use Rattle.std.proofs.Common.{◌∙◌, ℕ, List, ap}
use Rattle.wot_consumer.specs.Discovery.{server_url}
use Rattle.network_consumer.specs.Deeds.{sight}
use Rattle.network_consumer.proofs.AskingLaws.{discovered_nothing}
use Rattle.network_consumer.proofs.discovering.ask_for_links.Goals as goal

pub ask_server-requires-clause-server : goal.ask_server-requires-clause-server
ask_server-requires-clause-server g c = c.as_str-in-Ok.ensures ∙ c.in-Ok.ensures ∙ ap (λ (host : List ℕ). server_url host c.args.request.now.port) c.as_str.ensures

pub returns-in-Err : goal.returns-in-Err
returns-in-Err g c = discovered_nothing _ (sight (g.N.Net.seen c.args.net.now) (g.O.Out.seen c.args.out.now))
