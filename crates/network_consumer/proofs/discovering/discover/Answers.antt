use Rattle.network_consumer.specs.Deeds.{sight}
use Rattle.network_consumer.proofs.AskingLaws.{discovered_at, discovered_nothing}
use Rattle.network_consumer.proofs.ChoiceLaws.{links_are_askable}
use Rattle.network_consumer.proofs.discovering.discover.Goals as goal

pub ask_for_links-requires : goal.ask_for_links-requires
ask_for_links-requires g c = links_are_askable c.args.host.now c.args.port _ c.in-Ok.ensures

pub returns-in-Ok : goal.returns-in-Ok
returns-in-Ok g c =
    discovered_at _ _ _ (sight (g.N.Net.seen c.args.net.now) (g.O.Out.seen c.args.out.now)) (sight (g.N.Net.seen c.ask_for_links.new.net) (g.O.Out.seen c.ask_for_links.new.out)) _ c.in-Ok.ensures c.ask_for_links.ensures

pub returns-in-Err : goal.returns-in-Err
returns-in-Err g c = discovered_nothing _ (sight (g.N.Net.seen c.args.net.now) (g.O.Out.seen c.args.out.now))
