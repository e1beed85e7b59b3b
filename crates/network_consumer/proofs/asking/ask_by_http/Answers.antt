use Rattle.network_consumer.proofs.AskingLaws.{http_same}
use Rattle.network_consumer.proofs.asking.ask_by_http.Goals as goal

pub returns-in-Ok : goal.returns-in-Ok
returns-in-Ok g c = http_same _ _ _ _ _ _ _ _ _ c.as_slice.ensures c.in-Ok.ensures c.send_by_http.ensures
