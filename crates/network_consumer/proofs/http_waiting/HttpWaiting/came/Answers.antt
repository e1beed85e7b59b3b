use Rattle.network_consumer.proofs.HearingLaws.{bytes_of_it}
use Rattle.network_consumer.proofs.http_waiting.HttpWaiting.came.Goals as goal

pub returns-in-Bytes : goal.returns-in-Bytes
returns-in-Bytes c = bytes_of_it _ _ _ _ _ _ _ _ c.in-Bytes.is c.if-connection-self.true c.as_slice.ensures c.receive.ensures
