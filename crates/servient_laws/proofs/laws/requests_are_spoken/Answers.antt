use Rattle.servient_laws.proofs.SpokenByCoap.{read_by_coap}
use Rattle.servient_laws.proofs.SpokenByHttp.{read_by_http}
use Rattle.servient_laws.proofs.laws.requests_are_spoken.Goals as goal

pub returns : goal.returns
returns c = λ q can. (read_by_coap q can, read_by_http q can)
