use Rattle.servient_laws.proofs.DialogueMoves.{responses_pair_with_requests}
use Rattle.servient_laws.proofs.laws.responses_pair_with_requests.Goals as goal

pub returns : goal.returns
returns c = responses_pair_with_requests
