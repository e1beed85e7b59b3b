use Rattle.servient_laws.proofs.CallRuns.{calls_have_requests}
use Rattle.servient_laws.proofs.laws.calls_have_requests.Goals as goal

pub returns : goal.returns
returns c = calls_have_requests
