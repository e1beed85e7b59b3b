use Rattle.progress_laws.proofs.GoingStreams.{streams_go_on}
use Rattle.progress_laws.proofs.laws.streams_go_on.Goals as goal

pub returns : goal.returns
returns c = streams_go_on
