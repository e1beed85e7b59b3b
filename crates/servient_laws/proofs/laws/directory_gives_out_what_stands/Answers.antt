use Rattle.servient_laws.proofs.DirectoryLaws.{directory_gives_out_what_stands}
use Rattle.servient_laws.proofs.laws.directory_gives_out_what_stands.Goals as goal

pub returns : goal.returns
returns c = directory_gives_out_what_stands
