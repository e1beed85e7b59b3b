use Rattle.directory_requests.proofs.DigitLaws.{no_number}
use Rattle.directory_requests.proofs.window.number_in.Goals as goal

pub returns-in-Err : goal.returns-in-Err
returns-in-Err c = no_number c.args.text.now c.in-Err.ensures.cases.0
