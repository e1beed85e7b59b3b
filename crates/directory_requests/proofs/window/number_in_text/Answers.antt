use Rattle.std.proofs.Common.{rules, ◌≡◌, true, subst}
use Rattle.std.specs.Prelude.{Result, Err, None}
use Rattle.std.specs.Str.Parse.{ParsesUnsigned}
use Rattle.directory_requests.specs.Window.{is_number, number_in}
use Rattle.directory_requests.proofs.DigitLaws.{no_fault}
use Rattle.directory_requests.proofs.window.number_in_text.Goals as goal

pub returns-in-Err : goal.returns-in-Err
returns-in-Err c =
    absurd (no_fault c.args.text.now c.in-Err.field-0 (subst (λ (r : _). ParsesUnsigned 32 10 c.args.text.now r) c.in-Err.is c.parse.ensures.value.0) (search rules))
