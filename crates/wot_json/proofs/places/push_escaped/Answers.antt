use Rattle.std.proofs.Common.{arith, rules}
use Rattle.std.proofs.lemmas.Grind.{common_steps}
use Rattle.wot_json.proofs.Tokens.{token_text-encode}
use Rattle.wot_json.proofs.places.push_escaped.Goals as goal

pub returns-in_default : goal.returns-in_default
returns-in_default c = grind (arith, common_steps, token_text-encode c.args.character (search rules) (search rules))
