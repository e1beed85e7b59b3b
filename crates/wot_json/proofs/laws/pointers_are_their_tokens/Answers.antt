use Rattle.wot_json.proofs.PointerTokens.{pointer-is_pointer, is_pointer-pointer, tokens_in-place}
use Rattle.wot_json.proofs.laws.pointers_are_their_tokens.Goals as goal

pub returns-clause-test : goal.returns-clause-test
returns-clause-test c = λ text. (pointer-is_pointer text, is_pointer-pointer text)

pub returns-clause-tokens : goal.returns-clause-tokens
returns-clause-tokens c = λ tokens. tokens_in-place tokens
