use Rattle.std.proofs.Common.{length}
use Rattle.wot_json.proofs.lookup.+value_at_tokens.Given as goal

abbrev pub decreases-value_at_tokens : goal.decreases-value_at_tokens
decreases-value_at_tokens l = length l.tokens.now
