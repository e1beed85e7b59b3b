use Rattle.std.proofs.Common.{◌+◌, ◌*◌}
use Rattle.tm_derive.proofs.optional.+push_optional.Given as goal

abbrev pub decreases-push_optional : goal.decreases-push_optional
decreases-push_optional l = 2 * l.room

abbrev pub decreases-push_base : goal.decreases-push_base
decreases-push_base l = 2 * l.room + 1
