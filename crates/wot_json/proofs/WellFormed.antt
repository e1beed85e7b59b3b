-- Objects that are well formed.
use Rattle.std.proofs.Common.{ℕ, List, sym, subst}
use Rattle.wot_json.specs.Tree.{Json, object, members_of, AreOrdered}
use Rattle.wot_json.specs.WellFormed.{IsWellFormed, MembersAreWellFormed}
use Rattle.wot_json.proofs.EqualTrees.{listed_members_lem}

pub IsWellFormed-object : (ms : List (List ℕ × Json)) → AreOrdered ms → MembersAreWellFormed (members_of ms) → IsWellFormed (object (members_of ms))
IsWellFormed-object ms ordered each = (subst AreOrdered (sym (listed_members_lem ms)) ordered, each)
