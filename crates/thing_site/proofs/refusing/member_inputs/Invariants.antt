use Rattle.std.proofs.Common.{◌≡◌, ◌++◌, List}
use Rattle.std.specs.Prelude.{option_map}
use Rattle.std.specs.Vec.Iter.{into_iter_items, into_iter_len}
use Rattle.std.proofs.Common.{length}
use Rattle.wot_json.specs.Tree.{members_of}
use Rattle.wot_json.specs.Meaning.{json_members}
use Rattle.thing_site.specs.Refusals.{Input, member_inputs}
use Rattle.thing_site.proofs.refusing.member_inputs.Given as goal

abbrev pub invariant-loop-name : goal.invariant-loop-name
invariant-loop-name l =
    (option_map (λ (rest : List Input). l.inputs.items ++ rest) (member_inputs l.thing (members_of (json_members (into_iter_items l.name-iterator))))
    ≡ member_inputs l.thing (members_of l.fn.members))
    × (into_iter_len l.name-iterator ≡ length (into_iter_items l.name-iterator))
