use Rattle.std.proofs.Common.{◌≡◌, ◌+◌, ◌*◌, ◌++◌, drop, map}
use Rattle.wot_json.specs.Tree.{nesting, most_nesting, most_member_nesting}
use Rattle.wot_json.specs.Meaning.{json_of, json_items, json_members}
use Rattle.tm_parts.specs.Substitution.{substituted_value}
use Rattle.tm_parts.proofs.building.+built.Given as goal

-- an element nests no deeper than its list, and a list that is handed on as a whole less than the value that it is
abbrev pub decreases-built : goal.decreases-built
decreases-built l = 2 * nesting (json_of l.tree.now)

abbrev pub decreases-built_items : goal.decreases-built_items
decreases-built_items l = 2 * most_nesting l.items.now + 1

abbrev pub decreases-built_members : goal.decreases-built_members
decreases-built_members l = 2 * most_member_nesting l.members.now + 1

abbrev pub invariant-built_items-loop-item : goal.invariant-built_items-loop-item
invariant-built_items-loop-item l =
    l.built_list ++ map (λ v. substituted_value v l.values) (json_items (drop l.item-index l.list)) ≡ map (λ v. substituted_value v l.values) (json_items l.list)

abbrev pub invariant-built_members-loop-name : goal.invariant-built_members-loop-name
invariant-built_members-loop-name l =
    l.built_list ++ map (λ m. (m.0, substituted_value m.1 l.values)) (json_members (drop l.name-index l.list)) ≡ map (λ m. (m.0, substituted_value m.1 l.values)) (json_members l.list)
