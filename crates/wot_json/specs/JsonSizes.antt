-- A tree of the code nests no deeper than its value: what the kit asks of a `Model` of a type that contains itself. No
-- contract names this.
use Rattle.std.specs.Prelude.{ℕ, ◌≤◌, List, [], ◌∷◌, map}
use Rattle.std.proofs.Common.{arith}
use denote.Param.Weighed.{most}
use Rattle.wot_json.specs.Tree.{nesting, elements_nesting, members_nesting, elements_of, members_of}
use Rattle.wot_json.specs.Meaning.{json_of}
use Rattle.wot_json.specs.declared.tree.Tree.{Tree}
use Rattle.wot_json.specs.declared.tree.Tree.TheVariants as tree
use Rattle.wot_json.specs.declared.tree.Items.TheDeep.{deep-Tree}
use Rattle.wot_json.specs.declared.tree.Items.TheShapes.{weighed-Members-list-at-2}

deep_le : (t : Tree) → deep-Tree t ≤ nesting (json_of t)
deep_le tree.Null = omega arith
deep_le (tree.Bool b) = omega arith
deep_le (tree.Int z) = omega arith
deep_le (tree.Text s) = omega arith
deep_le (tree.List vs) = omega arith
deep_le (tree.Obj ms) = omega arith

pub most_le : (ts : List Tree) → most deep-Tree ts ≤ elements_nesting (elements_of (map json_of ts))
most_le [] = omega arith
most_le (t ∷ ts) = omega (arith, deep_le t, most_le ts)

pub most_member_le : (ms : List (List ℕ × Tree)) → most (λ m. weighed-Members-list-at-2.weight Tree deep-Tree m) ms ≤ members_nesting (members_of (map (λ m. (m.0, json_of m.1)) ms))
most_member_le [] = omega arith
most_member_le (m ∷ ms) = omega (arith, deep_le m.1, most_member_le ms)
