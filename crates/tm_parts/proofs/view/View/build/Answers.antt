use Rattle.std.proofs.Common.{◌≡◌, Bor, ap, sym, ◌∙◌}
use Rattle.std.specs.Prelude.{Option, None, Result, Ok, Err, IfOk}
use Rattle.wot_json.specs.Meaning.{json_of}
use Rattle.wot_json.specs.declared.tree.Tree.{Tree}
use Rattle.tm_parts.specs.Substitution.{Values, substituted_value}
use Rattle.tm_parts.specs.Views.{values_in}
use Rattle.tm_parts.proofs.Unread.{unread_value}
use Rattle.tm_parts.proofs.view.View.build.Goals as goal

-- a copy is what is seen where there are no values
copied : {E : Type 0} (r : Result Tree E) (tree : Tree) (values : Option (Bor Values)) → values ≡ None → IfOk r (λ t. t ≡ tree)
    → IfOk r (λ t. json_of t ≡ substituted_value (json_of tree) (values_in values))
copied (Ok t) tree values none is =
    ap json_of is ∙ sym (unread_value (json_of tree)) ∙ ap (λ (vs : Option (Bor Values)). substituted_value (json_of tree) (values_in vs)) (sym none)
copied (Err e) tree values none is = is

pub returns-in-None : goal.returns-in-None
returns-in-None c = copied c.copy.result c.args.self.tree.now c.args.self.values c.in-None.is c.copy.ensures
