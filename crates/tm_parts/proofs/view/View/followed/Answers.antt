use Rattle.std.proofs.Common.{[], ap, sym, ◌∙◌}
use Rattle.wot_json.specs.Tree.{Json}
use Rattle.tm_parts.specs.Substitution.{substituted_value}
use Rattle.tm_parts.specs.Views.{values_in}
use Rattle.tm_parts.proofs.Unread.{text_without_values}
use Rattle.tm_parts.proofs.Seen.{seen_through, seen_in_pieces}
use Rattle.wot_json.specs.declared.tree.Tree.TheVariants as tree
use Rattle.tm_parts.proofs.view.View.followed.Goals as goal

pub returns-in-Some-clause-same : goal.returns-in-Some-clause-same
returns-in-Some-clause-same c =
    seen_through c.args.self.tree.now c.in-Some.tree.now c.as_str.result.now (values_in c.args.self.values)
    (c.in-Text.is ∙ ap tree.Text (sym c.as_str.ensures)) c.in-Some.ensures

pub returns-in-Some-clause-text : goal.returns-in-Some-clause-text
returns-in-Some-clause-text c =
    λ text is. ap (λ (v : Json). substituted_value v []) is ∙ text_without_values text

pub returns-in-None-clause-text : goal.returns-in-None-clause-text
returns-in-None-clause-text c =
    λ text is. seen_in_pieces c.args.self.tree.now c.as_str.result.now text (values_in c.args.self.values)
    (c.in-Text.is ∙ ap tree.Text (sym c.as_str.ensures)) c.in-None.ensures is
