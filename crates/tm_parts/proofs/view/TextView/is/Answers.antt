use Rattle.std.proofs.Common.{ℕ, List, ◌++◌, rules, sym, ap, ◌∙◌}
use Rattle.std.specs.List.{flat_map}
use Rattle.tm_parts.specs.Placeholders.{pieces}
use Rattle.tm_parts.specs.Substitution.{piece_text}
use Rattle.tm_parts.specs.Views.{values_in}
use Rattle.tm_parts.proofs.SeenTexts.{same_after}
use Rattle.tm_parts.proofs.view.TextView.is.Goals as goal

pub loop-rest-preserved : goal.loop-rest-preserved
loop-rest-preserved c =
    let cut = c.in-Some.ensures.cases in (
      same_after _ (flat_map (piece_text (values_in c.args.self.values)) (pieces c.loop-rest.rest.now)) c.first_part.result.0.now
          (flat_map (piece_text (values_in c.args.self.values)) (pieces c.first_part.result.1.now)) c.loop-rest.left.now c.in-Some.more.now
          c.loop-rest.invariant.0 c.first_part.ensures.seen (cut.1.1 ∙ ap (λ (more : List ℕ). c.first_part.result.0.now ++ more) (sym cut.2)),
      search rules,
      search rules,
    )
