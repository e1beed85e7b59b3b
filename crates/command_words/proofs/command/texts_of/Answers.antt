use Rattle.std.proofs.Common.{◌∷◌, [], arith, ℕ, List, ap, subst, sym, ◌∙◌, Bor}
use Rattle.std.specs.Str.{IsUtf8}
use Rattle.std.proofs.lemmas.Grind.{common_steps}
use Rattle.std.proofs.lemmas.List.{map-append}
use Rattle.std.proofs.lemmas.List.Elements.{All-push}
use Rattle.command_words.specs.Parts.{texts}
use Rattle.command_words.specs.Line.{AreTexts}
use Rattle.command_words.proofs.command.texts_of.Goals as goal

pub loop-word-preserved : goal.loop-word-preserved
loop-word-preserved c =
    let grown = ap texts c.in_ok-push.ensures.items ∙ map-append (λ (s : Bor (List ℕ)). s.now) c.loop-word.all.items (c.as_str.result ∷ []) in
    record {
      same = grind (arith, common_steps);
      text = subst AreTexts (sym grown) (All-push IsUtf8 (texts c.loop-word.all.items) c.as_str.result.now c.loop-word.invariant.text c.as_str.utf8);
    }
