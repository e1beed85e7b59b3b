use Rattle.std.proofs.Common.{List, ℕ, Bor, ◌∙◌, ap, sym, take, false}
use Rattle.std.specs.List.{take-map}
use Rattle.command_words.specs.Flags.{is_open_but}
use Rattle.command_words.specs.Parts.{texts}
use Rattle.command_words.proofs.flags.is_open_before.Goals as goal

pub returns : goal.returns
returns c =
    c.is_open_after.ensures ∙ ap (λ (x : List (Bor (List ℕ))). is_open_but c.args.other.now false (texts x)) c.split_at.ensures.front
    ∙ ap (is_open_but c.args.other.now false) (sym (take-map (λ (s : Bor (List ℕ)). s.now) c.args.place c.args.words.now))
