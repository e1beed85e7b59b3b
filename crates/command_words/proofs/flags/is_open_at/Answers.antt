use Rattle.std.proofs.Common.{◌∙◌, ◌-◌, ◌+◌, ◌≡◌, ℕ, take, ap, arith, sym, false}
use Rattle.command_words.specs.Flags.{is_open}
use Rattle.command_words.specs.Parts.{texts}
use Rattle.command_words.proofs.FlagLaws.{open_behind}
use Rattle.command_words.proofs.flags.is_open_at.Goals as goal

pub returns-then-place-gt0 : goal.returns-then-place-gt0
returns-then-place-gt0 c =
    let words = c.args.words.now in
    let one_more : (c.args.place - 1) + 1 ≡ c.args.place = omega (arith, c.if-place-gt0.true) in
    c.awaits_value.ensures ∙ sym (open_behind words (c.args.place - 1) _ (omega (arith, c.requires))) ∙ ap (λ (n : ℕ). is_open false (take n (texts words))) one_more
