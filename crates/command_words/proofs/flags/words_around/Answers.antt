use Rattle.std.proofs.Common.{List, ℕ, ◌≡◌, ◌<◌, ◌∙◌, None, ap, subst, sym, length}
use Rattle.std.proofs.lemmas.List.{length-map}
use Rattle.command_words.specs.Parts.{texts}
use Rattle.command_words.specs.Line.{AreTexts}
use Rattle.command_words.specs.Words.{arguments_after}
use Rattle.command_words.proofs.FlagLaws.{place_is_in, texts_around, around_closed, around_open}
use Rattle.command_words.proofs.flags.words_around.Goals as goal

pub is_open_at-requires : goal.is_open_at-requires
is_open_at-requires c = subst (λ (n : ℕ). c.args.place < n) (length-map c.args.words.now (λ s. s.now)) (place_is_in c.requires.place.0 (texts c.args.words.now) c.args.place c.requires.place.1).0

pub words_but-requires : goal.words_but-requires
words_but-requires c = subst (λ (n : ℕ). c.args.place < n) (length-map c.args.words.now (λ s. s.now)) (place_is_in c.requires.place.0 (texts c.args.words.now) c.args.place c.requires.place.1).0

pub returns-then-is_open_at-clause-arguments : goal.returns-then-is_open_at-clause-arguments
returns-then-is_open_at-clause-arguments c = λ usage. around_open (texts c.args.words.now) c.args.place c.requires.place (sym c.if-is_open_at.ensures)

pub returns-clause-text : goal.returns-clause-text
returns-clause-text c = subst AreTexts (sym c.in_ok-words_but.ensures) (texts_around (texts c.args.words.now) c.args.place c.requires.text)

pub returns-clause-arguments : goal.returns-clause-arguments
returns-clause-arguments c =
    ap (λ (x : List (List ℕ)). arguments_after x None) c.in_ok-words_but.ensures ∙ around_closed (texts c.args.words.now) c.args.place c.requires.place (sym c.if-is_open_at.ensures)
