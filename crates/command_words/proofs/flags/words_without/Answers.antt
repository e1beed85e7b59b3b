use Rattle.std.proofs.Common.{List, ℕ, ◌≡◌, ◌<◌, subst, sym, length}
use Rattle.std.proofs.lemmas.List.{length-map}
use Rattle.command_words.specs.Parts.{texts}
use Rattle.command_words.specs.Line.{AreTexts}
use Rattle.command_words.proofs.FlagLaws.{place_is_in, texts_around}
use Rattle.command_words.proofs.flags.words_without.Goals as goal

pub is_open_before-requires : goal.is_open_before-requires
is_open_before-requires c = subst (λ (n : ℕ). c.args.place < n) (length-map c.args.words.now (λ s. s.now)) (place_is_in c.requires.place.0 (texts c.args.words.now) c.args.place c.requires.place.1).0

pub words_but-requires : goal.words_but-requires
words_but-requires c = subst (λ (n : ℕ). c.args.place < n) (length-map c.args.words.now (λ s. s.now)) (place_is_in c.requires.place.0 (texts c.args.words.now) c.args.place c.requires.place.1).0

pub returns-clause-text : goal.returns-clause-text
returns-clause-text c = subst AreTexts (sym c.in_ok-words_but.ensures) (texts_around (texts c.args.words.now) c.args.place c.requires.text)
