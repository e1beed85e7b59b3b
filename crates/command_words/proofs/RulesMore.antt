-- The rules of names, of which there is one more.
use Rattle.std.proofs.Common.{◌≡◌, ◌∙◌, ◌<◌, ◌+◌, ap, map, take, ◌++◌, ◌∷◌, [], List, ℕ, Bor, length, get_or}
use Rattle.std.proofs.lemmas.List.{take_more, map-append}
use Rattle.clap.specs.Words.{Rule}
use Rattle.command_words.specs.Parts.{texts}

-- the rules of the first of some names, and of the one after them
pub rules_more : (rule : List ℕ → Rule) (names : List (Bor (List ℕ))) (i : ℕ) (d : Bor (List ℕ)) → i < length names
    → map rule (texts (take (i + 1) names)) ≡ map rule (texts (take i names)) ++ rule (get_or names i d).now ∷ []
rules_more rule names i d within =
    ap (λ (front : List (Bor (List ℕ))). map rule (texts front)) (take_more names i d within)
    ∙ ap (map rule) (map-append (λ (s : Bor (List ℕ)). s.now) (take i names) (get_or names i d ∷ []))
    ∙ map-append rule (texts (take i names)) ((get_or names i d).now ∷ [])
