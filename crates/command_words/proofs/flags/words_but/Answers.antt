use Rattle.std.proofs.Common.{◌∙◌, ◌+◌, ◌-◌, ◌≡◌, ◌++◌, ◌≤◌, [], ap, ap₂, take, drop, length, List, ℕ, Bor, sym, arith}
use Rattle.std.proofs.lemmas.List.{map-append, take_all, length-drop}
use Rattle.std.specs.List.{take-map, drop-map}
use Rattle.command_words.specs.Parts.{texts}
use Rattle.command_words.proofs.flags.words_but.Goals as goal

pub returns : goal.returns
returns c =
    let words = c.args.words.now in
    let place = c.args.place in
    let behind : take (length words - (place + 1)) (drop (place + 1) words) ≡ drop (place + 1) words = take_all (length words - (place + 1)) (drop (place + 1) words) (omega (arith, length-drop (place + 1) words)) in
    let all = c.in_ok-extend_from_slice-2.ensures.items
    ∙ ap₂ (λ (x y : List (Bor (List ℕ))). x ++ y) (c.in_ok-extend_from_slice.ensures.items ∙ ap (λ (x : List (Bor (List ℕ))). x ++ take place words) c.new-rest.ensures.items) behind in
    ap texts all ∙ map-append (λ (s : Bor (List ℕ)). s.now) (take place words) (drop (place + 1) words)
    ∙ ap₂ (λ (x y : List (List ℕ)). x ++ y) (sym (take-map (λ (s : Bor (List ℕ)). s.now) place words)) (sym (drop-map (λ (s : Bor (List ℕ)). s.now) (place + 1) words))
