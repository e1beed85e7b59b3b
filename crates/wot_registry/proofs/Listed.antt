-- The list of the directory, from copies of its entries.
use Rattle.std.proofs.Common.{◌≡◌, ℕ, List, [], ◌∷◌, refl, sym, ap, ◌∙◌}
use Rattle.std.specs.Prelude.{map, take, drop}
use Rattle.std.proofs.lemmas.List.{take-map, drop-map}
use Rattle.wot_json.specs.Tree.{Json}
use Rattle.wot_json.specs.Meaning.{json_of, json_members}
use Rattle.wot_json.specs.declared.tree.Tree.{Tree}
use Rattle.wot_directory.specs.Contents.{Contents}
use Rattle.wot_directory.specs.Directory.{listed}
use Rattle.wot_registry.specs.Times.{Times, times_of}
use Rattle.wot_registry.specs.Registration.{shown}
use Rattle.wot_registry.specs.Registry.{Registered, shown_entries}

abbrev Entry : Type 0
Entry = List ℕ × Json

module _ (g : Entry → Json) where
  copied : (copies : List (List ℕ × Tree)) → map (λ e. g (e.0, json_of e.1)) copies ≡ map g (json_members copies)
  copied [] = refl
  copied (c ∷ cs) = ap (λ (vs : List Json). g (c.0, json_of c.1) ∷ vs) (copied cs)

  values : (es : List Entry) → map (λ (e : Entry). e.1) (map (λ (e : Entry). (e.0, g e)) es) ≡ map g es
  values [] = refl
  values (e ∷ es) = ap (λ (vs : List Json). g e ∷ vs) (values es)

  pub listed_by : (offset limit : ℕ) (es : List Entry) → map g (take limit (drop offset es)) ≡ listed offset limit (map (λ (e : Entry). (e.0, g e)) es)
  listed_by offset limit es =
      sym (ap (λ (xs : List Entry). map (λ (e : Entry). e.1) (take limit xs)) (drop-map (λ (e : Entry). (e.0, g e)) offset es)
      ∙ ap (λ (xs : List Entry). map (λ (e : Entry). e.1) xs) (take-map (λ (e : Entry). (e.0, g e)) limit (drop offset es))
      ∙ values (take limit (drop offset es)))

-- copies of some entries, with their registration information
pub listed_shown : (offset limit : ℕ) (r : Registered) (dir : Contents) (ts : List (List ℕ × Times)) (epoch : ℕ) (copies : List (List ℕ × Tree)) (trees : List Json)
    → record { contents = dir; times = ts; epoch = epoch } ≡ r → json_members copies ≡ take limit (drop offset dir.entries)
    → trees ≡ map (λ e. shown epoch (times_of e.0 ts) (json_of e.1)) copies → trees ≡ listed offset limit (shown_entries r)
listed_shown offset limit r dir ts epoch copies trees is copies_are trees_are =
    let g : Entry → Json = λ e. shown epoch (times_of e.0 ts) e.1 in
    trees_are ∙ copied g copies ∙ ap (λ (es : List Entry). map g es) copies_are ∙ listed_by g offset limit dir.entries
    ∙ ap (λ (x : Registered). listed offset limit (shown_entries x)) is
