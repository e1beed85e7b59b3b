-- Texts of what is optional, gathered from one model after another.
use Rattle.std.proofs.Common.{◌≡◌, ℕ, ◌-◌, ◌<◌, List, [], ◌++◌, sym, ap, subst, ◌∙◌, append_assoc, map, arith}
use Rattle.std.specs.Prelude.{Option, Result, Ok, Err, zero, suc}
use Rattle.std.specs.List.{flat_map}
use Rattle.std.proofs.lemmas.List.{map-append}
use Rattle.wot_json.specs.Tree.{Json}
use Rattle.wot_json.specs.Meaning.{json_of, json_items}
use Rattle.wot_json.specs.declared.tree.Tree.{Tree}
use Rattle.wot_json.specs.declared.tree.Tree.TheVariants as tree
use Rattle.wot_json.proofs.EqualTrees.{listed_lem}
use Rattle.tm_parts.specs.Sources.{Sources}
use Rattle.tm_resolve.specs.ModelLinks.{optional_part}
use Rattle.tm_derive.specs.Optional.{base_url, entry_texts, faulty_entries, list_faults, list_texts, of_base, optional_faults, optional_texts, part_faults, part_texts}
use Rattle.tm_derive.specs.Refusals.{Gathers, IsRefusal}
use Rattle.tm_derive.specs.declared.fault.DeriveFault.{DeriveFault}
use Rattle.tm_derive.specs.declared.fault.DeriveFault.TheVariants as fault
use Rattle.tm_derive.proofs.Outcomes.{refused_after, refused_before, none_then_none}

-- texts, and then more
gathers_then : (segment : List ℕ) (before middle after texts more faults mores : List (List ℕ)) (r : Result (Unit {0}) DeriveFault)
    → middle ≡ before ++ texts → map (fault.Optional segment) faults ≡ [] → Gathers middle after more (map (fault.Optional segment) mores) r
    → Gathers before after (texts ++ more) (map (fault.Optional segment) (faults ++ mores)) r
gathers_then segment before middle after texts more faults mores (Ok u) first none gathers = (
  gathers.0 ∙ ap (λ (ts : List (List ℕ)). ts ++ more) first ∙ append_assoc before texts more,
  map-append (fault.Optional segment) faults mores ∙ none_then_none (map (fault.Optional segment) faults) (map (fault.Optional segment) mores) none gathers.1,
)
gathers_then segment before middle after texts more faults mores (Err e) first none gathers =
    subst (λ (fs : List DeriveFault). IsRefusal e fs) (sym (map-append (fault.Optional segment) faults mores))
    (refused_after e (map (fault.Optional segment) faults) (map (fault.Optional segment) mores) none gathers)

-- with room for a model, its base comes before itself
texts_with_room : (room : ℕ) (sources : Sources) (url : List ℕ) → 0 < room
    → optional_texts room sources url ≡ of_base (optional_texts (room - 1) sources) (base_url sources url) ++ part_texts (optional_part sources url)
texts_with_room zero sources url some = absurd (omega (arith, some))
texts_with_room (suc room) sources url some =
    let less : suc room - 1 ≡ room = omega arith in
    ap (λ (n : ℕ). of_base (optional_texts n sources) (base_url sources url) ++ part_texts (optional_part sources url)) (sym less)

faults_with_room : (room : ℕ) (sources : Sources) (url : List ℕ) → 0 < room
    → optional_faults room sources url ≡ of_base (optional_faults (room - 1) sources) (base_url sources url) ++ part_faults (optional_part sources url)
faults_with_room zero sources url some = absurd (omega (arith, some))
faults_with_room (suc room) sources url some =
    let less : suc room - 1 ≡ room = omega arith in
    ap (λ (n : ℕ). of_base (optional_faults n sources) (base_url sources url) ++ part_faults (optional_part sources url)) (sym less)

-- the texts of the base were gathered, and then those of the model
pub part_after_base : (segment : List ℕ) (before middle after : List (List ℕ)) (room : ℕ) (sources : Sources) (url : List ℕ) (part : Option Json) (r : Result (Unit {0}) DeriveFault)
    → 0 < room → part ≡ optional_part sources url
    → middle ≡ before ++ of_base (optional_texts (room - 1) sources) (base_url sources url) → map (fault.Optional segment) (of_base (optional_faults (room - 1) sources) (base_url sources url)) ≡ []
    → Gathers middle after (part_texts part) (map (fault.Optional segment) (part_faults part)) r
    → Gathers before after (optional_texts room sources url) (map (fault.Optional segment) (optional_faults room sources url)) r
part_after_base segment before middle after room sources url part r some is first none gathers =
    let own : Gathers middle after (part_texts (optional_part sources url)) (map (fault.Optional segment) (part_faults (optional_part sources url))) r =
    subst (λ (p : Option Json). Gathers middle after (part_texts p) (map (fault.Optional segment) (part_faults p)) r) is gathers in
    let whole = gathers_then segment before middle after (of_base (optional_texts (room - 1) sources) (base_url sources url)) (part_texts (optional_part sources url))
    (of_base (optional_faults (room - 1) sources) (base_url sources url)) (part_faults (optional_part sources url)) r first none own in
    subst (λ (fs : List (List ℕ)). Gathers before after (optional_texts room sources url) (map (fault.Optional segment) fs) r) (sym (faults_with_room room sources url some))
    (subst (λ (ts : List (List ℕ)). Gathers before after ts (map (fault.Optional segment) (of_base (optional_faults (room - 1) sources) (base_url sources url) ++ part_faults (optional_part sources url))) r) (sym (texts_with_room room sources url some)) whole)

-- a refusal in the base is one of the whole
pub base_refused : (segment : List ℕ) (room : ℕ) (sources : Sources) (url : List ℕ) (e : DeriveFault) → 0 < room
    → IsRefusal e (map (fault.Optional segment) (of_base (optional_faults (room - 1) sources) (base_url sources url))) → IsRefusal e (map (fault.Optional segment) (optional_faults room sources url))
base_refused segment room sources url e some refused =
    subst (λ (fs : List (List ℕ)). IsRefusal e (map (fault.Optional segment) fs)) (sym (faults_with_room room sources url some))
    (subst (λ (fs : List DeriveFault). IsRefusal e fs) (sym (map-append (fault.Optional segment) (of_base (optional_faults (room - 1) sources) (base_url sources url)) (part_faults (optional_part sources url))))
    (refused_before e (map (fault.Optional segment) (of_base (optional_faults (room - 1) sources) (base_url sources url))) _ refused))

-- the entries of a list, as it is read
pub entries_gathered : (segment : List ℕ) (before after : List (List ℕ)) (t : Tree) (vs : List Json) (list : List Tree) (r : Result (Unit {0}) DeriveFault) → t ≡ tree.List vs → json_items list ≡ vs
    → Gathers before after (flat_map entry_texts (json_items list)) (map (fault.Optional segment) (faulty_entries 0 (json_items list))) r
    → Gathers before after (list_texts (json_of t)) (map (fault.Optional segment) (list_faults (json_of t))) r
entries_gathered segment before after t vs list r is listed gathers =
    subst (λ (u : Tree). Gathers before after (list_texts (json_of u)) (map (fault.Optional segment) (list_faults (json_of u))) r) (sym is)
    (subst (λ (ws : List Json). Gathers before after (flat_map entry_texts ws) (map (fault.Optional segment) (faulty_entries 0 ws)) r) (listed ∙ sym (listed_lem vs)) gathers)
