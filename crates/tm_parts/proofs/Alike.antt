-- Values that bind alike take the places of placeholders alike.
use Rattle.std.proofs.Common.{◌≡◌, ℕ, ◌+◌, List, [], ◌∷◌, ◌++◌, map, refl, ap}
use Rattle.std.specs.Prelude.{Option, Some, None, unwrap_or}
use Rattle.std.specs.List.{flat_map}
use Rattle.wot_json.specs.Tree.{Json, null, boolean, integer, string, array, object, Elements, no_elements, element, Members, no_members, member}
use Rattle.wot_json.specs.Places.{step_text, element_step_text}
use Rattle.tm_parts.specs.Placeholders.{Piece, plain, placeholder, placeholder_text, sole_placeholder, pieces}
use Rattle.tm_parts.specs.Substitution.{Values, bound_value, put_text, put_faults, piece_text, piece_faults, substituted_value, substituted_elements, substituted_members, faults_inside, name_faults, faults_of, element_faults, member_faults}
use Rattle.tm_parts.specs.Views.{BindAlike}
use Rattle.tm_parts.specs.declared.substitution.PartFault.{PartFault}

-- a piece becomes the same
piece_texts_alike : (a b : Values) → BindAlike a b → (p : Piece) → piece_text a p ≡ piece_text b p
piece_texts_alike a b alike (plain byte) = refl
piece_texts_alike a b alike (placeholder name) = ap (λ (v : Option Json). elim v as (λ _. List ℕ) [ None ↦ placeholder_text name | Some v ↦ put_text v ]) (alike name)

-- and has the same faults
piece_faults_alike : (a b : Values) → BindAlike a b → (p : Piece) → piece_faults a p ≡ piece_faults b p
piece_faults_alike a b alike (plain byte) = refl
piece_faults_alike a b alike (placeholder name) = ap (λ (v : Option Json). elim v as (λ _. List PartFault) [ None ↦ [] | Some v ↦ put_faults name v ]) (alike name)

-- so do all pieces
all_texts_alike : (a b : Values) → BindAlike a b → (ps : List Piece) → flat_map (piece_text a) ps ≡ flat_map (piece_text b) ps
all_texts_alike a b alike [] = refl
all_texts_alike a b alike (p ∷ ps) = λ i. piece_texts_alike a b alike p i ++ all_texts_alike a b alike ps i

all_faults_alike : (a b : Values) → BindAlike a b → (ps : List Piece) → flat_map (piece_faults a) ps ≡ flat_map (piece_faults b) ps
all_faults_alike a b alike [] = refl
all_faults_alike a b alike (p ∷ ps) = λ i. piece_faults_alike a b alike p i ++ all_faults_alike a b alike ps i

-- a text, by whether it is one placeholder
sole_alike : (a b : Values) → BindAlike a b → (text : List ℕ) (sole : Option (List ℕ))
    → ◌≡◌ {A = Json} (elim sole as (λ _. Json) [ None ↦ string (flat_map (piece_text a) (pieces text)) | Some name ↦ unwrap_or (bound_value name a) (string text) ])
    (elim sole as (λ _. Json) [ None ↦ string (flat_map (piece_text b) (pieces text)) | Some name ↦ unwrap_or (bound_value name b) (string text) ])
sole_alike a b alike text None = ap (λ (s : List ℕ). string s) (all_texts_alike a b alike (pieces text))
sole_alike a b alike text (Some name) = ap (λ (v : Option Json). unwrap_or v (string text)) (alike name)

sole_faults_alike : (a b : Values) → BindAlike a b → (text : List ℕ) (sole : Option (List ℕ))
    → ◌≡◌ {A = List PartFault} (elim sole as (λ _. List PartFault) [ None ↦ flat_map (piece_faults a) (pieces text) | Some name ↦ [] ])
    (elim sole as (λ _. List PartFault) [ None ↦ flat_map (piece_faults b) (pieces text) | Some name ↦ [] ])
sole_faults_alike a b alike text None = all_faults_alike a b alike (pieces text)
sole_faults_alike a b alike text (Some name) = refl

-- a value becomes the same
mutual
  pub values_alike : (v : Json) (a b : Values) → BindAlike a b → substituted_value v a ≡ substituted_value v b
  values_alike null a b alike = refl
  values_alike (boolean t) a b alike = refl
  values_alike (integer z) a b alike = refl
  values_alike (string s) a b alike = sole_alike a b alike s (sole_placeholder (pieces s))
  values_alike (array es) a b alike = ap (λ (xs : Elements). array xs) (elements_alike es a b alike)
  values_alike (object ms) a b alike = ap (λ (xs : Members). object xs) (members_alike ms a b alike)

  pub elements_alike : (es : Elements) (a b : Values) → BindAlike a b → substituted_elements es a ≡ substituted_elements es b
  elements_alike no_elements a b alike = refl
  elements_alike (element v es) a b alike = λ i. element (values_alike v a b alike i) (elements_alike es a b alike i)

  pub members_alike : (ms : Members) (a b : Values) → BindAlike a b → substituted_members ms a ≡ substituted_members ms b
  members_alike no_members a b alike = refl
  members_alike (member n v ms) a b alike = λ i. member n (values_alike v a b alike i) (members_alike ms a b alike i)

-- and has the same faults
mutual
  pub faults_alike : (v : Json) (a b : Values) → BindAlike a b → faults_of v a ≡ faults_of v b
  faults_alike null a b alike = refl
  faults_alike (boolean t) a b alike = refl
  faults_alike (integer z) a b alike = refl
  faults_alike (string s) a b alike = sole_faults_alike a b alike s (sole_placeholder (pieces s))
  faults_alike (array es) a b alike = element_faults_alike 0 es a b alike
  faults_alike (object ms) a b alike = ap (λ (fs : List PartFault). name_faults ms ++ fs) (member_faults_alike ms a b alike)

  pub element_faults_alike : (index : ℕ) (es : Elements) (a b : Values) → BindAlike a b → element_faults index es a ≡ element_faults index es b
  element_faults_alike index no_elements a b alike = refl
  element_faults_alike index (element v es) a b alike = λ i. map (faults_inside (element_step_text index)) (faults_alike v a b alike i) ++ element_faults_alike (index + 1) es a b alike i

  pub member_faults_alike : (ms : Members) (a b : Values) → BindAlike a b → member_faults ms a ≡ member_faults ms b
  member_faults_alike no_members a b alike = refl
  member_faults_alike (member n v ms) a b alike = λ i. map (faults_inside (step_text n)) (faults_alike v a b alike i) ++ member_faults_alike ms a b alike i
