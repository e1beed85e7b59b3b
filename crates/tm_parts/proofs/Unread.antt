-- Two things stay as they are: a value where nothing is bound, and a text that is no bound placeholder.
use Rattle.std.proofs.Common.{◌≡◌, ℕ, zero, suc, ◌+◌, List, [], ◌∷◌, ◌++◌, length, drop, refl, sym, ap, ◌∙◌, arith}
use Rattle.std.specs.Prelude.{Option, Some, None, unwrap_or, option_and_then}
use Rattle.std.specs.List.{flat_map}
use Rattle.wot_json.specs.Tree.{Json, null, boolean, integer, string, array, object, Elements, no_elements, element, Members, no_members, member}
use Rattle.tm_parts.specs.Placeholders.{Piece, plain, placeholder, placeholder_text, placeholder_at, pieces_after, pieces, sole_placeholder}
use Rattle.tm_parts.specs.Substitution.{Values, bound_value, piece_text, text_value, substituted_value, substituted_elements, substituted_members}
use Rattle.tm_parts.proofs.Cuts.{placeholder_at_gives}

-- the text of the pieces at a place where a placeholder may begin
text_at : (b : ℕ) (bs : List ℕ) (o : Option (List ℕ)) → placeholder_at (b ∷ bs) ≡ o
    → ((n : ℕ) → flat_map (piece_text []) (pieces_after n bs) ≡ drop n bs)
    → flat_map (piece_text []) (elim o as (λ _. List Piece) [ None ↦ plain b ∷ pieces_after 0 bs | Some name ↦ placeholder name ∷ pieces_after (length name + 3) bs ]) ≡ b ∷ bs
text_at b bs None is rest = ap (λ (xs : List ℕ). b ∷ xs) (rest 0)
text_at b bs (Some name) is rest =
    let count : length name + 4 ≡ suc (length name + 3) = omega arith in
    ap (λ (xs : List ℕ). placeholder_text name ++ xs) (rest (length name + 3))
    ∙ ap (λ (n : ℕ). placeholder_text name ++ drop n (b ∷ bs)) (sym count)
    ∙ sym (placeholder_at_gives (b ∷ bs) name is).1

unread_after : (n : ℕ) (bs : List ℕ) → flat_map (piece_text []) (pieces_after n bs) ≡ drop n bs
unread_after zero [] = refl
unread_after (suc n) [] = refl
unread_after (suc n) (b ∷ bs) = unread_after n bs
unread_after zero (b ∷ bs) = text_at b bs (placeholder_at (b ∷ bs)) refl (λ n. unread_after n bs)

-- the pieces of a text are the text
pub unread_text : (text : List ℕ) → flat_map (piece_text []) (pieces text) ≡ text
unread_text text = unread_after 0 text

-- pieces that are no bound placeholder are put together
unbound_pieces : (ps : List Piece) (text : List ℕ) (values : Values) → flat_map (piece_text []) ps ≡ text → option_and_then (λ name. bound_value name values) (sole_placeholder ps) ≡ None
    → elim (sole_placeholder ps) as (λ _. Json) [ None ↦ string (flat_map (piece_text values) ps) | Some name ↦ unwrap_or (bound_value name values) (string text) ] ≡ string (flat_map (piece_text values) ps)
unbound_pieces [] text values is none = refl
unbound_pieces (plain b ∷ ps) text values is none = refl
unbound_pieces (placeholder name ∷ []) text values is none =
    ap (λ (o : Option Json). unwrap_or o (string text)) none
    ∙ ap string (sym is)
    ∙ ap (λ (o : Option Json). string (elim o as (λ _. List ℕ) [ None ↦ placeholder_text name | Some v ↦ elim v as (λ _. List ℕ) [ null ↦ [] | boolean b ↦ [] | integer z ↦ [] | string s ↦ s | array es ↦ [] | object ms ↦ [] ] ] ++ [])) (sym none)
unbound_pieces (placeholder name ∷ p ∷ ps) text values is none = refl

-- a text that is no bound placeholder is put together from its pieces
pub unbound_text : (text : List ℕ) (values : Values) → option_and_then (λ name. bound_value name values) (sole_placeholder (pieces text)) ≡ None → text_value text values ≡ string (flat_map (piece_text values) (pieces text))
unbound_text text values none = unbound_pieces (pieces text) text values (unread_text text) none

pub built_unbound : (text filled : List ℕ) (values : Values) → None ≡ option_and_then (λ name. bound_value name values) (sole_placeholder (pieces text)) → filled ≡ flat_map (piece_text values) (pieces text)
    → string filled ≡ text_value text values
built_unbound text filled values none is = ap string is ∙ sym (unbound_text text values (sym none))

-- one that is a bound placeholder is the value
bound_choice : (o : Option (List ℕ)) (text filled : List ℕ) (values : Values) (v : Json) → option_and_then (λ name. bound_value name values) o ≡ Some v
    → elim o as (λ _. Json) [ None ↦ string filled | Some name ↦ unwrap_or (bound_value name values) (string text) ] ≡ v
bound_choice None text filled values v is = absurd (cc)
bound_choice (Some name) text filled values v is = ap (λ (o : Option Json). unwrap_or o (string text)) is

pub bound_text : (text : List ℕ) (values : Values) (v : Json) → option_and_then (λ name. bound_value name values) (sole_placeholder (pieces text)) ≡ Some v → text_value text values ≡ v
bound_text text values v is = bound_choice (sole_placeholder (pieces text)) text (flat_map (piece_text values) (pieces text)) values v is

nothing_bound : (o : Option (List ℕ)) → option_and_then (λ name. bound_value name []) o ≡ None
nothing_bound None = refl
nothing_bound (Some name) = refl

-- a text where nothing is bound
pub text_without_values : (text : List ℕ) → text_value text [] ≡ string (flat_map (piece_text []) (pieces text))
text_without_values text = unbound_text text [] (nothing_bound (sole_placeholder (pieces text)))

-- where nothing is bound each value is itself
mutual
  pub unread_value : (v : Json) → substituted_value v [] ≡ v
  unread_value null = refl
  unread_value (boolean b) = refl
  unread_value (integer z) = refl
  unread_value (string s) = text_without_values s ∙ ap string (unread_text s)
  unread_value (array es) = ap array (unread_elements es)
  unread_value (object ms) = ap object (unread_members ms)

  pub unread_elements : (es : Elements) → substituted_elements es [] ≡ es
  unread_elements no_elements = refl
  unread_elements (element v es) = ap (λ (u : Json). element u (substituted_elements es [])) (unread_value v) ∙ ap (λ (us : Elements). element v us) (unread_elements es)

  pub unread_members : (ms : Members) → substituted_members ms [] ≡ ms
  unread_members no_members = refl
  unread_members (member n v ms) = ap (λ (u : Json). member n u (substituted_members ms [])) (unread_value v) ∙ ap (λ (us : Members). member n v us) (unread_members ms)
