-- The value of a view follows from the code's findings.
use Rattle.std.proofs.Common.{◌≡◌, ℕ, ◌+◌, ◌-◌, ◌≤◌, List, [], ◌∷◌, ◌++◌, length, take, refl, sym, ap, subst, ◌∙◌, Bool, true, false, cond, arith, length-append}
use Rattle.std.specs.Prelude.{Option, Some, None, option_map, option_and_then}
use Rattle.std.specs.List.{flat_map}
use Rattle.std.specs.Str.{bytes_eq, IsUtf8, IsCharBoundary}
use Rattle.std.proofs.lemmas.Grind.{flat_map-append}
use Rattle.std.proofs.lemmas.Str.{IsCharBoundary-at_seam}
use Rattle.std.proofs.Math.Seq.{take-append_seam}
use Rattle.wot_json.specs.Tree.{Json, null, boolean, integer, string, array, object, Elements, no_elements, element, Members, no_members, member, members_of}
use Rattle.wot_json.specs.Lookup.{element_list, member_list, member_named}
use Rattle.wot_json.specs.Meaning.{json_of}
use Rattle.wot_json.specs.Places.{index_text}
use Rattle.wot_json.specs.Pointer.{IsPointer, is_pointer, element_at, part_at, value_at, tokens_in, part_of}
use Rattle.wot_json.proofs.EqualTrees.{listed_members_lem}
use Rattle.wot_json.proofs.PointerTokens.{is_pointer-other}
use Rattle.tm_parts.specs.Placeholders.{Piece, placeholder, placeholder_text, pieces, sole_placeholder}
use Rattle.tm_parts.specs.Substitution.{Values, bound_value, put_text, piece_text, substituted_value, substituted_elements, substituted_members}
use Rattle.tm_parts.proofs.Unread.{unbound_text, bound_text, unread_value, unread_text}
use Rattle.wot_json.specs.declared.tree.Tree.{Tree}
use Rattle.wot_json.specs.declared.tree.Tree.TheVariants as tree

-- a text that is a bound placeholder is seen as the value
pub seen_through : (whole value : Tree) (text : List ℕ) (values : Values) → whole ≡ tree.Text text
    → Some (json_of value) ≡ option_and_then (λ name. bound_value name values) (sole_placeholder (pieces text))
    → substituted_value (json_of value) [] ≡ substituted_value (json_of whole) values
seen_through whole value text values is bound =
    unread_value (json_of value) ∙ sym (bound_text text values (json_of value) (sym bound)) ∙ ap (λ (t : Tree). substituted_value (json_of t) values) (sym is)

-- one that isn't is put together from its pieces
pub seen_in_pieces : (whole : Tree) (inside text : List ℕ) (values : Values) → whole ≡ tree.Text inside
    → None ≡ option_and_then (λ name. bound_value name values) (sole_placeholder (pieces inside)) → json_of whole ≡ string text
    → substituted_value (json_of whole) values ≡ string (flat_map (piece_text values) (pieces text))
seen_in_pieces whole inside text values is none seen_is =
    let of_text : string inside ≡ string text = sym (ap (λ (t : Tree). json_of t) is) ∙ seen_is in
    let same : inside ≡ text = cc in
    ap (λ (v : Json). substituted_value v values) seen_is
    ∙ unbound_text text values (ap (λ (xs : List ℕ). option_and_then (λ name. bound_value name values) (sole_placeholder (pieces xs))) (sym same) ∙ sym none)

-- ---- members and elements

seen_choice : (b : Bool) (v : Json) (r : Option Json) (values : Values) → cond b (Some (substituted_value v values)) (option_map (λ u. substituted_value u values) r) ≡ option_map (λ u. substituted_value u values) (cond b (Some v) r)
seen_choice true v r values = refl
seen_choice false v r values = refl

-- a member that is seen is the member, seen
pub member_seen : (name : List ℕ) (ms : Members) (values : Values) → member_named name (member_list (substituted_members ms values)) ≡ option_map (λ u. substituted_value u values) (member_named name (member_list ms))
member_seen name no_members values = refl
member_seen name (member n v ms) values =
    ap (λ (r : Option Json). cond (bytes_eq name n) (Some (substituted_value v values)) r) (member_seen name ms values)
    ∙ seen_choice (bytes_eq name n) v (member_named name (member_list ms)) values

pub listed_member_seen : (name : List ℕ) (ms : List (List ℕ × Json)) (values : Values) (found : Option Json) → found ≡ member_named name ms
    → option_map (λ u. substituted_value u values) found ≡ member_named name (member_list (substituted_members (members_of ms) values))
listed_member_seen name ms values found is =
    ap (option_map (λ u. substituted_value u values)) (is ∙ ap (member_named name) (sym (listed_members_lem ms)))
    ∙ sym (member_seen name (members_of ms) values)

element_seen : (token : List ℕ) (index : ℕ) (es : Elements) (values : Values) → element_at token index (element_list (substituted_elements es values)) ≡ option_map (λ u. substituted_value u values) (element_at token index (element_list es))
element_seen token index no_elements values = refl
element_seen token index (element v es) values =
    ap (λ (r : Option Json). cond (bytes_eq token (index_text index)) (Some (substituted_value v values)) r) (element_seen token (index + 1) es values)
    ∙ seen_choice (bytes_eq token (index_text index)) v (element_at token (index + 1) (element_list es)) values

-- ---- one step

-- a value that is no bound placeholder: a text of it is seen as a text
abbrev pub IsFollowed : Json → Values → Type 0
IsFollowed w values = (text : List ℕ) → w ≡ string text → substituted_value w values ≡ string (flat_map (piece_text values) (pieces text))

part_at_seen : (token : List ℕ) (w : Json) (values : Values) → IsFollowed w values → part_at token (substituted_value w values) ≡ option_map (λ u. substituted_value u values) (part_at token w)
part_at_seen token null values followed = refl
part_at_seen token (boolean b) values followed = refl
part_at_seen token (integer z) values followed = refl
part_at_seen token (string s) values followed = ap (part_at token) (followed s refl)
part_at_seen token (array es) values followed = element_seen token 0 es values
part_at_seen token (object ms) values followed = member_seen token ms values

pub and_then_some : (o : Option Json) → option_and_then (value_at []) o ≡ o
and_then_some None = refl
and_then_some (Some v) = refl

value_at_seen : (tokens : List (List ℕ)) (w : Json) (values : Values) → length tokens ≤ 1 → IsFollowed w values → value_at tokens (substituted_value w values) ≡ option_map (λ u. substituted_value u values) (value_at tokens w)
value_at_seen [] w values one followed = refl
value_at_seen (token ∷ []) w values one followed =
    and_then_some (part_at token (substituted_value w values)) ∙ part_at_seen token w values followed
    ∙ ap (option_map (λ u. substituted_value u values)) (sym (and_then_some (part_at token w)))
value_at_seen (token ∷ other ∷ tokens) w values one followed = absurd (omega (arith, one))

if_seen : (b : Bool) (x y : Option Json) (values : Values) → x ≡ option_map (λ u. substituted_value u values) y → cond b x None ≡ option_map (λ u. substituted_value u values) (cond b y None)
if_seen true x y values is = is
if_seen false x y values is = refl

-- where one step leads in what is seen, from where it leads in the tree
pub step_seen : (step : List ℕ) (w seen' : Json) (values : Values) (part : Option Json) → length (tokens_in step) ≤ 1 → IsFollowed w values → substituted_value w values ≡ seen'
    → part ≡ part_of step w → option_map (λ u. substituted_value u values) part ≡ part_of step seen'
step_seen step w seen' values part one followed same is =
    ap (option_map (λ u. substituted_value u values)) is
    ∙ sym (if_seen (is_pointer step) (value_at (tokens_in step) (substituted_value w values)) (value_at (tokens_in step) w) values (value_at_seen (tokens_in step) w values one followed))
    ∙ ap (part_of step) same

-- a text that is no pointer leads nowhere
pub no_step : (step : List ℕ) (w : Json) → ¬ IsPointer step → None ≡ part_of step w
no_step step w other = sym (ap (λ (b : Bool). cond b (value_at (tokens_in step) w) None) (is_pointer-other step other))

-- ---- pieces

-- the view of a text, from its first pieces on
pub seen_cut : (values : Values) (text rest : List ℕ) (ps : List Piece) (shown : List ℕ) → pieces text ≡ ps ++ pieces rest → flat_map (piece_text values) ps ≡ shown
    → flat_map (piece_text values) (pieces text) ≡ shown ++ flat_map (piece_text values) (pieces rest)
seen_cut values text rest ps shown cut is =
    ap (flat_map (piece_text values)) cut ∙ flat_map-append (piece_text values) ps (pieces rest)
    ∙ ap (λ (bytes : List ℕ). bytes ++ flat_map (piece_text values) (pieces rest)) is

-- the part of a text before its last pieces
pub written_before : (text rest : List ℕ) (ps : List Piece) → pieces text ≡ ps ++ pieces rest → text ≡ flat_map (piece_text []) ps ++ rest
written_before text rest ps cut =
    sym (unread_text text) ∙ ap (flat_map (piece_text [])) cut ∙ flat_map-append (piece_text []) ps (pieces rest)
    ∙ ap (λ (bytes : List ℕ). flat_map (piece_text []) ps ++ bytes) (unread_text rest)

written_length : (text front rest : List ℕ) → text ≡ front ++ rest → length text - length rest ≡ length front
written_length text front rest is = let lengths = ap length is ∙ length-append front rest in omega arith

-- an unbound one as it is written
pub unbound_shown : (values : Values) (text rest name front : List ℕ) → pieces text ≡ placeholder name ∷ pieces rest → None ≡ bound_value name values → front ≡ take (length text - length rest) text
    → flat_map (piece_text values) (placeholder name ∷ []) ≡ front
unbound_shown values text rest name front cut none is =
    let written : text ≡ (placeholder_text name ++ []) ++ rest = written_before text rest (placeholder name ∷ []) cut in
    ap (λ (o : Option Json). elim o as (λ _. List ℕ) [ None ↦ placeholder_text name | Some u ↦ put_text u ] ++ []) (sym none)
    ∙ sym (take-append_seam (placeholder_text name ++ []) rest)
    ∙ ap (λ (n : ℕ). take n ((placeholder_text name ++ []) ++ rest)) (sym (written_length text (placeholder_text name ++ []) rest written))
    ∙ ap (λ (bytes : List ℕ). take (length text - length rest) bytes) (sym written)
    ∙ sym is

-- a text may be cut before its last pieces
pub cut_before_rest : (text rest : List ℕ) (ps : List Piece) (n : ℕ) → pieces text ≡ ps ++ pieces rest → IsUtf8 rest → n ≡ length text - length rest → IsCharBoundary text n
cut_before_rest text rest ps n cut utf8 is =
    let written : text ≡ flat_map (piece_text []) ps ++ rest = written_before text rest ps cut in
    subst (λ (k : ℕ). IsCharBoundary text k) (sym (is ∙ written_length text (flat_map (piece_text []) ps) rest written))
    (IsCharBoundary-at_seam text (flat_map (piece_text []) ps) rest written utf8)
