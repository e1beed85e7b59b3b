-- A walk through the parts of models ends.
use Rattle.std.proofs.Common.{◌≡◌, ◌⊎◌, ℕ, ◌+◌, ◌-◌, ◌*◌, ◌^◌, ◌<◌, ◌≤◌, max, List, [], ◌∷◌, ◌++◌, length, Bool, true, false, refl, ap, inl, inr, ◌∙◌, arith, length-append}
use Rattle.std.specs.Prelude.{Option, Some, None, Result, Ok, Err, option_and_then, cond}
use Rattle.std.specs.Result.{result_ok}
use Rattle.std.specs.Str.{bytes_eq}
use Rattle.wot_json.specs.Tree.{Json, null, boolean, integer, string, array, object, nesting, elements_nesting, members_nesting, Elements, no_elements, element, Members, no_members, member}
use Rattle.wot_json.specs.Lookup.{element_list, member_list, member_named}
use Rattle.wot_json.specs.Places.{index_text}
use Rattle.wot_json.specs.Pointer.{is_pointer, tokens_in, element_at, part_at, value_at, part_of}
use Rattle.tm_parts.specs.Sources.{Sources, source_named}
use Rattle.tm_parts.specs.declared.reference.Reference.{Reference}
use Rattle.tm_parts.specs.declared.substitution.PartFault.{PartFault}
use Rattle.tm_resolve.specs.Chain.{is_in_chain, entered_model}
use Rattle.tm_resolve.specs.Weight.{entered_part}

-- the depth to which the models nest that may be entered
abbrev pub source_nesting : Result Json PartFault → ℕ
source_nesting (Ok whole) = nesting whole
source_nesting (Err fault) = 0

abbrev pub deepest : Sources → ℕ
deepest [] = 0
deepest (s ∷ ss) = max (source_nesting s.1) (deepest ss)

-- a choice of two that is this one
chosen : {X : Type 0} (b : Bool) (v w : X) (r : Option X) → cond b (Some v) r ≡ Some w → ((v ≡ w) ⊎ (r ≡ Some w))
chosen {X} true v w r is = inl cc
chosen {X} false v w r is = inr is

pub source_nests : (ss : Sources) (url : List ℕ) (whole : Json) → source_named url ss ≡ Some (Ok whole) → nesting whole ≤ deepest ss
source_nests [] url whole found = absurd (cc)
source_nests (s ∷ ss) url whole found = elim (chosen (bytes_eq url s.0) s.1 (Ok whole) (source_named url ss) found) [
  | inl this ↦ omega (arith, ap source_nesting this)
  | inr later ↦ omega (arith, source_nests ss url whole later)
]

element_part : (es : Elements) (token : List ℕ) (index : ℕ) (v : Json) → element_at token index (element_list es) ≡ Some v → nesting v ≤ elements_nesting es
element_part no_elements token index v found = absurd (cc)
element_part (element w es) token index v found = elim (chosen (bytes_eq token (index_text index)) w v (element_at token (index + 1) (element_list es)) found) [
  | inl this ↦ omega (arith, ap nesting this)
  | inr later ↦ omega (arith, element_part es token (index + 1) v later)
]

member_part : (ms : Members) (token : List ℕ) (v : Json) → member_named token (member_list ms) ≡ Some v → nesting v ≤ members_nesting ms
member_part no_members token v found = absurd (cc)
member_part (member name w ms) token v found = elim (chosen (bytes_eq token name) w v (member_named token (member_list ms)) found) [
  | inl this ↦ omega (arith, ap nesting this)
  | inr later ↦ omega (arith, member_part ms token v later)
]

one_step : (whole : Json) (token : List ℕ) (v : Json) → part_at token whole ≡ Some v → nesting v ≤ nesting whole
one_step null token v found = absurd (cc)
one_step (boolean b) token v found = absurd (cc)
one_step (integer z) token v found = absurd (cc)
one_step (string s) token v found = absurd (cc)
one_step (array es) token v found = omega (arith, element_part es token 0 v found)
one_step (object ms) token v found = omega (arith, member_part ms token v found)

-- the target of a step, where there is one
stepped : (f : Json → Option Json) (r : Option Json) (v : Json) → option_and_then f r ≡ Some v → (w : Json) × (r ≡ Some w) × (f w ≡ Some v)
stepped f None v found = absurd (cc)
stepped f (Some w) v found = (w, refl, found)

-- a part of a value nests no deeper
tokens_nest : (tokens : List (List ℕ)) (whole part : Json) → value_at tokens whole ≡ Some part → nesting part ≤ nesting whole
tokens_nest [] whole part found =
    let same : whole ≡ part = cc in
    omega (arith, ap nesting same)
tokens_nest (token ∷ tokens) whole part found =
    let step = stepped (value_at tokens) (part_at token whole) part found in
    omega (arith, one_step whole token step.0 step.1, tokens_nest tokens step.0 part step.2)

-- a value that is shown on a condition is there
shown : {X : Type 0} (b : Bool) (r : Option X) (x : X) → cond b r None ≡ Some x → r ≡ Some x
shown {X} true r x is = is
shown {X} false r x is = absurd (cc)

pub part_nests : (at : List ℕ) (whole part : Json) → part_of at whole ≡ Some part → nesting part ≤ nesting whole
part_nests at whole part found =
    tokens_nest (tokens_in at) whole part (shown (is_pointer at) (value_at (tokens_in at) whole) part found)

-- a value that is not hidden on a condition is there, and the condition doesn't hold
hidden : {X : Type 0} (b : Bool) (r : Option X) (x : X) → cond b None r ≡ Some x → (r ≡ Some x) × (b ≡ false)
hidden {X} true r x is = absurd (cc)
hidden {X} false r x is = (is, refl)

-- a model that has no fault
without_fault : (r : Option (Result Json PartFault)) (whole : Json) → option_and_then result_ok r ≡ Some whole → r ≡ Some (Ok whole)
without_fault None whole is = absurd (cc)
without_fault (Some (Ok model)) whole is = let same : model ≡ whole = cc in ap (λ (v : Json). Some (Ok v)) same
without_fault (Some (Err fault)) whole is = absurd (cc)

-- a model that is entered is under its URL, and its target isn't in the chain
pub model_parts : (sources : Sources) (chain : List Reference) (target : Reference) (whole : Json) → entered_model sources chain target ≡ Some whole
    → (source_named target.url sources ≡ Some (Ok whole)) × (is_in_chain target chain ≡ false)
model_parts sources chain target whole is =
    let inside = hidden (is_in_chain target chain) (option_and_then result_ok (source_named target.url sources)) whole is in
    (without_fault (source_named target.url sources) whole inside.0, inside.1)

-- and the other way round
pub model_is : (sources : Sources) (chain : List Reference) (target : Reference) (whole : Json) → source_named target.url sources ≡ Some (Ok whole) → is_in_chain target chain ≡ false → entered_model sources chain target ≡ Some whole
model_is sources chain target whole found new =
    ap (λ (b : Bool). cond b None (option_and_then result_ok (source_named target.url sources))) new
    ∙ ap (λ (r : Option (Result Json PartFault)). option_and_then result_ok r) found

-- the part that is looked up in such a model
pub entered_model_is : (sources : Sources) (chain : List Reference) (target : Reference) (whole : Json) → source_named target.url sources ≡ Some (Ok whole) → is_in_chain target chain ≡ false
    → (f : Json → Option Json) → option_and_then f (entered_model sources chain target) ≡ f whole
entered_model_is sources chain target whole found new f = ap (λ (m : Option Json). option_and_then f m) (model_is sources chain target whole found new)

-- a part that is entered is in a model that is
pub entered_parts : (sources : Sources) (chain : List Reference) (target : Reference) (part : Json) → entered_part sources chain target ≡ Some part
    → (whole : Json) × (entered_model sources chain target ≡ Some whole) × (part_of target.pointer whole ≡ Some part)
entered_parts sources chain target part found = stepped (part_of target.pointer) (entered_model sources chain target) part found

-- a part that is entered nests no deeper than the models
pub entered_nests : (sources : Sources) (chain : List Reference) (target : Reference) (part : Json) → entered_part sources chain target ≡ Some part → nesting part ≤ deepest sources
entered_nests sources chain target part found =
    let inside = entered_parts sources chain target part found in
    omega (arith, part_nests target.pointer inside.0 part inside.2, source_nests sources target.url inside.0 (model_parts sources chain target inside.0 inside.1).0)

-- A bound of the steps left to a walk: for each target that the chain has room for, all parts of a model. A chain is a
-- vector, which has fewer than 2 ^ 64 entries.
pub budget : List Reference → Sources → ℕ
budget chain sources = (2 ^ 64 - length chain) * (8 * deepest sources + 16)

one_less : (a b k : ℕ) → a ≡ b + 1 → a * k ≡ b * k + k
one_less a b k is = ap (λ (n : ℕ). n * k) is ∙ (omega arith)

-- a step into another target leaves room for all parts of its model
pub budget_falls : (chain : List Reference) (target : Reference) (sources : Sources) (n : ℕ) → length chain < 2 ^ 64 → n ≤ deepest sources
    → budget (chain ++ target ∷ []) sources + 8 * n + 16 ≤ budget chain sources
unfolding budget
budget_falls chain target sources n room deep =
    let longer : length (chain ++ target ∷ []) ≡ length chain + 1 = length-append chain (target ∷ []) in
    let less : 2 ^ 64 - length chain ≡ (2 ^ 64 - length (chain ++ target ∷ [])) + 1 = omega (arith, longer, room) in
    let split = one_less (2 ^ 64 - length chain) (2 ^ 64 - length (chain ++ target ∷ [])) (8 * deepest sources + 16) less in
    omega (arith, split, deep)
