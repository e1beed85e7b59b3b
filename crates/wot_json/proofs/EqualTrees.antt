-- Two arrays or two objects that are the same value.
use Rattle.std.proofs.Common.{◌≡◌, ℕ, ◌<◌, List, [], ◌∷◌, ◌↔◌, IsTrue, Bool, map, length, get_or, false, refl, sym, ap, subst, ◌∙◌}
use mathlib.Core.Bool.{false≢true}
use Rattle.std.proofs.lemmas.List.{get_or-map}
use Rattle.wot_json.specs.Tree.{Json, array, object, elements_of, members_of}
use Rattle.wot_json.specs.Lookup.{element_list, member_list, member_named, value_under}

-- the elements of an array are its elements
pub listed_lem : (vs : List Json) → element_list (elements_of vs) ≡ vs
listed_lem [] = refl
listed_lem (v ∷ vs) = ap (λ (ws : List Json). v ∷ ws) (listed_lem vs)

-- the members of an object are its members
pub listed_members_lem : (ms : List (List ℕ × Json)) → member_list (members_of ms) ≡ ms
listed_members_lem [] = refl
listed_members_lem (m ∷ ms) = ap (λ (ns : List (List ℕ × Json)). m ∷ ns) (listed_members_lem ms)

-- the value under a name in a list of members, the object of them has there
pub found-members_of : (name : List ℕ) (ms : List (List ℕ × Json)) → value_under name (members_of ms) ≡ member_named name ms
found-members_of name ms = ap (member_named name) (listed_members_lem ms)

-- arrays are the same where their elements are
pub arrays_equal : (xs ys : List Json) (r : Bool) → (IsTrue r ↔ (xs ≡ ys)) → IsTrue r ↔ (array (elements_of xs) ≡ array (elements_of ys))
arrays_equal xs ys r e = (
  λ yes'. ap (λ (vs : List Json). array (elements_of vs)) (e.0 yes'),
  λ same. let inside : elements_of xs ≡ elements_of ys = cc in e.1 (sym (listed_lem xs) ∙ ap element_list inside ∙ listed_lem ys),
)

-- objects are the same where their members are
pub objects_equal : (xs ys : List (List ℕ × Json)) (r : Bool) → (IsTrue r ↔ (xs ≡ ys)) → IsTrue r ↔ (object (members_of xs) ≡ object (members_of ys))
objects_equal xs ys r e = (
  λ yes'. ap (λ (ms : List (List ℕ × Json)). object (members_of ms)) (e.0 yes'),
  λ same. let inside : members_of xs ≡ members_of ys = cc in e.1 (sym (listed_members_lem xs) ∙ ap member_list inside ∙ listed_members_lem ys),
)

-- two lists that have different things at a place aren't the same
pub differ_at : {X Y : Type 0} (f : X → Y) (xs ys : List X) (i : ℕ) (x y : X) (vs ws : List Y) (r : Bool) → i < length xs → i < length ys → x ≡ get_or xs i x → y ≡ get_or ys i y → map f xs ≡ vs → map f ys ≡ ws → r ≡ false → (f x ≡ f y → IsTrue r) → IsTrue false ↔ (vs ≡ ws)
differ_at {X} {Y} f xs ys i x y vs ws r in_xs in_ys x_is y_is vs_is ws_is differs tested = (
  λ never. absurd (false≢true never),
  λ same. subst IsTrue differs (tested (ap f x_is ∙ sym (get_or-map f xs i x (f x) in_xs) ∙ ap (λ (us : List Y). get_or us i (f x)) (vs_is ∙ same ∙ sym ws_is) ∙ get_or-map f ys i y (f x) in_ys ∙ sym (ap f y_is))),
)
