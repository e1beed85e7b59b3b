-- The segments of a Thing and of those below it: each is at or below its parent's, and those of two children differ.
use Rattle.std.proofs.Common.{◌≡◌, ◌≢◌, ℕ, List, [], ◌∷◌, ◌++◌, map, refl, sym, ap, subst, ◌∙◌, append_assoc}
use Rattle.std.specs.Prelude.{⊤, true}
use Rattle.std.specs.List.{AllByRecursion, list_all}
use Rattle.std.proofs.lemmas.List.{append-nil, append_cancel_left}
use Rattle.std.proofs.lemmas.Bool.{and_parts}
use Rattle.tm_derive.specs.Submodels.{below}
use Rattle.wot_forms.specs.Segments.{is_name_byte, is_plain_segment, is_segment_byte}
use Rattle.wot_forms.proofs.PlainSegments.{and_both, plain_both, plain_name}

-- ---- lists

-- none of both is none of each
pub none_first : {A : Type 0} (xs ys : List A) → xs ++ ys ≡ [] → xs ≡ []
none_first [] ys none = refl
none_first (x ∷ xs) ys none = absurd (cc)

pub none_second : {A : Type 0} (xs ys : List A) → xs ++ ys ≡ [] → ys ≡ []
none_second [] ys none = none
none_second (x ∷ xs) ys none = absurd (cc)

pub none_of_map : {A B : Type 0} (f : A → B) (xs : List A) → map f xs ≡ [] → xs ≡ []
none_of_map f [] none = refl
none_of_map f (x ∷ xs) none = absurd (cc)

-- a property of each, and of each of two lists
pub each : {A : Type 0} (P Q : A → Type 0) → ((x : A) → P x → Q x) → (xs : List A) → AllByRecursion P xs → AllByRecursion Q xs
each P Q f [] all = tt
each P Q f (x ∷ xs) all = (f x all.0, each P Q f xs all.1)

pub each_of_both : {A : Type 0} (P : A → Type 0) (xs ys : List A) → AllByRecursion P xs → AllByRecursion P ys → AllByRecursion P (xs ++ ys)
each_of_both P [] ys all more = more
each_of_both P (x ∷ xs) ys all more = (all.0, each_of_both P xs ys all.1 more)

-- no two of these texts are the same
abbrev pub Differ : List (List ℕ) → Type 0
Differ [] = ⊤
Differ (x ∷ xs) = AllByRecursion (λ y. x ≢ y) xs × Differ xs

pub differ_in_both : (xs ys : List (List ℕ)) → Differ xs → Differ ys → AllByRecursion (λ x. AllByRecursion (λ y. x ≢ y) ys) xs → Differ (xs ++ ys)
differ_in_both [] ys first next apart = next
differ_in_both (x ∷ xs) ys first next apart = (each_of_both (λ y. x ≢ y) xs ys first.0 apart.0, differ_in_both xs ys first.1 next apart.1)

-- ---- segments

-- the bytes after the segment of a Thing in those of the Things below it
abbrev pub IsTail : List ℕ → Type 0
IsTail [] = ⊤
IsTail (b ∷ bs) = (b ≡ 126) × (is_plain_segment bs ≡ true)

-- the segment of a Thing, or of one below it
abbrev pub IsAtOrBelow : List ℕ → List ℕ → Type 0
IsAtOrBelow segment s = (tail : List ℕ) × (s ≡ segment ++ tail) × IsTail tail

-- the segment of a Thing that the Thing of this segment is composed of
abbrev pub IsChild : List ℕ → List ℕ → Type 0
IsChild segment s = (name : List ℕ) × (s ≡ below segment name) × (list_all is_name_byte name ≡ true)

-- a name has no `~`
pub no_tilde : (b : ℕ) (name : List ℕ) → b ≡ 126 → list_all is_name_byte (b ∷ name) ≡ true → ⊥
no_tilde b name is ok =
    let byte : is_name_byte b ≡ true = (and_parts (is_name_byte b) (list_all is_name_byte name) ok).0 in
    let is_one : is_name_byte 126 ≡ true = subst (λ (c : ℕ). is_name_byte c ≡ true) is byte in
    absurd (cc)

abbrev head_of : List ℕ → ℕ
head_of [] = 0
head_of (b ∷ bs) = b

abbrev tail_of : List ℕ → List ℕ
tail_of [] = []
tail_of (b ∷ bs) = bs

pub same_name : (xs ys r s : List ℕ) → list_all is_name_byte xs ≡ true → list_all is_name_byte ys ≡ true → IsTail r → IsTail s → xs ++ r ≡ ys ++ s → xs ≡ ys
same_name [] [] r s one other rt st is = refl
same_name [] (y ∷ ys) [] s one other rt st is = absurd (cc)
same_name [] (y ∷ ys) (b ∷ r) s one other rt st is = absurd (no_tilde y ys (sym (ap head_of is) ∙ rt.0) other)
same_name (x ∷ xs) [] r [] one other rt st is = absurd (cc)
same_name (x ∷ xs) [] r (b ∷ s) one other rt st is = absurd (no_tilde x xs (ap head_of is ∙ st.0) one)
same_name (x ∷ xs) (y ∷ ys) r s one other rt st is =
    let rest : xs ≡ ys = same_name xs ys r s (and_parts (is_name_byte x) (list_all is_name_byte xs) one).1 (and_parts (is_name_byte y) (list_all is_name_byte ys) other).1 rt st (ap tail_of is) in
    let first : x ≡ y = ap head_of is in
    ap (λ (b : ℕ). b ∷ xs) first ∙ ap (λ (bs : List ℕ). y ∷ bs) rest

-- ---- plain bytes

pub plain_tail : (tail : List ℕ) → IsTail tail → is_plain_segment tail ≡ true
plain_tail [] is = refl
plain_tail (b ∷ bs) is = and_both (is_segment_byte b) (is_plain_segment bs) (ap is_segment_byte is.0) is.1

-- a segment at or below a plain one is plain
pub plain_below : (segment : List ℕ) → is_plain_segment segment ≡ true → (s : List ℕ) → IsAtOrBelow segment s → is_plain_segment s ≡ true
plain_below segment plain s at = ap is_plain_segment at.1 ∙ plain_both segment at.0 plain (plain_tail at.0 at.2)

-- a segment at or below a child is below the parent
pub after_parent : (segment child : List ℕ) (is : IsChild segment child) (s : List ℕ) (at : IsAtOrBelow child s) → s ≡ segment ++ (126 ∷ (is.0 ++ at.0))
after_parent segment child is s at =
    at.1
    ∙ ap (λ (c : List ℕ). c ++ at.0) (is.1 ∙ append_assoc segment (126 ∷ []) is.0)
    ∙ append_assoc segment (126 ∷ is.0) at.0

pub below_child : (segment child : List ℕ) → IsChild segment child → (s : List ℕ) → IsAtOrBelow child s → IsAtOrBelow segment s
below_child segment child is s at = (126 ∷ (is.0 ++ at.0), after_parent segment child is s at, (refl, plain_both is.0 at.0 (plain_name is.0 is.2) (plain_tail at.0 at.2)))

-- and not that of the parent
pub not_parent : (segment child : List ℕ) → IsChild segment child → (s : List ℕ) → IsAtOrBelow child s → segment ≢ s
not_parent segment child is s at same =
    let none : [] ≡ 126 ∷ (is.0 ++ at.0) = append_cancel_left segment [] (126 ∷ (is.0 ++ at.0)) (append-nil segment ∙ same ∙ after_parent segment child is s at) in
    absurd (cc)

-- segments at or below two children of one parent differ
pub not_sibling : (segment one other : List ℕ) → IsChild segment one → IsChild segment other → one ≢ other → (s t : List ℕ) → IsAtOrBelow one s → IsAtOrBelow other t → s ≢ t
not_sibling segment one other is_one is_other apart s t at_one at_other same =
    let whole : 126 ∷ (is_one.0 ++ at_one.0) ≡ 126 ∷ (is_other.0 ++ at_other.0) =
    append_cancel_left segment (126 ∷ (is_one.0 ++ at_one.0)) (126 ∷ (is_other.0 ++ at_other.0))
    (sym (after_parent segment one is_one s at_one) ∙ same ∙ after_parent segment other is_other t at_other) in
    let names : is_one.0 ≡ is_other.0 = same_name is_one.0 is_other.0 at_one.0 at_other.0 is_one.2 is_other.2 at_one.2 at_other.2 (ap tail_of whole) in
    apart (is_one.1 ∙ ap (below segment) names ∙ sym is_other.1)
