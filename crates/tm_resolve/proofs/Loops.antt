-- Walks through the elements of a list and the members of an object.
use Rattle.std.proofs.Common.{◌≡◌, ℕ, ◌+◌, ◌<◌, ◌≤◌, List, [], ◌∷◌, ◌++◌, length, map, drop, get_or, Bool, true, false, refl, sym, ap, subst, ◌∙◌, append_assoc, add-one, drop-cons, cond}
use Rattle.std.proofs.lemmas.List.{append-nil, drop_all}
use Rattle.std.proofs.lemmas.Grind.{flat_map-append}
use Rattle.std.specs.Prelude.{Result}
use Rattle.std.specs.Str.{bytes_eq}
use Rattle.std.specs.Cmp.Lexicographic.{nat_list_cmp_total}
use Rattle.wot_json.specs.Tree.{Json, AreOrdered, Elements, element, elements_of, Members, member, members_of}
use Rattle.wot_json.specs.Meaning.{json_of, json_member, json_members}
use Rattle.wot_json.specs.Places.{step_text, element_step_text}
use Rattle.wot_json.specs.declared.tree.Tree.{Tree}
use Rattle.tm_parts.specs.References.{reference}
use Rattle.tm_parts.specs.Sources.{Sources}
use Rattle.tm_parts.specs.declared.reference.Reference.{Reference}
use Rattle.tm_parts.proofs.Walks.{ordered_prefix}
use Rattle.tm_resolve.specs.Chain.{pointer_of}
use Rattle.tm_resolve.specs.Links.{reference_name}
use Rattle.tm_resolve.specs.Value.{ValueStep, part_value, elements_value, members_value}
use Rattle.tm_resolve.specs.Faults.{Steps, part_faults, element_faults, member_faults}
use Rattle.tm_resolve.specs.Walking.{steps_from, Gives, IsRefusal}
use Rattle.tm_resolve.specs.declared.fault.ResolveFault.{ResolveFault}
use Rattle.tm_resolve.proofs.Outcomes.{refused_before, refused_same}
use Rattle.tm_resolve.proofs.SeenParts.{named_by}

-- ---- order

-- order is of names alone
ordered_changed : (xs : List (List ℕ × Json)) (name : List ℕ) (v w : Json) (ys : List (List ℕ × Json)) → AreOrdered (xs ++ (name, v) ∷ ys) → AreOrdered ((xs ++ (name, w) ∷ []) ++ ys)
ordered_changed [] name v w [] ordered = tt
ordered_changed [] name v w (y ∷ ys) ordered = ordered
ordered_changed (x ∷ []) name v w ys ordered = (ordered.0, ordered_changed [] name v w ys ordered.1)
ordered_changed (x ∷ z ∷ xs) name v w ys ordered = (ordered.0, ordered_changed (z ∷ xs) name v w ys ordered.1)

-- members stay in order where one is left out
ordered_skipped : (xs : List (List ℕ × Json)) (m : List ℕ × Json) (ys : List (List ℕ × Json)) → AreOrdered (xs ++ m ∷ ys) → AreOrdered (xs ++ ys)
ordered_skipped [] m [] ordered = tt
ordered_skipped [] m (y ∷ ys) ordered = ordered.1
ordered_skipped (x ∷ []) m [] ordered = tt
ordered_skipped (x ∷ []) m (y ∷ ys) ordered = (nat_list_cmp_total.trans x.0 m.0 y.0 ordered.0 ordered.1.0, ordered.1.1)
ordered_skipped (x ∷ z ∷ xs) m ys ordered = (ordered.0, ordered_skipped (z ∷ xs) m ys ordered.1)

-- the rest at a place is the element there, and those after it
pub left_at : {X : Type 0} (xs : List X) (i : ℕ) (x : X) → i < length xs → x ≡ get_or xs i x → drop i xs ≡ x ∷ drop (i + 1) xs
left_at {X} xs i x within is = (rw (add-one, drop-cons xs i x)) ∙ ap (λ (y : X). y ∷ drop (i + 1) xs) (sym is)

-- the members so far and those that are left stay in order, with a value in place of a member
pub order_more : (done : List (List ℕ × Json)) (list : List (List ℕ × Tree)) (index : ℕ) (m : List ℕ × Tree) (copied : List ℕ) (w : Json)
    → index < length list → m ≡ get_or list index m → copied ≡ m.0 → AreOrdered (done ++ json_members (drop index list)) → AreOrdered ((done ++ (copied, w) ∷ []) ++ json_members (drop (index + 1) list))
order_more done list index m copied w within is is_copied ordered =
    let left : json_members (drop index list) ≡ json_member m ∷ json_members (drop (index + 1) list) = ap json_members (left_at list index m within is) in
    subst (λ (n : List ℕ). AreOrdered ((done ++ (n, w) ∷ []) ++ json_members (drop (index + 1) list))) (sym is_copied)
    (ordered_changed done m.0 (json_of m.1) w (json_members (drop (index + 1) list)) (subst (λ (ms : List (List ℕ × Json)). AreOrdered (done ++ ms)) left ordered))

-- the members so far are in order with the next
pub order_next : (done : List (List ℕ × Json)) (list : List (List ℕ × Tree)) (index : ℕ) (m : List ℕ × Tree) (copied : List ℕ) (w : Json)
    → index < length list → m ≡ get_or list index m → copied ≡ m.0 → AreOrdered (done ++ json_members (drop index list)) → AreOrdered (done ++ (copied, w) ∷ [])
order_next done list index m copied w within is is_copied ordered =
    ordered_prefix (done ++ (copied, w) ∷ []) (json_members (drop (index + 1) list)) (order_more done list index m copied w within is is_copied ordered)

-- and without one
pub order_without : (done : List (List ℕ × Json)) (list : List (List ℕ × Tree)) (index : ℕ) (m : List ℕ × Tree)
    → index < length list → m ≡ get_or list index m → AreOrdered (done ++ json_members (drop index list)) → AreOrdered (done ++ json_members (drop (index + 1) list))
order_without done list index m within is ordered =
    let left : json_members (drop index list) ≡ json_member m ∷ json_members (drop (index + 1) list) = ap json_members (left_at list index m within is) in
    ordered_skipped done (json_member m) (json_members (drop (index + 1) list)) (subst (λ (ms : List (List ℕ × Json)). AreOrdered (done ++ ms)) left ordered)

-- ---- a part on the way

-- a further piece of a pointer comes at its end
pub piece_after : (longer pieces : List (List ℕ)) (piece : List ℕ) → longer ≡ pieces ++ piece ∷ [] → pointer_of longer ≡ pointer_of pieces ++ piece
piece_after longer pieces piece is =
    ap pointer_of is ∙ flat_map-append (λ (p : List ℕ). p) pieces (piece ∷ []) ∙ ap (λ (end : List ℕ). pointer_of pieces ++ end) (append-nil piece)

-- the statement on a part by the chain and the place that the code has
abbrev pub PartGives : Sources → List ℕ → List ℕ → List Reference → Json → Result Tree ResolveFault → Type 0
PartGives sources url place chain v r =
    Gives (part_value (steps_from sources chain).value url chain v) (part_faults (steps_from sources chain) chain (reference url place) v) r

pub part_same : (sources : Sources) (url place below : List ℕ) (chain es : List Reference) (v : Json) (r : Result Tree ResolveFault) → es ≡ chain → below ≡ place → PartGives sources url below es v r → PartGives sources url place chain v r
part_same sources url place below chain es v r at_chain at_place gives =
    subst (λ (p : List ℕ). PartGives sources url p chain v r) at_place (subst (λ (c : List Reference). PartGives sources url below c v r) at_chain gives)

-- ---- elements

-- the elements of a list, each by its value
pub elements_mapped : (step : ValueStep) (url : List ℕ) (chain : List Reference) (vs : List Json) → elements_of (map (part_value step url chain) vs) ≡ elements_value step url chain (elements_of vs)
elements_mapped step url chain [] = refl
elements_mapped step url chain (v ∷ vs) = ap (λ (es : Elements). element (part_value step url chain v) es) (elements_mapped step url chain vs)

-- the values that a walk through a list has made, with those of the rest, are the value of the list; and the rest has
-- all its faults
pub record ElementsGoOn (steps : Steps) (chain : List Reference) (from : Reference) (meaning : Tree → Json) (list : List Tree) (done : List Json) (index : ℕ) : Type 0 where
  pub values : done ++ map (part_value steps.value from.url chain) (map meaning (drop index list)) ≡ map (part_value steps.value from.url chain) (map meaning list)
  pub faults : element_faults steps chain from index (elements_of (map meaning (drop index list))) ≡ element_faults steps chain from 0 (elements_of (map meaning list))

-- an element that is refused ends the walk
pub elements_refused : (steps : Steps) (chain : List Reference) (from : Reference) (meaning : Tree → Json) (list : List Tree) (items done : List Json) (index : ℕ) (item : Tree) (e : ResolveFault)
    → map meaning list ≡ items → index < length list → item ≡ get_or list index item → ElementsGoOn steps chain from meaning list done index
    → IsRefusal e (part_faults steps chain (reference from.url (from.pointer ++ element_step_text index)) (meaning item)) → IsRefusal e (element_faults steps chain from 0 (elements_of items))
elements_refused steps chain from meaning list items done index item e same within is so_far refused =
    let left : map meaning (drop index list) ≡ meaning item ∷ map meaning (drop (index + 1) list) = ap (λ (ts : List Tree). map meaning ts) (left_at list index item within is) in
    refused_same e (element_faults steps chain from 0 (elements_of items)) (element_faults steps chain from index (elements_of (meaning item ∷ map meaning (drop (index + 1) list))))
    (ap (λ (vs : List Json). element_faults steps chain from 0 (elements_of vs)) (sym same) ∙ sym so_far.faults ∙ ap (λ (vs : List Json). element_faults steps chain from index (elements_of vs)) left)
    (refused_before e (part_faults steps chain (reference from.url (from.pointer ++ element_step_text index)) (meaning item)) (element_faults steps chain from (index + 1) (elements_of (map meaning (drop (index + 1) list)))) refused)

-- one with a value goes on
pub elements_more : (steps : Steps) (chain : List Reference) (from : Reference) (meaning : Tree → Json) (list : List Tree) (done : List Json) (index : ℕ) (item : Tree) (w : Json)
    → index < length list → item ≡ get_or list index item → ElementsGoOn steps chain from meaning list done index
    → w ≡ part_value steps.value from.url chain (meaning item) → part_faults steps chain (reference from.url (from.pointer ++ element_step_text index)) (meaning item) ≡ []
    → ElementsGoOn steps chain from meaning list (done ++ w ∷ []) (index + 1)
elements_more steps chain from meaning list done index item w within is so_far value none =
    let left : map meaning (drop index list) ≡ meaning item ∷ map meaning (drop (index + 1) list) = ap (λ (ts : List Tree). map meaning ts) (left_at list index item within is) in
    let rest : List Json = map (part_value steps.value from.url chain) (map meaning (drop (index + 1) list)) in
    record {
      values = append_assoc done (w ∷ []) rest
          ∙ ap (λ (v : Json). done ++ v ∷ rest) value
          ∙ ap (λ (vs : List Json). done ++ map (part_value steps.value from.url chain) vs) (sym left)
          ∙ so_far.values;
      faults = ap (λ (fs : List ResolveFault). fs ++ element_faults steps chain from (index + 1) (elements_of (map meaning (drop (index + 1) list)))) (sym none)
          ∙ ap (λ (vs : List Json). element_faults steps chain from index (elements_of vs)) (sym left)
          ∙ so_far.faults;
    }

-- the end of the list ends the walk
pub elements_end : (steps : Steps) (chain : List Reference) (from : Reference) (meaning : Tree → Json) (list : List Tree) (items done : List Json) (index : ℕ) → map meaning list ≡ items → length list ≤ index → ElementsGoOn steps chain from meaning list done index
    → (elements_of done ≡ elements_value steps.value from.url chain (elements_of items)) × (element_faults steps chain from 0 (elements_of items) ≡ [])
elements_end steps chain from meaning list items done index same past so_far =
    let none : map meaning (drop index list) ≡ [] = ap (λ (ts : List Tree). map meaning ts) (drop_all index list past) in
    let whole : done ≡ map (part_value steps.value from.url chain) items =
    sym (append-nil done) ∙ ap (λ (vs : List Json). done ++ map (part_value steps.value from.url chain) vs) (sym none) ∙ so_far.values
    ∙ ap (λ (vs : List Json). map (part_value steps.value from.url chain) vs) same in (
      ap elements_of whole ∙ elements_mapped steps.value from.url chain items,
      ap (λ (vs : List Json). element_faults steps chain from 0 (elements_of vs)) (sym same) ∙ sym so_far.faults ∙ ap (λ (vs : List Json). element_faults steps chain from index (elements_of vs)) none,
    )

-- ---- members

-- members but for `tm:ref`, each by its value
abbrev pub other_values : ValueStep → List ℕ → List Reference → List (List ℕ × Json) → List (List ℕ × Json)
other_values step url chain [] = []
other_values step url chain (m ∷ ms) = cond (bytes_eq m.0 reference_name) (other_values step url chain ms) ((m.0, part_value step url chain m.1) ∷ other_values step url chain ms)

-- a choice of lists of members
chosen_members : (b : Bool) (xs ys : List (List ℕ × Json)) → members_of (cond b xs ys) ≡ cond b (members_of xs) (members_of ys)
chosen_members true xs ys = refl
chosen_members false xs ys = refl

pub members_mapped : (step : ValueStep) (url : List ℕ) (chain : List Reference) (ms : List (List ℕ × Json)) → members_of (other_values step url chain ms) ≡ members_value step url chain (members_of ms)
members_mapped step url chain [] = refl
members_mapped step url chain (m ∷ ms) =
    chosen_members (bytes_eq m.0 reference_name) (other_values step url chain ms) ((m.0, part_value step url chain m.1) ∷ other_values step url chain ms)
    ∙ ap (λ (rest : Members). cond (bytes_eq m.0 reference_name) rest (member m.0 (part_value step url chain m.1) rest)) (members_mapped step url chain ms)

-- the members that a walk through an object has made, with those of the rest, are the value of the object
pub record MembersGoOn (steps : Steps) (chain : List Reference) (from : Reference) (meaning : Tree → Json) (list : List (List ℕ × Tree)) (done : List (List ℕ × Json)) (index : ℕ) : Type 0 where
  pub values : done ++ other_values steps.value from.url chain (map (named_by meaning) (drop index list)) ≡ other_values steps.value from.url chain (map (named_by meaning) list)
  pub faults : member_faults steps chain from (members_of (map (named_by meaning) (drop index list))) ≡ member_faults steps chain from (members_of (map (named_by meaning) list))

-- the faults of members whose first isn't `tm:ref`, and of those whose first is
faults_of_other : (steps : Steps) (chain : List Reference) (from : Reference) (m : List ℕ × Json) (ms : List (List ℕ × Json)) → bytes_eq m.0 reference_name ≡ false
    → member_faults steps chain from (members_of (m ∷ ms)) ≡ part_faults steps chain (reference from.url (from.pointer ++ step_text m.0)) m.1 ++ member_faults steps chain from (members_of ms)
faults_of_other steps chain from m ms other =
    ap (λ (b : Bool). cond b (member_faults steps chain from (members_of ms)) (part_faults steps chain (reference from.url (from.pointer ++ step_text m.0)) m.1 ++ member_faults steps chain from (members_of ms))) other

faults_of_reference : (steps : Steps) (chain : List Reference) (from : Reference) (m : List ℕ × Json) (ms : List (List ℕ × Json)) → bytes_eq m.0 reference_name ≡ true
    → member_faults steps chain from (members_of (m ∷ ms)) ≡ member_faults steps chain from (members_of ms)
faults_of_reference steps chain from m ms same =
    ap (λ (b : Bool). cond b (member_faults steps chain from (members_of ms)) (part_faults steps chain (reference from.url (from.pointer ++ step_text m.0)) m.1 ++ member_faults steps chain from (members_of ms))) same

-- a member that is refused ends the walk
pub members_refused : (steps : Steps) (chain : List Reference) (from : Reference) (meaning : Tree → Json) (list : List (List ℕ × Tree)) (members done : List (List ℕ × Json)) (index : ℕ) (m : List ℕ × Tree) (e : ResolveFault)
    → map (named_by meaning) list ≡ members → index < length list → m ≡ get_or list index m → bytes_eq m.0 reference_name ≡ false → MembersGoOn steps chain from meaning list done index
    → IsRefusal e (part_faults steps chain (reference from.url (from.pointer ++ step_text m.0)) (meaning m.1)) → IsRefusal e (member_faults steps chain from (members_of members))
members_refused steps chain from meaning list members done index m e same within is other so_far refused =
    let left : map (named_by meaning) (drop index list) ≡ named_by meaning m ∷ map (named_by meaning) (drop (index + 1) list) = ap (λ (ts : List (List ℕ × Tree)). map (named_by meaning) ts) (left_at list index m within is) in
    refused_same e (member_faults steps chain from (members_of members)) _
    (ap (λ (ms : List (List ℕ × Json)). member_faults steps chain from (members_of ms)) (sym same) ∙ sym so_far.faults ∙ ap (λ (ms : List (List ℕ × Json)). member_faults steps chain from (members_of ms)) left
    ∙ faults_of_other steps chain from (named_by meaning m) (map (named_by meaning) (drop (index + 1) list)) other)
    (refused_before e (part_faults steps chain (reference from.url (from.pointer ++ step_text m.0)) (meaning m.1)) (member_faults steps chain from (members_of (map (named_by meaning) (drop (index + 1) list)))) refused)

-- one with a value goes on
pub members_more : (steps : Steps) (chain : List Reference) (from : Reference) (meaning : Tree → Json) (list : List (List ℕ × Tree)) (done : List (List ℕ × Json)) (index : ℕ) (m : List ℕ × Tree) (copied : List ℕ) (w : Json)
    → index < length list → m ≡ get_or list index m → bytes_eq m.0 reference_name ≡ false → copied ≡ m.0 → MembersGoOn steps chain from meaning list done index
    → w ≡ part_value steps.value from.url chain (meaning m.1) → part_faults steps chain (reference from.url (from.pointer ++ step_text m.0)) (meaning m.1) ≡ []
    → MembersGoOn steps chain from meaning list (done ++ (copied, w) ∷ []) (index + 1)
members_more steps chain from meaning list done index m copied w within is other is_copied so_far value none =
    let left : map (named_by meaning) (drop index list) ≡ named_by meaning m ∷ map (named_by meaning) (drop (index + 1) list) = ap (λ (ts : List (List ℕ × Tree)). map (named_by meaning) ts) (left_at list index m within is) in
    let rest : List (List ℕ × Json) = other_values steps.value from.url chain (map (named_by meaning) (drop (index + 1) list)) in
    record {
      values = append_assoc done ((copied, w) ∷ []) rest
          ∙ ap (λ (n : List ℕ). done ++ (n, w) ∷ rest) is_copied
          ∙ ap (λ (v : Json). done ++ (m.0, v) ∷ rest) value
          ∙ ap (λ (b : Bool). done ++ cond b rest ((m.0, part_value steps.value from.url chain (meaning m.1)) ∷ rest)) (sym other)
          ∙ ap (λ (ms : List (List ℕ × Json)). done ++ other_values steps.value from.url chain ms) (sym left)
          ∙ so_far.values;
      faults = ap (λ (fs : List ResolveFault). fs ++ member_faults steps chain from (members_of (map (named_by meaning) (drop (index + 1) list)))) (sym none)
          ∙ sym (faults_of_other steps chain from (named_by meaning m) (map (named_by meaning) (drop (index + 1) list)) other)
          ∙ ap (λ (ms : List (List ℕ × Json)). member_faults steps chain from (members_of ms)) (sym left)
          ∙ so_far.faults;
    }

-- `tm:ref` is left out
pub members_without : (steps : Steps) (chain : List Reference) (from : Reference) (meaning : Tree → Json) (list : List (List ℕ × Tree)) (done : List (List ℕ × Json)) (index : ℕ) (m : List ℕ × Tree)
    → index < length list → m ≡ get_or list index m → bytes_eq m.0 reference_name ≡ true → MembersGoOn steps chain from meaning list done index
    → MembersGoOn steps chain from meaning list done (index + 1)
members_without steps chain from meaning list done index m within is same so_far =
    let left : map (named_by meaning) (drop index list) ≡ named_by meaning m ∷ map (named_by meaning) (drop (index + 1) list) = ap (λ (ts : List (List ℕ × Tree)). map (named_by meaning) ts) (left_at list index m within is) in
    let rest : List (List ℕ × Json) = other_values steps.value from.url chain (map (named_by meaning) (drop (index + 1) list)) in
    record {
      values = ap (λ (b : Bool). done ++ cond b rest ((m.0, part_value steps.value from.url chain (meaning m.1)) ∷ rest)) (sym same)
          ∙ ap (λ (ms : List (List ℕ × Json)). done ++ other_values steps.value from.url chain ms) (sym left)
          ∙ so_far.values;
      faults = sym (faults_of_reference steps chain from (named_by meaning m) (map (named_by meaning) (drop (index + 1) list)) same)
          ∙ ap (λ (ms : List (List ℕ × Json)). member_faults steps chain from (members_of ms)) (sym left)
          ∙ so_far.faults;
    }

-- the end of the members ends the walk
pub members_end : (steps : Steps) (chain : List Reference) (from : Reference) (meaning : Tree → Json) (list : List (List ℕ × Tree)) (members done : List (List ℕ × Json)) (index : ℕ) → map (named_by meaning) list ≡ members → length list ≤ index → MembersGoOn steps chain from meaning list done index
    → (members_of done ≡ members_value steps.value from.url chain (members_of members)) × (member_faults steps chain from (members_of members) ≡ [])
members_end steps chain from meaning list members done index same past so_far =
    let none : map (named_by meaning) (drop index list) ≡ [] = ap (λ (ts : List (List ℕ × Tree)). map (named_by meaning) ts) (drop_all index list past) in
    let whole : done ≡ other_values steps.value from.url chain members =
    sym (append-nil done) ∙ ap (λ (ms : List (List ℕ × Json)). done ++ other_values steps.value from.url chain ms) (sym none) ∙ so_far.values
    ∙ ap (λ (ms : List (List ℕ × Json)). other_values steps.value from.url chain ms) same in (
      ap members_of whole ∙ members_mapped steps.value from.url chain members,
      ap (λ (ms : List (List ℕ × Json)). member_faults steps chain from (members_of ms)) (sym same) ∙ sym so_far.faults ∙ ap (λ (ms : List (List ℕ × Json)). member_faults steps chain from (members_of ms)) none,
    )
