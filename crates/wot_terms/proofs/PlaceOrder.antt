-- Places that come in preorder, and how those of a value are made of those of its parts.
use Rattle.std.proofs.Common.{◌≡◌, ◌≤◌, ◌+◌, ◌++◌, ◌⊎◌, inl, inr, ℕ, suc, List, [], ◌∷◌, map, Bool, true, false, Option, Some, None, refl, sym, ap, subst, ◌∙◌, arith, if◌then◌else◌, append_assoc}
use Rattle.std.specs.Prelude.{IsSome, ⊤, option_and_then}
use Rattle.std.specs.Option.{option_map_or}
use Rattle.std.specs.Str.{bytes_eq}
use Rattle.std.specs.Ordering.{nat_cmp, ordering_reverse, is_eq}
use Rattle.std.specs.declared.cmp.Ordering.TheVariants.{Less}
use Rattle.std.specs.Cmp.Lexicographic.{slice_cmp, nat_list_cmp_total}
use Rattle.std.proofs.lemmas.List.{append-nil}
use Rattle.std.proofs.lemmas.Slice.Eq.{bytes_eq-Decides}
use Rattle.std.proofs.lemmas.Map.Text.{is_eq-slice_cmp}
use Rattle.wot_json.specs.Tree.{Json, null, boolean, integer, string, array, object, Elements, no_elements, element, Members, no_members, member, AreOrdered}
use Rattle.wot_json.specs.Lookup.{value_under, member_list}
use Rattle.wot_json.specs.WellFormed.{IsWellFormed, ElementsAreWellFormed, MembersAreWellFormed}
use Rattle.wot_terms.specs.Faults.{Places, Judge, MembersJudge, here, in_member, in_element, is, is_text_with, each_member, each_element, required_member, optional_member, optional_members, object_with, object_of_some, list_of, list_of_some, if_object, if_list, texts}
use Rattle.wot_terms.specs.Order.{IsPlace, Step, to_member, to_element, Path, step_pointer, pointer_along, element_of, part_through, value_along, StepComesBefore, ComesBefore, Each}

further_value : (s : Step) (v w : Json) (p : Path) → part_through s v ≡ Some w → IsSome (value_along p w) → IsSome (value_along (s ∷ p) v)
further_value s v w p is some = subst (λ (o : Option Json). IsSome (option_and_then (value_along p) o)) (sym is) some

-- a place in a part of a value is one in the value
pub further_place : (s : Step) (v w : Json) (p : Path) → part_through s v ≡ Some w → IsPlace w p → IsPlace v (s ∷ p)
further_place s v w p is (inl some) = inl (further_value s v w p is some)
further_place s v w p is (inr missing) =
    inr (record {
      parent = s ∷ missing.parent;
      name = missing.name;
      members = missing.members;
      path_is = ap (λ (q : Path). s ∷ q) missing.path_is;
      object_is = ap (λ (o : Option Json). option_and_then (value_along missing.parent) o) is ∙ missing.object_is;
      absent = missing.absent;
    })

-- ## Groups: a path, and the places from its end on

abbrev pub Group : Type 0
Group = Path × Places

abbrev pub group_places : Group → Places
group_places g = map (λ p. pointer_along g.0 ++ p) g.1

abbrev pub all_places : List Group → Places
all_places [] = []
all_places (g ∷ gs) = group_places g ++ all_places gs

abbrev pub GroupsAreOrdered : List Group → Type 0
GroupsAreOrdered [] = ⊤
GroupsAreOrdered (g ∷ gs) = Each (λ (h : Group). ComesBefore g.0 h.0) gs × GroupsAreOrdered gs

pub each_append : {A : Type 0} (P : A → Type 0) (xs ys : List A) → Each P xs → Each P ys → Each P (xs ++ ys)
each_append P [] ys a b = b
each_append P (x ∷ xs) ys a b = (a.0, each_append P xs ys a.1 b)

pub each_weaker : {A : Type 0} (P Q : A → Type 0) (xs : List A) → ((x : A) → P x → Q x) → Each P xs → Each Q xs
each_weaker P Q [] weaker all = tt
each_weaker P Q (x ∷ xs) weaker all = (weaker x all.0, each_weaker P Q xs weaker all.1)

pub each_map : {A B : Type 0} (f : A → B) (P : B → Type 0) (xs : List A) → Each (λ x. P (f x)) xs → Each P (map f xs)
each_map f P [] all = tt
each_map f P (x ∷ xs) all = (all.0, each_map f P xs all.1)

ordered_append : (F G : Path → Type 0) (xs ys : List Group) → ((p q : Path) → F p → G q → ComesBefore p q) →
    Each (λ (g : Group). F g.0) xs → Each (λ (g : Group). G g.0) ys → GroupsAreOrdered xs → GroupsAreOrdered ys → GroupsAreOrdered (xs ++ ys)
ordered_append F G [] ys before of_xs of_ys a b = b
ordered_append F G (x ∷ xs) ys before of_xs of_ys a b = (
  each_append (λ (h : Group). ComesBefore x.0 h.0) xs ys a.0 (each_weaker (λ (g : Group). G g.0) (λ (h : Group). ComesBefore x.0 h.0) ys (λ h of_h. before x.0 h.0 of_xs.0 of_h) of_ys),
  ordered_append F G xs ys before of_xs.1 of_ys a.1 b,
)

-- a group, seen from one step further out
abbrev stepped : Step → Group → Group
stepped s g = (s ∷ g.0, g.1)

ordered_stepped : (s : Step) (gs : List Group) → GroupsAreOrdered gs → GroupsAreOrdered (map (stepped s) gs)
ordered_stepped s [] ordered = tt
ordered_stepped s (g ∷ gs) ordered = (
  each_map (stepped s) (λ (h : Group). ComesBefore (s ∷ g.0) h.0) gs
      (each_weaker (λ (h : Group). ComesBefore g.0 h.0) (λ (h : Group). ComesBefore (s ∷ g.0) (s ∷ h.0)) gs (λ h before. inr (refl, before)) ordered.0),
  ordered_stepped s gs ordered.1,
)

all_places-append : (xs ys : List Group) → all_places (xs ++ ys) ≡ all_places xs ++ all_places ys
all_places-append [] ys = refl
all_places-append (x ∷ xs) ys =
    ap (λ ps. group_places x ++ ps) (all_places-append xs ys) ∙ sym (append_assoc (group_places x) (all_places xs) (all_places ys))

map_append : (f : List ℕ → List ℕ) (xs ys : Places) → map f (xs ++ ys) ≡ map f xs ++ map f ys
map_append f [] ys = refl
map_append f (x ∷ xs) ys = ap (λ ps. f x ∷ ps) (map_append f xs ys)

stepped_group : (t p : List ℕ) (inside : Places) → map (λ q. t ++ q) (map (λ q. p ++ q) inside) ≡ map (λ q. (t ++ p) ++ q) inside
stepped_group t p [] = refl
stepped_group t p (x ∷ inside) =
    ap (λ (y : List ℕ). y ∷ map (λ q. t ++ q) (map (λ q. p ++ q) inside)) (sym (append_assoc t p x))
    ∙ ap (λ ys. ((t ++ p) ++ x) ∷ ys) (stepped_group t p inside)

all_places-stepped : (s : Step) (gs : List Group) → all_places (map (stepped s) gs) ≡ map (λ q. step_pointer s ++ q) (all_places gs)
all_places-stepped s [] = refl
all_places-stepped s (g ∷ gs) =
    ap (λ ps. group_places (stepped s g) ++ ps) (all_places-stepped s gs)
    ∙ ap (λ ps. ps ++ map (λ q. step_pointer s ++ q) (all_places gs)) (sym (stepped_group (step_pointer s) (pointer_along g.0) g.1))
    ∙ sym (map_append (λ q. step_pointer s ++ q) (group_places g) (all_places gs))

-- ## Places that are made of groups

-- the groups of these places: what is at their ends, their order, and how each path begins
pub record AreGrouped (L : Json → Path → Places → Type 0) (F : Path → Type 0) (v : Json) (places : Places) : Type 0 where
  pub groups : List Group
  pub places_are : places ≡ all_places groups
  pub order : GroupsAreOrdered groups
  pub leaves : Each (λ (g : Group). L v g.0 g.1) groups
  pub begin : Each (λ (g : Group). F g.0) groups

abbrev pub Any : Path → Type 0
Any p = ⊤

abbrev pub BeginsAt : Step → Path → Type 0
BeginsAt s p = (tail : Path) × (p ≡ s ∷ tail)

abbrev pub BeginsIn : List (List ℕ) → Path → Type 0
BeginsIn [] p = ⊥
BeginsIn (n ∷ ns) p = BeginsAt (to_member n) p ⊎ BeginsIn ns p

abbrev pub BeginsFrom : ℕ → Path → Type 0
BeginsFrom i p = (k : ℕ) × (i ≤ k) × BeginsAt (to_element k) p

-- the places of a part are places of the value around it, at the end of a longer path
pub record Lifts (L : Json → Path → Places → Type 0) : Type 0 where
  pub step : (s : Step) (v w : Json) (p : Path) (inside : Places) → part_through s v ≡ Some w → L w p inside → L v (s ∷ p) inside

pub weaker : (L : Json → Path → Places → Type 0) (F G : Path → Type 0) (v : Json) (places : Places) → ((p : Path) → F p → G p) → AreGrouped L F v places → AreGrouped L G v places
weaker L F G v places more g = record {
  groups = g.groups;
  places_are = g.places_are;
  order = g.order;
  leaves = g.leaves;
  begin = each_weaker (λ (h : Group). F h.0) (λ (h : Group). G h.0) g.groups (λ h. more h.0) g.begin;
}

pub none : (L : Json → Path → Places → Type 0) (F : Path → Type 0) (v : Json) → AreGrouped L F v []
none L F v = record { groups = []; places_are = refl; order = tt; leaves = tt; begin = tt }

map_same : (places : Places) → map (λ q. [] ++ q) places ≡ places
map_same [] = refl
map_same (p ∷ places) = ap (λ ps. p ∷ ps) (map_same places)

-- places at the value itself
pub one : (L : Json → Path → Places → Type 0) (v : Json) (inside : Places) → L v [] inside → AreGrouped L (λ p. p ≡ []) v inside
one L v inside leaf = record {
  groups = ([], inside) ∷ [];
  places_are = sym (map_same inside) ∙ sym (append-nil (map (λ q. [] ++ q) inside));
  order = (tt, tt);
  leaves = (leaf, tt);
  begin = (refl, tt);
}

-- places in a part of the value
pub inward : (L : Json → Path → Places → Type 0) → Lifts L → (F : Path → Type 0) (s : Step) (v w : Json) (places : Places) → part_through s v ≡ Some w →
    AreGrouped L F w places → AreGrouped L (BeginsAt s) v (map (λ q. step_pointer s ++ q) places)
inward L lifts F s v w places is g = record {
  groups = map (stepped s) g.groups;
  places_are = ap (λ ps. map (λ q. step_pointer s ++ q) ps) g.places_are ∙ sym (all_places-stepped s g.groups);
  order = ordered_stepped s g.groups g.order;
  leaves = each_map (stepped s) (λ (h : Group). L v h.0 h.1) g.groups
      (each_weaker (λ (h : Group). L w h.0 h.1) (λ (h : Group). L v (s ∷ h.0) h.1) g.groups (λ h. lifts.step s v w h.0 h.1 is) g.leaves);
  begin = each_map (stepped s) (λ (h : Group). BeginsAt s h.0) g.groups
      (each_weaker (λ (h : Group). F h.0) (λ (h : Group). BeginsAt s (s ∷ h.0)) g.groups (λ h of_h. (h.0, refl)) g.begin);
}

-- some places after others
pub joined_places : (L : Json → Path → Places → Type 0) (F G : Path → Type 0) (v : Json) (p q : Places) → ((x y : Path) → F x → G y → ComesBefore x y) →
    AreGrouped L F v p → AreGrouped L G v q → AreGrouped L (λ x. F x ⊎ G x) v (p ++ q)
joined_places L F G v p q before a b = record {
  groups = a.groups ++ b.groups;
  places_are = ap (λ ps. ps ++ q) a.places_are ∙ ap (λ ps. all_places a.groups ++ ps) b.places_are ∙ sym (all_places-append a.groups b.groups);
  order = ordered_append F G a.groups b.groups before a.begin b.begin a.order b.order;
  leaves = each_append (λ (g : Group). L v g.0 g.1) a.groups b.groups a.leaves b.leaves;
  begin = each_append (λ (g : Group). F g.0 ⊎ G g.0) a.groups b.groups
      (each_weaker (λ (g : Group). F g.0) (λ (g : Group). F g.0 ⊎ G g.0) a.groups (λ g. inl) a.begin)
      (each_weaker (λ (g : Group). G g.0) (λ (g : Group). F g.0 ⊎ G g.0) b.groups (λ g. inr) b.begin);
}

-- a path that begins with an earlier step comes first
before_steps : (s t : Step) (x y : Path) → StepComesBefore s t → BeginsAt s x → BeginsAt t y → ComesBefore x y
before_steps s t x y before of_x of_y =
    subst (λ p. ComesBefore p y) (sym of_x.1) (subst (λ q. ComesBefore (s ∷ of_x.0) q) (sym of_y.1) (inl before))

abbrev pub AllAfter : List ℕ → List (List ℕ) → Type 0
AllAfter n [] = ⊤
AllAfter n (m ∷ ms) = (slice_cmp nat_cmp n m ≡ Less) × AllAfter n ms

before_names : (n : List ℕ) (ns : List (List ℕ)) (x y : Path) → AllAfter n ns → BeginsAt (to_member n) x → BeginsIn ns y → ComesBefore x y
before_names n [] x y after of_x of_y = absurd of_y
before_names n (m ∷ ns) x y after of_x (inl here) = before_steps (to_member n) (to_member m) x y after.0 of_x here
before_names n (m ∷ ns) x y after of_x (inr later) = before_names n ns x y after.1 of_x later

-- the places in a member, and then those in members of later names
pub then_named : (L : Json → Path → Places → Type 0) (n : List ℕ) (ns : List (List ℕ)) (v : Json) (p q : Places) → AllAfter n ns →
    AreGrouped L (BeginsAt (to_member n)) v p → AreGrouped L (BeginsIn ns) v q → AreGrouped L (BeginsIn (n ∷ ns)) v (p ++ q)
then_named L n ns v p q after a b =
    joined_places L (BeginsAt (to_member n)) (BeginsIn ns) v p q (λ x y. before_names n ns x y after) a b

pub last_named : (L : Json → Path → Places → Type 0) (n : List ℕ) (v : Json) (p : Places) → AreGrouped L (BeginsAt (to_member n)) v p → AreGrouped L (BeginsIn (n ∷ [])) v p
last_named L n v p a = weaker L (BeginsAt (to_member n)) (BeginsIn (n ∷ [])) v p (λ x. inl) a

-- ## What is asked of values, and of the members of an object

abbrev pub IsGood : (Json → Path → Places → Type 0) → Judge → Type 0
IsGood L J = (w : Json) → IsWellFormed w → AreGrouped L Any w (J w)

abbrev pub IsGoodOfMembers : (Json → Path → Places → Type 0) → (Path → Type 0) → MembersJudge → Type 0
IsGoodOfMembers L F M = (ms : Members) → IsWellFormed (object ms) → AreGrouped L F (object ms) (M ms)

-- of any value it may be said that it is wrong itself, and that a member is missing
pub record Says (L : Json → Path → Places → Type 0) : Type 0 where
  pub lifts : Lifts L
  pub wrong : (v : Json) → L v [] here
  pub missing : (n : List ℕ) (ms : Members) → value_under n ms ≡ None → L (object ms) (to_member n ∷ []) here

any : (L : Json → Path → Places → Type 0) (F : Path → Type 0) (v : Json) (places : Places) → AreGrouped L F v places → AreGrouped L Any v places
any L F v places g = weaker L F Any v places (λ p f. tt) g

wrong_here : (L : Json → Path → Places → Type 0) → Says L → (v : Json) → AreGrouped L Any v here
wrong_here L says v = any L (λ p. p ≡ []) v here (one L v here (says.wrong v))

pub good_is : (L : Json → Path → Places → Type 0) → Says L → (test : Json → Bool) → IsGood L (is test)
good_is L says test w formed =
    elim (test w) as (λ b. AreGrouped L Any w (if b then [] else here)) [
      | true ↦ none L Any w
      | false ↦ wrong_here L says w
    ]

value_formed : (n : List ℕ) (ms : Members) (w : Json) → MembersAreWellFormed ms → value_under n ms ≡ Some w → IsWellFormed w
value_formed n no_members w formed is = absurd cc
value_formed n (member m v ms) w formed is = go (bytes_eq n m) is (value_formed n ms w formed.2)
  where
    go : (b : Bool) → (if b then Some v else value_under n ms) ≡ Some w → (value_under n ms ≡ Some w → IsWellFormed w) → IsWellFormed w
    go true same later = let eq : v ≡ w = cc in subst IsWellFormed eq formed.1
    go false same later = later same

missing_here : (L : Json → Path → Places → Type 0) → Says L → (n : List ℕ) (ms : Members) → value_under n ms ≡ None → AreGrouped L (BeginsAt (to_member n)) (object ms) (in_member n here)
missing_here L says n ms is = record {
  groups = (to_member n ∷ [], here) ∷ [];
  places_are = ap (λ (p : List ℕ). p ∷ []) (sym (append-nil (step_pointer (to_member n) ++ [])));
  order = (tt, tt);
  leaves = (says.missing n ms is, tt);
  begin = (([], refl), tt);
}

pub good_required : (L : Json → Path → Places → Type 0) → Says L → (n : List ℕ) (J : Judge) → IsGood L J → IsGoodOfMembers L (BeginsAt (to_member n)) (required_member n J)
good_required L says n J good ms formed = go (value_under n ms) refl
  where
    go : (o : Option Json) → value_under n ms ≡ o → AreGrouped L (BeginsAt (to_member n)) (object ms) (in_member n (option_map_or J o here))
    go None is = missing_here L says n ms is
    go (Some w) is = inward L says.lifts Any (to_member n) (object ms) w (J w) is (good w (value_formed n ms w formed.1 is))

pub good_optional : (L : Json → Path → Places → Type 0) → Lifts L → (n : List ℕ) (J : Judge) → IsGood L J → IsGoodOfMembers L (BeginsAt (to_member n)) (optional_member n J)
good_optional L lifts n J good ms formed = go (value_under n ms) refl
  where
    go : (o : Option Json) → value_under n ms ≡ o → AreGrouped L (BeginsAt (to_member n)) (object ms) (in_member n (option_map_or J o []))
    go None is = none L (BeginsAt (to_member n)) (object ms)
    go (Some w) is = inward L lifts Any (to_member n) (object ms) w (J w) is (good w (value_formed n ms w formed.1 is))

abbrev pub AreAscending : List (List ℕ) → Type 0
AreAscending [] = ⊤
AreAscending (n ∷ ns) = AllAfter n ns × AreAscending ns

pub good_optional_members : (L : Json → Path → Places → Type 0) → Lifts L → (names : List (List ℕ)) (J : Judge) → AreAscending names → IsGood L J → IsGoodOfMembers L (BeginsIn names) (optional_members names J)
good_optional_members L lifts [] J ascend good ms formed = none L (BeginsIn []) (object ms)
good_optional_members L lifts (n ∷ ns) J ascend good ms formed =
    then_named L n ns (object ms) (optional_member n J ms) (optional_members ns J ms) ascend.0 (good_optional L lifts n J good ms formed) (good_optional_members L lifts ns J ascend.1 good ms formed)

pub good_object_with : (L : Json → Path → Places → Type 0) → Says L → (F : Path → Type 0) (M : MembersJudge) → IsGoodOfMembers L F M → IsGood L (object_with M)
good_object_with L says F M good null formed = wrong_here L says null
good_object_with L says F M good (boolean b) formed = wrong_here L says (boolean b)
good_object_with L says F M good (integer n) formed = wrong_here L says (integer n)
good_object_with L says F M good (string t) formed = wrong_here L says (string t)
good_object_with L says F M good (array es) formed = wrong_here L says (array es)
good_object_with L says F M good (object ms) formed = any L F (object ms) (M ms) (good ms formed)

pub good_if_object : (L : Json → Path → Places → Type 0) (F : Path → Type 0) (M : MembersJudge) → IsGoodOfMembers L F M → IsGood L (if_object M)
good_if_object L F M good null formed = none L Any null
good_if_object L F M good (boolean b) formed = none L Any (boolean b)
good_if_object L F M good (integer n) formed = none L Any (integer n)
good_if_object L F M good (string t) formed = none L Any (string t)
good_if_object L F M good (array es) formed = none L Any (array es)
good_if_object L F M good (object ms) formed = any L F (object ms) (M ms) (good ms formed)

-- ## The members of an object, and the elements of a list

abbrev pub names : Members → List (List ℕ)
names no_members = []
names (member n v ms) = n ∷ names ms

pub rest_ordered : (m : List ℕ × Json) (ms : List (List ℕ × Json)) → AreOrdered (m ∷ ms) → AreOrdered ms
rest_ordered m [] ordered = tt
rest_ordered m (n ∷ ms) ordered = ordered.1

after_earlier : (a b : List ℕ) (ns : List (List ℕ)) → slice_cmp nat_cmp a b ≡ Less → AllAfter b ns → AllAfter a ns
after_earlier a b [] before after = tt
after_earlier a b (n ∷ ns) before after = (nat_list_cmp_total.trans a b n before after.0, after_earlier a b ns before after.1)

pub names_after : (n : List ℕ) (v : Json) (ms : Members) → AreOrdered (member_list (member n v ms)) → AllAfter n (names ms)
names_after n v no_members ordered = tt
names_after n v (member m w ms) ordered = (ordered.0, after_earlier n m (names ms) ordered.0 (names_after m w ms ordered.1))

differs : (a b : List ℕ) → slice_cmp nat_cmp a b ≡ Less → bytes_eq b a ≡ false
differs a b less = sym (is_eq-slice_cmp b a) ∙ ap is_eq (nat_list_cmp_total.antisymm b a ∙ ap ordering_reverse less)

-- a name under which a value is found is none that comes before all names
pub other_name : (n m : List ℕ) (ms : Members) (w : Json) → AllAfter n (names ms) → value_under m ms ≡ Some w → bytes_eq m n ≡ false
other_name n m no_members w after is = absurd cc
other_name n m (member k v ms) w after is = go (bytes_eq m k) refl is (other_name n m ms w after.1)
  where
    go : (b : Bool) → bytes_eq m k ≡ b → (if b then Some v else value_under m ms) ≡ Some w → (value_under m ms ≡ Some w → bytes_eq m n ≡ false) → bytes_eq m n ≡ false
    go true same found later =
        let named : m ≡ k = (bytes_eq-Decides m k).0 same in
        differs n m (subst (λ x. slice_cmp nat_cmp n x ≡ Less) (sym named) after.0)
    go false other found later = later found

pub good_each_member : (L : Json → Path → Places → Type 0) → Lifts L → (J : Judge) → IsGood L J → (ms : Members) → IsWellFormed (object ms) → AreGrouped L (BeginsIn (names ms)) (object ms) (each_member J ms)
good_each_member L lifts J good all formed = go all formed.0 formed.1 (λ n w is. is)
  where
    go : (ms : Members) → AreOrdered (member_list ms) → MembersAreWellFormed ms → ((n : List ℕ) (w : Json) → value_under n ms ≡ Some w → value_under n all ≡ Some w) → AreGrouped L (BeginsIn (names ms)) (object all) (each_member J ms)
    go no_members ordered are found = none L (BeginsIn []) (object all)
    go (member n v ms) ordered are found =
        let after = names_after n v ms ordered in
        let itself : bytes_eq n n ≡ true = (bytes_eq-Decides n n).1 refl in
        then_named L n (names ms) (object all) (in_member n (J v)) (each_member J ms) after
        (inward L lifts Any (to_member n) (object all) v (J v) (found n v (ap (λ b. if b then Some v else value_under n ms) itself)) (good v are.1))
        (go ms (rest_ordered (n, v) (member_list ms) ordered) are.2
        (λ m w is. found m w (ap (λ b. if b then Some v else value_under m ms) (other_name n m ms w after is) ∙ is)))

from_later : (i : ℕ) (p : Path) → BeginsAt (to_element i) p ⊎ BeginsFrom (i + 1) p → BeginsFrom i p
from_later i p (inl here) = (i, omega arith, here)
from_later i p (inr later) = (later.0, omega (arith, later.1), later.2)

pub good_each_element : (L : Json → Path → Places → Type 0) → Lifts L → (J : Judge) → IsGood L J → (es : Elements) → ElementsAreWellFormed es → AreGrouped L (BeginsFrom 0) (array es) (each_element J 0 es)
good_each_element L lifts J good all formed = go 0 all formed (λ k w is. rw_index k w is)
  where
    rw_index : (k : ℕ) (w : Json) → element_of k all ≡ Some w → element_of (0 + k) all ≡ Some w
    rw_index k w is = let same : 0 + k ≡ k = omega arith in ap (λ n. element_of n all) same ∙ is

    go : (i : ℕ) (es : Elements) → ElementsAreWellFormed es → ((k : ℕ) (w : Json) → element_of k es ≡ Some w → element_of (i + k) all ≡ Some w) → AreGrouped L (BeginsFrom i) (array all) (each_element J i es)
    go i no_elements are found = none L (BeginsFrom i) (array all)
    go i (element v es) are found =
        let here_is : i + 0 ≡ i = omega arith in
        weaker L (λ p. BeginsAt (to_element i) p ⊎ BeginsFrom (i + 1) p) (BeginsFrom i) (array all) (in_element i (J v) ++ each_element J (i + 1) es) (from_later i)
        (joined_places L (BeginsAt (to_element i)) (BeginsFrom (i + 1)) (array all) (in_element i (J v)) (each_element J (i + 1) es)
        (λ x y of_x of_y. before_steps (to_element i) (to_element of_y.0) x y (omega (arith, of_y.1)) of_x of_y.2)
        (inward L lifts Any (to_element i) (array all) v (J v) (sym (ap (λ n. element_of n all) here_is) ∙ found 0 v refl) (good v are.0))
        (go (i + 1) es are.1 (λ k w is. let next : i + 1 + k ≡ i + suc k = omega arith in ap (λ n. element_of n all) next ∙ found (suc k) w is)))

pub good_list_of : (L : Json → Path → Places → Type 0) → Says L → (J : Judge) → IsGood L J → IsGood L (list_of J)
good_list_of L says J good null formed = wrong_here L says null
good_list_of L says J good (boolean b) formed = wrong_here L says (boolean b)
good_list_of L says J good (integer n) formed = wrong_here L says (integer n)
good_list_of L says J good (string t) formed = wrong_here L says (string t)
good_list_of L says J good (array es) formed = any L (BeginsFrom 0) (array es) (each_element J 0 es) (good_each_element L says.lifts J good es formed)
good_list_of L says J good (object ms) formed = wrong_here L says (object ms)

pub good_list_of_some : (L : Json → Path → Places → Type 0) → Says L → (J : Judge) → IsGood L J → IsGood L (list_of_some J)
good_list_of_some L says J good null formed = wrong_here L says null
good_list_of_some L says J good (boolean b) formed = wrong_here L says (boolean b)
good_list_of_some L says J good (integer n) formed = wrong_here L says (integer n)
good_list_of_some L says J good (string t) formed = wrong_here L says (string t)
good_list_of_some L says J good (array no_elements) formed = wrong_here L says (array no_elements)
good_list_of_some L says J good (array (element v es)) formed = any L (BeginsFrom 0) (array (element v es)) (each_element J 0 (element v es)) (good_each_element L says.lifts J good (element v es) formed)
good_list_of_some L says J good (object ms) formed = wrong_here L says (object ms)

pub good_if_list : (L : Json → Path → Places → Type 0) → Lifts L → (J : Judge) → IsGood L J → IsGood L (if_list J)
good_if_list L lifts J good null formed = none L Any null
good_if_list L lifts J good (boolean b) formed = none L Any (boolean b)
good_if_list L lifts J good (integer n) formed = none L Any (integer n)
good_if_list L lifts J good (string t) formed = none L Any (string t)
good_if_list L lifts J good (array es) formed = any L (BeginsFrom 0) (array es) (each_element J 0 es) (good_each_element L lifts J good es formed)
good_if_list L lifts J good (object ms) formed = none L Any (object ms)

pub good_object_of_some : (L : Json → Path → Places → Type 0) → Says L → (J : Judge) → IsGood L J → IsGood L (object_of_some J)
good_object_of_some L says J good null formed = wrong_here L says null
good_object_of_some L says J good (boolean b) formed = wrong_here L says (boolean b)
good_object_of_some L says J good (integer n) formed = wrong_here L says (integer n)
good_object_of_some L says J good (string t) formed = wrong_here L says (string t)
good_object_of_some L says J good (array es) formed = wrong_here L says (array es)
good_object_of_some L says J good (object no_members) formed = wrong_here L says (object no_members)
good_object_of_some L says J good (object (member n v ms)) formed =
    any L (BeginsIn (names (member n v ms))) (object (member n v ms)) (each_member J (member n v ms)) (good_each_member L says.lifts J good (member n v ms) formed)

pub good_texts : (L : Json → Path → Places → Type 0) → Says L → (test : List ℕ → Bool) → IsGood L (texts test)
good_texts L says test null formed = good_is L says (is_text_with test) null formed
good_texts L says test (boolean b) formed = good_is L says (is_text_with test) (boolean b) formed
good_texts L says test (integer n) formed = good_is L says (is_text_with test) (integer n) formed
good_texts L says test (string t) formed = good_is L says (is_text_with test) (string t) formed
good_texts L says test (array es) formed = good_list_of_some L says (is (is_text_with test)) (good_is L says (is_text_with test)) (array es) formed
good_texts L says test (object ms) formed = good_is L says (is_text_with test) (object ms) formed
