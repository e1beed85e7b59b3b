-- Links and ends that make lists: what the calls change.
use Rattle.std.proofs.Common.{◌≡◌, ◌==◌, ◌≢◌, ◌⊎◌, ◌<◌, ◌≤◌, ℕ, zero, suc, true, false, List, [], ◌∷◌, ◌++◌, length, get_or, set, replicate, Option, Some, None, IfSome, inl, inr, sym, refl, ap, subst, ◌∙◌, arith}
use Rattle.std.proofs.lemmas.Bool.Decides.{nat_tests, eqb_tells}
use Rattle.std.proofs.lemmas.List.{get_or-set_same, get_or-set_other, length-set, length-map, get_or-map, ext_get_or, length-replicate}
use Rattle.slot_lists.specs.declared.link.SlotLink.{SlotLink}
use Rattle.slot_lists.specs.declared.link.Ends.{Ends}
use Rattle.slot_lists.specs.Lists.{Lists, is_among, without, first_of}
use Rattle.slot_lists.specs.Links.{AreDistinct, AreNeighbours, last_after, beside, link_at, previous_in, next_in, ends_at, slots_from, lists_in, Makes, with_next, with_previous, ends_with, ends_without, first_or}
use Rattle.slot_lists.proofs.Among.{differ, among_push, distinct_push, among_without, distinct_without, at_most_capacity, among_set}
use Rattle.slot_lists.proofs.Neighbours.{Appended, Bridged, before_within, below_capacity, last_is_among, last_push, same_neighbours, neighbours_push, neighbours_without, first_without, last_without, first_among, slots_walked, after_within}

-- the lists that links and ends make are those that are seen
shown_at : (links : List SlotLink) (ends : List Ends) (lists : List (List ℕ)) (i : ℕ) → Makes links ends lists → i < length ends
    → get_or lists i [] ≡ get_or (lists_in links ends) i []
shown_at links ends lists i m within =
    let xs : List ℕ = get_or lists i [] in
    let few : length (get_or lists i []) ≤ length links
    = at_most_capacity (length links) (get_or lists i []) (m.distinct i) (λ slot has. below_capacity (length links) _ _ None (get_or lists i []) slot (m.neighbours i) has) in
    let walked : slots_from links (length links) (first_of (get_or lists i [])) ≡ get_or lists i []
    = slots_walked links _ None (get_or lists i []) (length links) (length links) (m.neighbours i) few in
    let at : get_or (lists_in links ends) i [] ≡ slots_from links (length links) (ends_at ends i).first
    = get_or-map (λ (e : Ends). slots_from links (length links) e.first) ends i (record { first = None; last = None }) [] within in
    sym (at ∙ (ap (slots_from links (length links)) (m.first i within) ∙ walked))

pub shown : (links : List SlotLink) (ends : List Ends) (lists : List (List ℕ)) → Makes links ends lists → lists ≡ lists_in links ends
shown links ends lists m =
    let many : length lists ≡ length (lists_in links ends) = m.count ∙ sym (length-map ends (λ (e : Ends). slots_from links (length links) e.first)) in
    ext_get_or [] lists (lists_in links ends) many (λ i h. shown_at links ends lists i m (subst (λ n. i < n) m.count h))

pub makes_seen : (links : List SlotLink) (ends : List Ends) (lists : List (List ℕ)) → Makes links ends lists → Makes links ends (lists_in links ends)
makes_seen links ends lists m = subst (Makes links ends) (shown links ends lists m) m

-- ---- links that are written

pub length-with_next : (o next : Option ℕ) (links : List SlotLink) → length (with_next o next links) ≡ length links
length-with_next None next links = refl
length-with_next (Some slot) next links = length-set links slot _

pub length-with_previous : (o previous : Option ℕ) (links : List SlotLink) → length (with_previous o previous links) ≡ length links
length-with_previous None previous links = refl
length-with_previous (Some slot) previous links = length-set links slot _

no_link : SlotLink
no_link = record { previous = None; next = None }

pub next_written : (slot : ℕ) (o next : Option ℕ) (links : List SlotLink) → slot < length links → o ≡ Some slot → next_in (with_next o next links) slot ≡ next
next_written slot None next links h e = absurd cc
next_written slot (Some s) next links h e =
    let same : s ≡ slot = cc in
    let within : s < length links = omega arith in
    ap (λ n. next_in (with_next (Some s) next links) n) (sym same) ∙ ap (λ (l : SlotLink). l.next) (get_or-set_same links s _ _ within)

pub next_elsewhere : (slot : ℕ) (o next : Option ℕ) (links : List SlotLink) → (o ≡ Some slot → ⊥) → next_in (with_next o next links) slot ≡ next_in links slot
next_elsewhere slot None next links h = refl
next_elsewhere slot (Some s) next links h = ap (λ (l : SlotLink). l.next) (get_or-set_other links s slot _ _ (λ e. h (ap (λ n. Some n) (sym e))))

previous_at : (slot s : ℕ) (next : Option ℕ) (links : List SlotLink) → (slot ≡ s) ⊎ (slot ≢ s) → s < length links → previous_in (with_next (Some s) next links) slot ≡ previous_in links slot
previous_at slot s next links (inl e) h = ap (λ n. previous_in (with_next (Some s) next links) n) e ∙ (ap (λ (l : SlotLink). l.previous) (get_or-set_same links s _ _ h) ∙ ap (previous_in links) (sym e))
previous_at slot s next links (inr e) h = ap (λ (l : SlotLink). l.previous) (get_or-set_other links s slot _ _ e)

either_slot : (a b : ℕ) → (a ≡ b) ⊎ (a ≢ b)
either_slot a b = elim (eqb_tells a b) [ inl w ↦ inl w.1 | inr w ↦ inr w.1 ]

pub previous_stays : (slot : ℕ) (o next : Option ℕ) (links : List SlotLink) → IfSome o (λ s. s < length links) → previous_in (with_next o next links) slot ≡ previous_in links slot
previous_stays slot None next links h = refl
previous_stays slot (Some s) next links h = previous_at slot s next links (either_slot slot s) h

pub previous_written : (slot : ℕ) (o previous : Option ℕ) (links : List SlotLink) → slot < length links → o ≡ Some slot → previous_in (with_previous o previous links) slot ≡ previous
previous_written slot None previous links h e = absurd cc
previous_written slot (Some s) previous links h e =
    let same : s ≡ slot = cc in
    let within : s < length links = omega arith in
    ap (λ n. previous_in (with_previous (Some s) previous links) n) (sym same) ∙ ap (λ (l : SlotLink). l.previous) (get_or-set_same links s _ _ within)

pub previous_elsewhere : (slot : ℕ) (o previous : Option ℕ) (links : List SlotLink) → (o ≡ Some slot → ⊥) → previous_in (with_previous o previous links) slot ≡ previous_in links slot
previous_elsewhere slot None previous links h = refl
previous_elsewhere slot (Some s) previous links h = ap (λ (l : SlotLink). l.previous) (get_or-set_other links s slot _ _ (λ e. h (ap (λ n. Some n) (sym e))))

next_at : (slot s : ℕ) (previous : Option ℕ) (links : List SlotLink) → (slot ≡ s) ⊎ (slot ≢ s) → s < length links → next_in (with_previous (Some s) previous links) slot ≡ next_in links slot
next_at slot s previous links (inl e) h = ap (λ n. next_in (with_previous (Some s) previous links) n) e ∙ (ap (λ (l : SlotLink). l.next) (get_or-set_same links s _ _ h) ∙ ap (next_in links) (sym e))
next_at slot s previous links (inr e) h = ap (λ (l : SlotLink). l.next) (get_or-set_other links s slot _ _ e)

pub next_stays : (slot : ℕ) (o previous : Option ℕ) (links : List SlotLink) → IfSome o (λ s. s < length links) → next_in (with_previous o previous links) slot ≡ next_in links slot
next_stays slot None previous links h = refl
next_stays slot (Some s) previous links h = next_at slot s previous links (either_slot slot s) h

-- ---- a list that is another afterwards

at_both : (P : Ends → List ℕ → Type 0) (ends : List Ends) (lists : List (List ℕ)) (list i : ℕ) (e : Ends) (new : List ℕ)
    → list < length ends → list < length lists → P e new → ((i ≢ list) → P (ends_at ends i) (get_or lists i []))
    → P (ends_at (set ends list e) i) (get_or (set lists list new) i [])
at_both P ends lists list i e new within_ends within_lists here others = elim (eqb_tells i list) [
  | inl w ↦
      let at_list : P (ends_at (set ends list e) list) (get_or (set lists list new) list [])
      = subst (λ x. P x (get_or (set lists list new) list [])) (sym (get_or-set_same ends list e _ within_ends))
      (subst (P e) (sym (get_or-set_same lists list new [] within_lists)) here) in
      subst (λ n. P (ends_at (set ends list e) n) (get_or (set lists list new) n [])) (sym w.1) at_list
  | inr w ↦
      subst (λ x. P x (get_or (set lists list new) i [])) (sym (get_or-set_other ends list i e _ w.1))
      (subst (P (ends_at ends i)) (sym (get_or-set_other lists list i new [] w.1)) (others w.1))
]

-- the conditions on the links, on the ends and on the slots of the new list
record Changed (links links2 : List SlotLink) (lists : List (List ℕ)) (list : ℕ) (e : Ends) (new : List ℕ) : Type 0 where
  many : length links2 ≡ length links
  first : e.first ≡ first_of new
  last : e.last ≡ last_after None new
  distinct : AreDistinct new
  neighbours : AreNeighbours (length links) (previous_in links2) (next_in links2) None new
  others : (i : ℕ) → i ≢ list → AreNeighbours (length links) (previous_in links2) (next_in links2) None (get_or lists i [])
  apart : (slot i : ℕ) → is_among slot new ≡ true → is_among slot (get_or lists i []) ≡ true → i ≡ list

makes_changed : (links links2 : List SlotLink) (ends : List Ends) (lists : List (List ℕ)) (list : ℕ) (e : Ends) (new : List ℕ)
    → Makes links ends lists → list < length ends → Changed links links2 lists list e new → Makes links2 (set ends list e) (set lists list new)
makes_changed links links2 ends lists list e new m within h =
    let within_lists : list < length lists = subst (λ n. list < n) (sym m.count) within in
    record {
      count = length-set lists list new ∙ (m.count ∙ sym (length-set ends list e));
      first = λ i below. at_both (λ x l. x.first ≡ first_of l) ends lists list i e new within within_lists h.first
          (λ other. m.first i (subst (λ n. i < n) (length-set ends list e) below));
      last = λ i below. at_both (λ x l. x.last ≡ last_after None l) ends lists list i e new within within_lists h.last
          (λ other. m.last i (subst (λ n. i < n) (length-set ends list e) below));
      neighbours = λ i. at_both (λ x l. AreNeighbours (length links2) (previous_in links2) (next_in links2) None l) ends lists list i e new within within_lists
          (subst (λ n. AreNeighbours n (previous_in links2) (next_in links2) None new) (sym h.many) h.neighbours)
          (λ other. subst (λ n. AreNeighbours n (previous_in links2) (next_in links2) None (get_or lists i [])) (sym h.many) (h.others i other));
      distinct = λ i. at_both (λ x l. AreDistinct l) ends lists list i e new within within_lists h.distinct (λ other. m.distinct i);
      apart = λ i j slot a b. elim (among_set slot i list new lists a) [
        | inl old ↦ elim (among_set slot j list new lists b) [
          | inl old2 ↦ m.apart i j slot old old2
          | inr new2 ↦ h.apart slot i new2.1 old ∙ sym new2.0
        ]
        | inr new1 ↦ elim (among_set slot j list new lists b) [
          | inl old2 ↦ new1.0 ∙ sym (h.apart slot j new1.1 old2)
          | inr new2 ↦ new1.0 ∙ sym new2.0
        ]
      ];
    }

pub if_some : (o : Option ℕ) (P : ℕ → Type 0) → ((z : ℕ) → o ≡ Some z → P z) → IfSome o P
if_some None P h = tt
if_some (Some z) P h = h z refl

-- ---- a slot at the end

-- the links once a slot was put after the last one
abbrev pub pushed_links : List SlotLink → Option ℕ → ℕ → List SlotLink
pushed_links links last slot = with_next last (Some slot) (set links slot (record { previous = last; next = None }))

appended : (links : List SlotLink) (last : Option ℕ) (slot : ℕ) → slot < length links → (last ≡ Some slot → ⊥) → ((z : ℕ) → last ≡ Some z → z < length links)
    → Appended (previous_in links) (next_in links) (previous_in (pushed_links links last slot)) (next_in (pushed_links links last slot)) slot last
appended links last slot below other bound =
    let new : SlotLink = record { previous = last; next = None } in
    let base : List SlotLink = set links slot (record { previous = last; next = None }) in
    let many : length (set links slot (record { previous = last; next = None })) ≡ length links = length-set links slot _ in
    let bound2 : (z : ℕ) → last ≡ Some z → z < length (set links slot (record { previous = last; next = None }))
    = λ z e. subst (λ n. z < n) (sym many) (bound z e) in
    let may : IfSome last (λ s. s < length (set links slot (record { previous = last; next = None }))) = if_some last _ bound2 in
    record {
      back = previous_stays slot last (Some slot) _ may ∙ ap (λ (l : SlotLink). l.previous) (get_or-set_same links slot _ _ below);
      on = next_elsewhere slot last (Some slot) _ other ∙ ap (λ (l : SlotLink). l.next) (get_or-set_same links slot _ _ below);
      others_back = λ z d. previous_stays z last (Some slot) _ may ∙ ap (λ (l : SlotLink). l.previous) (get_or-set_other links slot z _ _ (apart_from slot z d));
      last_on = λ z e d. next_written z last (Some slot) _ (bound2 z e) e;
      others_on = λ z inner d. next_elsewhere z last (Some slot) _ inner ∙ ap (λ (l : SlotLink). l.next) (get_or-set_other links slot z _ _ (apart_from slot z d));
    } where
      apart_from : (a b : ℕ) → (a == b) ≡ false → b ≢ a
      apart_from a b e = grind (arith, nat_tests)

pub makes_push : (links : List SlotLink) (ends : List Ends) (lists : List (List ℕ)) (list slot : ℕ)
    → Makes links ends lists → list < length ends → slot < length links → ((i : ℕ) → is_among slot (get_or lists i []) ≡ false)
    → Makes (pushed_links links (ends_at ends list).last slot) (set ends list (ends_with slot (ends_at ends list))) (set lists list (get_or lists list [] ++ slot ∷ []))
makes_push links ends lists list slot m within below none =
    let old : List ℕ = get_or lists list [] in
    let last : Option ℕ = (ends_at ends list).last in
    let last_is : (ends_at ends list).last ≡ last_after None (get_or lists list []) = m.last list within in
    let last_in : (z : ℕ) → (ends_at ends list).last ≡ Some z → is_among z (get_or lists list []) ≡ true
    = λ z e. last_is_among (get_or lists list []) z (sym last_is ∙ e) in
    let other : (ends_at ends list).last ≡ Some slot → ⊥
    = λ e. let has : is_among slot (get_or lists list []) ≡ true = last_in slot e in let hasnt : is_among slot (get_or lists list []) ≡ false = none list in cc in
    let bound : (z : ℕ) → (ends_at ends list).last ≡ Some z → z < length links
    = λ z e. below_capacity (length links) _ _ None (get_or lists list []) z (m.neighbours list) (last_in z e) in
    let a = appended links (ends_at ends list).last slot below other bound in
    makes_changed links (pushed_links links (ends_at ends list).last slot) ends lists list (ends_with slot (ends_at ends list)) (get_or lists list [] ++ slot ∷ []) m within
    (record {
      many = length-with_next (ends_at ends list).last (Some slot) (set links slot (record { previous = (ends_at ends list).last; next = None })) ∙ length-set links slot _;
      first = ap (λ o. Some (first_or slot o)) (m.first list within) ∙ first_push slot (get_or lists list []);
      last = sym (last_push None (get_or lists list []) slot);
      distinct = distinct_push slot (get_or lists list []) (m.distinct list) (none list);
      neighbours = neighbours_push (length links) slot (previous_in links) (next_in links) _ _ None (get_or lists list []) below (m.distinct list) (none list)
          (subst (Appended (previous_in links) (next_in links) (previous_in (pushed_links links (ends_at ends list).last slot)) (next_in (pushed_links links (ends_at ends list).last slot)) slot) last_is a)
          (m.neighbours list);
      others = λ i differs. same_neighbours (length links) (previous_in links) (next_in links) _ _ None (get_or lists i [])
          (λ z has. a.others_back z (another i z has))
          (λ z has. a.others_on z (λ e. differs (m.apart i list z has (last_in z e))) (another i z has))
          (m.neighbours i);
      apart = λ s i new had. elim (among_push s slot (get_or lists list []) new) [
        | inl old1 ↦ m.apart i list s had old1
        | inr same ↦
            let has : is_among slot (get_or lists i []) ≡ true = subst (λ n. is_among n (get_or lists i []) ≡ true) same had in
            let hasnt : is_among slot (get_or lists i []) ≡ false = none i in
            absurd cc
      ];
    }) where
      first_push : (s : ℕ) (l : List ℕ) → Some (first_or s (first_of l)) ≡ first_of (l ++ s ∷ [])
      first_push s [] = refl
      first_push s (x ∷ xs) = refl

      another : (i z : ℕ) → is_among z (get_or lists i []) ≡ true → (slot == z) ≡ false
      another i z has = differ slot z (λ e.
          let found : is_among slot (get_or lists i []) ≡ true = subst (λ n. is_among n (get_or lists i []) ≡ true) (sym e) has in
          let hasnt : is_among slot (get_or lists i []) ≡ false = none i in
          cc)

-- ---- a slot that is taken out

-- the links once the slot with this link was taken out
abbrev pub bridged_links : List SlotLink → SlotLink → List SlotLink
bridged_links links link = with_previous link.next link.previous (with_next link.previous link.next links)

bridged : (links : List SlotLink) (slot : ℕ) → ((z : ℕ) → previous_in links slot ≡ Some z → z < length links) → ((z : ℕ) → next_in links slot ≡ Some z → z < length links)
    → Bridged (previous_in links) (next_in links) (previous_in (bridged_links links (link_at links slot))) (next_in (bridged_links links (link_at links slot))) slot
bridged links slot back_bound on_bound =
    let b : Option ℕ = previous_in links slot in
    let a : Option ℕ = next_in links slot in
    let many : length (with_next (previous_in links slot) (next_in links slot) links) ≡ length links = length-with_next (previous_in links slot) (next_in links slot) links in
    let may_back : IfSome (previous_in links slot) (λ s. s < length links) = if_some (previous_in links slot) _ back_bound in
    let bound2 : (z : ℕ) → next_in links slot ≡ Some z → z < length (with_next (previous_in links slot) (next_in links slot) links)
    = λ z e. subst (λ n. z < n) (sym many) (on_bound z e) in
    let may_on : IfSome (next_in links slot) (λ s. s < length (with_next (previous_in links slot) (next_in links slot) links)) = if_some (next_in links slot) _ bound2 in
    record {
      next_back = λ z e. previous_written z (next_in links slot) (previous_in links slot) _ (bound2 z e) e;
      others_back = λ z inner. previous_elsewhere z (next_in links slot) (previous_in links slot) _ inner
          ∙ previous_stays z (previous_in links slot) (next_in links slot) links may_back;
      previous_on = λ z e. next_stays z (next_in links slot) (previous_in links slot) _ may_on
          ∙ next_written z (previous_in links slot) (next_in links slot) links (back_bound z e) e;
      others_on = λ z inner. next_stays z (next_in links slot) (previous_in links slot) _ may_on
          ∙ next_elsewhere z (previous_in links slot) (next_in links slot) links inner;
    }

-- the neighbours of a member are places
pub back_is_place : (links : List SlotLink) (ends : List Ends) (lists : List (List ℕ)) (list slot : ℕ) → Makes links ends lists → is_among slot (get_or lists list []) ≡ true
    → (z : ℕ) → previous_in links slot ≡ Some z → z < length links
back_is_place links ends lists list slot m has z e =
    below_capacity (length links) _ _ None (get_or lists list []) z (m.neighbours list) (before_within (length links) _ _ (get_or lists list []) slot z (m.neighbours list) has e)

pub on_is_place : (links : List SlotLink) (ends : List Ends) (lists : List (List ℕ)) (list slot : ℕ) → Makes links ends lists → is_among slot (get_or lists list []) ≡ true
    → (z : ℕ) → next_in links slot ≡ Some z → z < length links
on_is_place links ends lists list slot m has z e =
    below_capacity (length links) _ _ None (get_or lists list []) z (m.neighbours list) (after_within (length links) _ _ None (get_or lists list []) slot z (m.neighbours list) has e)

pub makes_without : (links : List SlotLink) (ends : List Ends) (lists : List (List ℕ)) (list slot : ℕ)
    → Makes links ends lists → list < length ends → is_among slot (get_or lists list []) ≡ true
    → Makes (bridged_links links (link_at links slot)) (set ends list (ends_without (link_at links slot) (ends_at ends list))) (set lists list (without slot (get_or lists list [])))
makes_without links ends lists list slot m within has =
    let b = bridged links slot (back_is_place links ends lists list slot m has) (on_is_place links ends lists list slot m has) in
    let first_is = first_without (length links) slot (previous_in links) (next_in links) (get_or lists list []) (m.distinct list) has (m.neighbours list) in
    let last_is = last_without (length links) slot (previous_in links) (next_in links) None (get_or lists list []) (m.distinct list) has (m.neighbours list) in
    makes_changed links (bridged_links links (link_at links slot)) ends lists list (ends_without (link_at links slot) (ends_at ends list)) (without slot (get_or lists list [])) m within
    (record {
      many = length-with_previous (next_in links slot) (previous_in links slot) (with_next (previous_in links slot) (next_in links slot) links)
          ∙ length-with_next (previous_in links slot) (next_in links slot) links;
      first = ap (λ o. beside (previous_in links slot) o (next_in links slot)) (m.first list within) ∙ sym first_is;
      last = ap (λ o. beside (next_in links slot) o (previous_in links slot)) (m.last list within) ∙ sym last_is;
      distinct = distinct_without slot (get_or lists list []) (m.distinct list);
      neighbours = neighbours_without (length links) slot (previous_in links) (next_in links) _ _ None (get_or lists list []) (m.distinct list) (λ y e. absurd cc) b has (m.neighbours list);
      others = λ i differs. same_neighbours (length links) (previous_in links) (next_in links) _ _ None (get_or lists i [])
          (λ z had. b.others_back z (λ e. differs (m.apart i list z had (after_within (length links) _ _ None (get_or lists list []) slot z (m.neighbours list) has e))))
          (λ z had. b.others_on z (λ e. differs (m.apart i list z had (before_within (length links) _ _ (get_or lists list []) slot z (m.neighbours list) has e))))
          (m.neighbours i);
      apart = λ s i new had. m.apart i list s had (among_without s slot (get_or lists list []) new);
    })

-- ---- no list has a slot yet

empty_at : (n i : ℕ) (nothing : List ℕ) → get_or (replicate n nothing) i nothing ≡ nothing
empty_at zero i nothing = refl
empty_at (suc n) zero nothing = refl
empty_at (suc n) (suc i) nothing = empty_at n i nothing

no_ends_at : (n i : ℕ) (none : Ends) → get_or (replicate n none) i none ≡ none
no_ends_at zero i none = refl
no_ends_at (suc n) zero none = refl
no_ends_at (suc n) (suc i) none = no_ends_at n i none

pub makes_empty : (count : ℕ) (links : List SlotLink)
    → Makes links (replicate count (record { first = None; last = None })) (replicate count [])
makes_empty count links =
    let none : Ends = record { first = None; last = None } in
    let empty : (i : ℕ) → get_or (replicate count []) i [] ≡ [] = λ i. empty_at count i [] in
    record {
      count = length-replicate count [] ∙ sym (length-replicate count (record { first = None; last = None }));
      first = λ i below. ap (λ (e : Ends). e.first) (no_ends_at count i (record { first = None; last = None })) ∙ sym (ap first_of (empty i));
      last = λ i below. ap (λ (e : Ends). e.last) (no_ends_at count i (record { first = None; last = None })) ∙ sym (ap (last_after None) (empty i));
      neighbours = λ i. subst (AreNeighbours (length links) (previous_in links) (next_in links) None) (sym (empty i)) tt;
      distinct = λ i. subst AreDistinct (sym (empty i)) tt;
      apart = λ i j slot a b.
          let hasnt : is_among slot (get_or (replicate count []) i []) ≡ false = ap (is_among slot) (empty i) in
          absurd cc;
    }

-- ---- in the words of the code

abbrev pub seen : List SlotLink → List Ends → Lists
seen links ends = record { capacity = length links; lists = lists_in links ends }

-- the view of links and ends that make these lists
pub seen_as : (links : List SlotLink) (ends : List Ends) (lists : List (List ℕ)) (capacity : ℕ) → Makes links ends lists → length links ≡ capacity
    → seen links ends ≡ record { capacity = capacity; lists = lists }
seen_as links ends lists capacity m e = λ i. record { capacity = e i; lists = sym (shown links ends lists m) i }

pub pushed_as : (links links2 : List SlotLink) (ends : List Ends) (lists : List (List ℕ)) (list slot : ℕ) (x w : Ends)
    → Makes links ends lists → list < length ends → slot < length links → ((i : ℕ) → is_among slot (get_or lists i []) ≡ false)
    → x ≡ ends_at ends list → w ≡ ends_with slot x → links2 ≡ pushed_links links x.last slot
    → Makes links2 (set ends list w) (set lists list (get_or lists list [] ++ slot ∷ []))
pushed_as links links2 ends lists list slot x w m within below none read with_slot written =
    let new : List (List ℕ) = set lists list (get_or lists list [] ++ slot ∷ []) in
    let at : Makes (pushed_links links x.last slot) (set ends list (ends_with slot x)) (set lists list (get_or lists list [] ++ slot ∷ []))
    = subst (λ e. Makes (pushed_links links e.last slot) (set ends list (ends_with slot e)) (set lists list (get_or lists list [] ++ slot ∷ []))) (sym read)
    (makes_push links ends lists list slot m within below none) in
    subst (λ l. Makes l (set ends list w) (set lists list (get_or lists list [] ++ slot ∷ []))) (sym written)
    (subst (λ e. Makes (pushed_links links x.last slot) (set ends list e) (set lists list (get_or lists list [] ++ slot ∷ []))) (sym with_slot) at)

pub taken_as : (links links2 : List SlotLink) (ends : List Ends) (lists : List (List ℕ)) (list slot : ℕ) (link : SlotLink) (x w : Ends)
    → Makes links ends lists → list < length ends → is_among slot (get_or lists list []) ≡ true
    → link ≡ link_at links slot → x ≡ ends_at ends list → w ≡ ends_without link x → links2 ≡ bridged_links links link
    → Makes links2 (set ends list w) (set lists list (without slot (get_or lists list [])))
taken_as links links2 ends lists list slot link x w m within has read_link read without_slot written =
    let at : Makes (bridged_links links link) (set ends list (ends_without link (ends_at ends list))) (set lists list (without slot (get_or lists list [])))
    = subst (λ k. Makes (bridged_links links k) (set ends list (ends_without k (ends_at ends list))) (set lists list (without slot (get_or lists list [])))) (sym read_link)
    (makes_without links ends lists list slot m within has) in
    let ends_are : w ≡ ends_without link (ends_at ends list) = without_slot ∙ ap (ends_without link) read in
    subst (λ l. Makes l (set ends list w) (set lists list (without slot (get_or lists list [])))) (sym written)
    (subst (λ e. Makes (bridged_links links link) (set ends list e) (set lists list (without slot (get_or lists list [])))) (sym ends_are) at)

pub is_below : (links : List SlotLink) (ends : List Ends) (lists : List (List ℕ)) (list slot : ℕ) → Makes links ends lists → is_among slot (get_or lists list []) ≡ true → slot < length links
is_below links ends lists list slot m has = below_capacity (length links) _ _ None (get_or lists list []) slot (m.neighbours list) has

pub if_some_bound : (o : Option ℕ) (n : ℕ) → ((z : ℕ) → o ≡ Some z → z < n) → IfSome o (λ s. s < n)
if_some_bound o n h = if_some o (λ s. s < n) h

pub last_is_place : (links : List SlotLink) (ends : List Ends) (lists : List (List ℕ)) (list : ℕ) → Makes links ends lists → list < length ends
    → (z : ℕ) → (ends_at ends list).last ≡ Some z → z < length links
last_is_place links ends lists list m within z e =
    is_below links ends lists list z m (last_is_among (get_or lists list []) z (sym (m.last list within) ∙ e))

pub first_is_place : (links : List SlotLink) (ends : List Ends) (lists : List (List ℕ)) (list : ℕ) → Makes links ends lists → list < length ends
    → (z : ℕ) → (ends_at ends list).first ≡ Some z → z < length links
first_is_place links ends lists list m within z e =
    is_below links ends lists list z m (first_among (get_or lists list []) z (sym (m.first list within) ∙ e))
