-- The entry under an id once a list by ids was changed or only a part of it was kept.
use Rattle.std.proofs.Common.{◌≡◌, ℕ, List, [], ◌∷◌, refl, sym, ap, subst, ◌∙◌, inl, inr, Bool, true, false, cond}
use Rattle.std.specs.Prelude.{Option, Some, None, not, filter}
use Rattle.std.specs.Str.{bytes_eq}
use Rattle.std.specs.Map.{lookup}
use Rattle.std.proofs.lemmas.Bool.{cases_Bool, false_from_ne_true}
use Rattle.std.proofs.lemmas.Slice.Eq.{bytes_eq-Decides}
use Rattle.std.proofs.lemmas.Map.Entries.{lookup-filter-keys}
use Rattle.wot_json.specs.Tree.{Json}
use Rattle.wot_json.specs.Lookup.{member_named}
use Rattle.wot_json.specs.Merge.{without_member}
use Rattle.wot_json.proofs.MemberOrder.{less, equal, greater, compares}
use Rattle.wot_registry.specs.Times.{Times, times_of, with_times, without_times}

abbrev TimesList : Type 0
TimesList = List (List ℕ × Times)

abbrev Entries : Type 0
Entries = List (List ℕ × Json)

-- ---- the test of an id

pub same_id : (a b : List ℕ) → bytes_eq a b ≡ true → a ≡ b
same_id a b test = (bytes_eq-Decides a b).0 test

pub own_id : (a : List ℕ) → bytes_eq a a ≡ true
own_id a = (bytes_eq-Decides a a).1 refl

pub other_id : (a b : List ℕ) → bytes_eq a b ≡ false → bytes_eq b a ≡ false
other_id a b test = false_from_ne_true (bytes_eq b a) (λ same.
    let is : true ≡ false = sym (own_id a) ∙ (subst (λ (x : List ℕ). bytes_eq a x ≡ false) (same_id b a same) test) in
    absurd (cc (is)))

-- ---- one list of descriptions

pub named_is_lookup : (id : List ℕ) (es : Entries) → member_named id es ≡ lookup (bytes_eq id) es
named_is_lookup id [] = refl
named_is_lookup id (e ∷ es) = ap (λ (r : Option Json). cond (bytes_eq id e.0) (Some e.1) r) (named_is_lookup id es)

pub without_is_filter : (id : List ℕ) (es : Entries) → without_member id es ≡ filter (λ e. not (bytes_eq id e.0)) es
without_is_filter id [] = refl
without_is_filter id (e ∷ es) = elim (cases_Bool (bytes_eq id e.0)) [
  | inl here ↦ rw here (without_is_filter id es)
  | inr apart ↦ rw apart (ap (λ (xs : Entries). e ∷ xs) (without_is_filter id es))
]

-- ---- a part by a test of ids

module _ (p : List ℕ → Bool) (id : List ℕ) where
  agrees : (other : List ℕ) → bytes_eq id other ≡ true → p other ≡ p id
  agrees other same = ap p (sym (same_id id other same))

  pub times_kept : (ts : TimesList) → times_of id (filter (λ e. p e.0) ts) ≡ cond (p id) (times_of id ts) None
  times_kept ts = lookup-filter-keys (bytes_eq id) p (p id) agrees ts

  pub named_kept : (es : Entries) → member_named id (filter (λ e. p e.0) es) ≡ cond (p id) (member_named id es) None
  named_kept es =
      named_is_lookup id (filter (λ e. p e.0) es) ∙ lookup-filter-keys (bytes_eq id) p (p id) agrees es
      ∙ ap (λ (r : Option Json). cond (p id) r None) (sym (named_is_lookup id es))

-- ---- all but an id

pub times_gone : (id : List ℕ) (ts : TimesList) → times_of id (without_times id ts) ≡ None
times_gone id ts =
    times_kept (λ (other : List ℕ). not (bytes_eq id other)) id ts
    ∙ ap (λ (b : Bool). cond (not b) (times_of id ts) None) (own_id id)

pub times_elsewhere : (id other : List ℕ) (ts : TimesList) → bytes_eq id other ≡ false → times_of other (without_times id ts) ≡ times_of other ts
times_elsewhere id other ts apart =
    times_kept (λ (x : List ℕ). not (bytes_eq id x)) other ts
    ∙ ap (λ (b : Bool). cond (not b) (times_of other ts) None) apart

pub named_gone : (id : List ℕ) (es : Entries) → member_named id (without_member id es) ≡ None
named_gone id es =
    ap (member_named id) (without_is_filter id es)
    ∙ named_kept (λ (other : List ℕ). not (bytes_eq id other)) id es
    ∙ ap (λ (b : Bool). cond (not b) (member_named id es) None) (own_id id)

pub named_elsewhere : (id other : List ℕ) (es : Entries) → bytes_eq id other ≡ false → member_named other (without_member id es) ≡ member_named other es
named_elsewhere id other es apart =
    ap (member_named other) (without_is_filter id es)
    ∙ named_kept (λ (x : List ℕ). not (bytes_eq id x)) other es
    ∙ ap (λ (b : Bool). cond (not b) (member_named other es) None) apart

-- ---- with one more

-- a test that is known settles a choice, both ways round
either_first : (one other : Bool) (x y : Times) (r : Option Times) → (one ≡ true → other ≡ true → ⊥) → cond one (Some x) (cond other (Some y) r) ≡ cond other (Some y) (cond one (Some x) r)
either_first true true x y r apart = absurd (apart refl refl)
either_first true false x y r apart = refl
either_first false other x y r apart = refl

same_first : (b : Bool) (x y : Times) (r : Option Times) → cond b (Some x) r ≡ cond b (Some x) (cond b (Some y) r)
same_first true x y r = refl
same_first false x y r = refl

pub times_with : (other id : List ℕ) (t : Times) (ts : TimesList) → times_of other (with_times id t ts) ≡ cond (bytes_eq other id) (Some t) (times_of other ts)
times_with other id t [] = refl
times_with other id t (e ∷ es) = elim (compares id e.0) [
  | less is test ↦ rw is
  | equal is same test ↦
      rw is (ap (λ (x : List ℕ). cond (bytes_eq other x) (Some t) (times_of other es)) (sym same)
      ∙ same_first (bytes_eq other id) t e.1 (times_of other es)
      ∙ ap (λ (x : List ℕ). cond (bytes_eq other id) (Some t) (cond (bytes_eq other x) (Some e.1) (times_of other es))) same)
  | greater is behind test ↦
      rw is (ap (λ (r : Option Times). cond (bytes_eq other e.0) (Some e.1) r) (times_with other id t es)
      ∙ either_first (bytes_eq other e.0) (bytes_eq other id) e.1 t (times_of other es) (λ one two.
      let clash : true ≡ false = sym (own_id id) ∙ subst (λ (x : List ℕ). bytes_eq id x ≡ false) (sym (same_id other e.0 one) ∙ same_id other id two) test in
      absurd (cc (clash))))
]

-- ---- what was put is taken away again

pub absent_first : {X : Type 0} (b : Bool) (x : X) (r : Option X) → cond b (Some x) r ≡ None → (b ≡ false) × (r ≡ None)
absent_first true x r none = absurd (cc (none))
absent_first false x r none = (refl, none)

-- where nothing is under the id, all are kept
pub times_absent : (id : List ℕ) (ts : TimesList) → times_of id ts ≡ None → without_times id ts ≡ ts
times_absent id [] none = refl
times_absent id (e ∷ es) none =
    let first = absent_first (bytes_eq id e.0) e.1 (times_of id es) none in
    rw first.0 (ap (λ (ts : TimesList). e ∷ ts) (times_absent id es first.1))

pub times_undone : (id : List ℕ) (t : Times) (ts : TimesList) → times_of id ts ≡ None → without_times id (with_times id t ts) ≡ ts
times_undone id t [] none = rw (own_id id) refl
times_undone id t (e ∷ es) none =
    let first = absent_first (bytes_eq id e.0) e.1 (times_of id es) none in
    elim (compares id e.0) [
      | less is test ↦ rw (is, own_id id) (times_absent id (e ∷ es) none)
      | equal is same test ↦ let clash : true ≡ false = sym test ∙ first.0 in absurd (cc (clash))
      | greater is behind test ↦ rw (is, first.0) (ap (λ (ts : TimesList). e ∷ ts) (times_undone id t es first.1))
    ]
