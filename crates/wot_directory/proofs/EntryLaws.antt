-- The description under an id once one was put or removed.
use Rattle.std.proofs.Common.{◌≡◌, ℕ, List, [], ◌∷◌, refl, sym, ap, ◌∙◌, inl, inr, Bool, true, false, cond}
use Rattle.std.specs.Prelude.{Option, Some, None}
use Rattle.std.specs.Str.{bytes_eq}
use Rattle.std.proofs.lemmas.Bool.{cases_Bool}
use Rattle.std.proofs.lemmas.Slice.Eq.{bytes_eq-Decides}
use Rattle.wot_json.specs.Tree.{Json}
use Rattle.wot_json.specs.Lookup.{member_named}
use Rattle.wot_json.specs.Merge.{with_member, without_member}
use Rattle.wot_json.proofs.MemberOrder.{less, equal, greater, compares}
use Rattle.wot_directory.specs.Contents.{Entries}
use Rattle.wot_directory.proofs.Numbers.{named_without_other}

-- a test that is known settles a choice, both ways round
either_first : (one other : Bool) (x y : Json) (r : Option Json) → (one ≡ true → other ≡ true → ⊥) → cond one (Some x) (cond other (Some y) r) ≡ cond other (Some y) (cond one (Some x) r)
either_first true true x y r apart = absurd (apart refl refl)
either_first true false x y r apart = refl
either_first false other x y r apart = refl

same_first : (b : Bool) (x y : Json) (r : Option Json) → cond b (Some x) r ≡ cond b (Some x) (cond b (Some y) r)
same_first true x y r = refl
same_first false x y r = refl

pub named_with : (name id : List ℕ) (v : Json) (es : Entries) → member_named name (with_member id v es) ≡ cond (bytes_eq name id) (Some v) (member_named name es)
named_with name id v [] = refl
named_with name id v (m ∷ ms) = elim (compares id m.0) [
  | less is test ↦ rw is
  | equal is same test ↦
      rw is (same_first (bytes_eq name id) v m.1 (member_named name ms)
      ∙ ap (λ (x : List ℕ). cond (bytes_eq name id) (Some v) (cond (bytes_eq name x) (Some m.1) (member_named name ms))) same)
  | greater is behind test ↦
      rw is (ap (λ (r : Option Json). cond (bytes_eq name m.0) (Some m.1) r) (named_with name id v ms)
      ∙ either_first (bytes_eq name m.0) (bytes_eq name id) m.1 v (member_named name ms) (λ one other.
      let here : name ≡ m.0 = (bytes_eq-Decides name m.0).0 one in
      let there : name ≡ id = (bytes_eq-Decides name id).0 other in
      let both : bytes_eq id m.0 ≡ true = (bytes_eq-Decides id m.0).1 (sym there ∙ here) in
      let clash : true ≡ false = sym both ∙ test in
      absurd (cc (clash))))
]

gone : (id : List ℕ) (es : Entries) → member_named id (without_member id es) ≡ None
gone id [] = refl
gone id (m ∷ ms) = elim (cases_Bool (bytes_eq id m.0)) [
  | inl same ↦ rw same (gone id ms)
  | inr apart ↦ rw apart (ap (λ (b : Bool). cond b (Some m.1) (member_named id (without_member id ms))) apart ∙ gone id ms)
]

pub named_without : (name id : List ℕ) (es : Entries) → member_named name (without_member id es) ≡ cond (bytes_eq name id) None (member_named name es)
named_without name id es = elim (cases_Bool (bytes_eq name id)) [
  | inl same ↦ rw same (ap (λ (x : List ℕ). member_named x (without_member id es)) ((bytes_eq-Decides name id).0 same) ∙ gone id es)
  | inr apart ↦ rw apart (named_without_other name id es apart)
]
