-- Two lists that are the same up to a place, at which the one has a sign and the other has something else.
use Rattle.std.proofs.Common.{◌≡◌, List, [], ◌∷◌, ◌++◌, map, refl, sym, ap, ap₂, ◌∙◌, append_assoc, inl, inr}
use Rattle.std.specs.Prelude.{◌⊎◌}
use Rattle.std.proofs.lemmas.List.{map-append}

-- the first has the sign
pub record PartsAt {X : Type 0} (IsSign : X → Type 0) (a b : List X) : Type 0 where
  pub common : List X
  pub sign : X
  pub rest : List X
  pub instead : X
  pub other : List X
  pub is_sign : IsSign sign
  pub apart : ¬ (instead ≡ sign)
  pub first : a ≡ common ++ sign ∷ rest
  pub second : b ≡ common ++ instead ∷ other

-- one of both has it
abbrev pub Part : {X : Type 0} → (X → Type 0) → List X → List X → Type 0
Part IsSign a b = PartsAt IsSign a b ⊎ PartsAt IsSign b a

-- they have parts in common before
pub parts_after : {X : Type 0} (IsSign : X → Type 0) (p q a b seen shown : List X) → p ≡ q → seen ≡ p ++ a → shown ≡ q ++ b → PartsAt IsSign a b → PartsAt IsSign seen shown
parts_after {X} IsSign p q a b seen shown same whole all e = record {
  common = p ++ e.common;
  sign = e.sign;
  rest = e.rest;
  instead = e.instead;
  other = e.other;
  is_sign = e.is_sign;
  apart = e.apart;
  first = whole ∙ ap (λ (x : List X). p ++ x) e.first ∙ sym (append_assoc p e.common (e.sign ∷ e.rest));
  second = all ∙ ap₂ (λ (x y : List X). x ++ y) (sym same) e.second ∙ sym (append_assoc p e.common (e.instead ∷ e.other));
}

pub part_after : {X : Type 0} (IsSign : X → Type 0) (p q a b seen shown : List X) → p ≡ q → seen ≡ p ++ a → shown ≡ q ++ b → Part IsSign a b → Part IsSign seen shown
part_after IsSign p q a b seen shown same whole all (inl e) = inl (parts_after IsSign p q a b seen shown same whole all e)
part_after IsSign p q a b seen shown same whole all (inr e) = inr (parts_after IsSign q p b a shown seen (sym same) all whole e)

-- more comes behind
pub parts_before : {X : Type 0} (IsSign : X → Type 0) (a b c d seen shown : List X) → seen ≡ a ++ c → shown ≡ b ++ d → PartsAt IsSign a b → PartsAt IsSign seen shown
parts_before {X} IsSign a b c d seen shown whole all e = record {
  common = e.common;
  sign = e.sign;
  rest = e.rest ++ c;
  instead = e.instead;
  other = e.other ++ d;
  is_sign = e.is_sign;
  apart = e.apart;
  first = whole ∙ ap (λ (x : List X). x ++ c) e.first ∙ append_assoc e.common (e.sign ∷ e.rest) c;
  second = all ∙ ap (λ (x : List X). x ++ d) e.second ∙ append_assoc e.common (e.instead ∷ e.other) d;
}

pub part_before : {X : Type 0} (IsSign : X → Type 0) (a b c d seen shown : List X) → seen ≡ a ++ c → shown ≡ b ++ d → Part IsSign a b → Part IsSign seen shown
part_before IsSign a b c d seen shown whole all (inl e) = inl (parts_before IsSign a b c d seen shown whole all e)
part_before IsSign a b c d seen shown whole all (inr e) = inr (parts_before IsSign b a d c shown seen all whole e)

-- what they have is seen as something else
pub parts_mapped : {X Y : Type 0} (IsSign : X → Type 0) (IsSeen : Y → Type 0) (f : X → Y) → ((x : X) → IsSign x → IsSeen (f x)) → ((x y : X) → f x ≡ f y → x ≡ y)
    → (a b : List X) → PartsAt IsSign a b → PartsAt IsSeen (map f a) (map f b)
parts_mapped {X} {Y} IsSign IsSeen f kept one a b e = record {
  common = map f e.common;
  sign = f e.sign;
  rest = map f e.rest;
  instead = f e.instead;
  other = map f e.other;
  is_sign = kept e.sign e.is_sign;
  apart = λ same. e.apart (one e.instead e.sign same);
  first = ap (map f) e.first ∙ map-append f e.common (e.sign ∷ e.rest);
  second = ap (map f) e.second ∙ map-append f e.common (e.instead ∷ e.other);
}
