-- The first form that qualifies, one form after another.
use Rattle.std.proofs.Common.{◌≡◌, ◌<◌, ◌+◌, inr, ℕ, List, ◌∷◌, length, drop, get_or, Option, Some, None, refl, sym, subst}
use Rattle.std.specs.Prelude.{MatchOption}
use Rattle.wot_schema.proofs.Steps.{rest_at}
use Rattle.wot_forms.specs.declared.form.Form.{Form}
use Rattle.wot_consumer.specs.declared.chosen.Chosen.{Chosen}
use Rattle.wot_consumer.specs.declared.wanted.SoughtForm.{SoughtForm}
use Rattle.wot_consumer.specs.Choice.{Qualifies, IsPassedOver, IsFirst}

-- nothing is chosen by a form where nothing was found
pub passed_over : (w : SoughtForm) (base : Option (List ℕ)) (f : Form) (o : Option Chosen) → MatchOption o (IsPassedOver w base f) (λ c. Qualifies w base f c) →
    ((c : Chosen) → o ≡ Some c → ⊥) → IsPassedOver w base f
passed_over w base f None found none = found
passed_over w base f (Some c) found none = absurd (none c refl)

one_more : (w : SoughtForm) (base : Option (List ℕ)) (f : Form) (fs : List Form) (o : Option Chosen) → IsPassedOver w base f → IsFirst w base fs o → IsFirst w base (f ∷ fs) o
one_more w base f fs None over later = (over, later)
one_more w base f fs (Some c) over later = inr (over, later)

-- all forms come out as those that are left do
pub first_more : (w : SoughtForm) (base : Option (List ℕ)) (fs : List Form) (i : ℕ) (f : Form) → i < length fs → f ≡ get_or fs i f → IsPassedOver w base f →
    ((o : Option Chosen) → IsFirst w base (drop i fs) o → IsFirst w base fs o) → (o : Option Chosen) → IsFirst w base (drop (i + 1) fs) o → IsFirst w base fs o
first_more w base fs i f within is over kept o later =
    kept o (subst (λ xs. IsFirst w base xs o) (sym (rest_at fs i f within is)) (one_more w base f (drop (i + 1) fs) o over later))
