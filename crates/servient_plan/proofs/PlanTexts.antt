-- Texts of a plan: what a base begins with.
use Rattle.std.proofs.Common.{◌≡◌, ◌≢◌, ℕ, ◌==◌, List, ◌++◌, length, drop, true, refl, inl, inr}
use Rattle.std.specs.Prelude.{None}
use Rattle.std.specs.List.{starts_with}
use Rattle.std.proofs.lemmas.Bool.{cases_Bool}
use Rattle.std.proofs.lemmas.Bool.Decides.{Decides-eqb}
use Rattle.std.proofs.lemmas.Slice.Eq.{starts_is}
use Rattle.servient_base.specs.HostPorts.{point_in}
use Rattle.servient_plan.specs.Plan.{base_point}

-- a text that begins with a scheme, and one that doesn't
has_scheme : (scheme text rest : List ℕ) → text ≡ scheme ++ rest → starts_with (λ a b. a == b) text scheme ≡ true
has_scheme scheme text rest is = (starts_is (λ a b. Decides-eqb a b) text scheme (starts_with (λ a b. a == b) text scheme) refl).1 rest is

pub base_is_point : (scheme text : List ℕ) → text ≡ scheme ++ drop (length scheme) text → point_in (drop (length scheme) text) ≡ base_point scheme text
base_is_point scheme text is = rw (has_scheme scheme text (drop (length scheme) text) is) refl

pub no_base : (scheme text : List ℕ) → ((rest : List ℕ) → text ≢ scheme ++ rest) → None ≡ base_point scheme text
no_base scheme text none = elim (cases_Bool (starts_with (λ a b. a == b) text scheme)) [
  | inl begins ↦ absurd (none (drop (length scheme) text) ((starts_is (λ a b. Decides-eqb a b) text scheme (starts_with (λ a b. a == b) text scheme) refl).0 begins))
  | inr other ↦ rw other refl
]
