-- The first value of an option, and the values after it.
use Rattle.std.proofs.Common.{◌≡◌, ◌∙◌, ℕ, Bool, true, false, Option, Some, None, List, [], ◌∷◌, ◌++◌, map, refl, sym, ap, append_assoc}
use Rattle.std.specs.Prelude.{◌==◌, ◌||◌, slice_get, if◌then◌else◌}
use Rattle.std.specs.List.{filter, list_any}
use Rattle.std.specs.Option.{option_or}
use Rattle.coap_msg.specs.Grammar.{CoapOption}
use Rattle.coap_opts.specs.declared.fault.AskFault.{AskFault}
use Rattle.coap_opts.specs.Reading.{fault_of, and_then_these, faults_of, faults_after, values_under}
use Rattle.coap_opts.specs.Found.{first_value}

-- whether the first of some options is of a number
values_at : (b : Bool) (o : CoapOption) (os : List CoapOption)
    → map (λ (x : CoapOption). x.1) (if b then o ∷ os else os) ≡ map (λ (x : CoapOption). x.1) (if b then o ∷ [] else []) ++ map (λ (x : CoapOption). x.1) os
values_at true o os = refl
values_at false o os = refl

-- the values of one option and then those of the others
pub values_first : (number : ℕ) (o : CoapOption) (os : List CoapOption) → values_under number (o ∷ os) ≡ values_under number (o ∷ []) ++ values_under number os
values_first number o os = values_at (o.0 == number) o (filter (λ (x : CoapOption). x.0 == number) os)

-- the first of two lists
first_append : (xs ys : List (List ℕ)) → slice_get (xs ++ ys) 0 ≡ option_or (slice_get xs 0) (slice_get ys 0)
first_append [] ys = refl
first_append (x ∷ xs) ys = refl

either_again : (a b c : Option (List ℕ)) → option_or a (option_or b c) ≡ option_or (option_or a b) c
either_again None b c = refl
either_again (Some x) b c = refl

-- the value that was found before, and then the first value of one more option or of those after it
pub first_more : (number : ℕ) (o : CoapOption) (os : List CoapOption) (found : Option (List ℕ))
    → option_or found (first_value number (o ∷ os)) ≡ option_or (option_or found (first_value number (o ∷ []))) (first_value number os)
first_more number o os found =
    ap (λ (x : Option (List ℕ)). option_or found x) (ap (λ (xs : List (List ℕ)). slice_get xs 0) (values_first number o os) ∙ first_append (values_under number (o ∷ [])) (values_under number os))
    ∙ either_again found (first_value number (o ∷ [])) (first_value number os)

-- nothing else is found
pub nothing_more : (found : Option (List ℕ)) → option_or found None ≡ found
nothing_more None = refl
nothing_more (Some x) = refl

-- ---- one more option, in a loop over those that are left

pub faults_kept : (os left rest : List CoapOption) (o : CoapOption) (before : Option ℕ) → faults_of os ≡ faults_after before left → left ≡ o ∷ rest
    → fault_of before o ≡ None → faults_of os ≡ faults_after (Some o.0) rest
faults_kept os left rest o before so_far is none =
    so_far ∙ ap (faults_after before) is ∙ ap (λ (f : Option AskFault). and_then_these f (faults_after (Some o.0) rest)) none

pub values_kept : (number : ℕ) (os left rest : List CoapOption) (o : CoapOption) (before after : List (List ℕ))
    → values_under number os ≡ before ++ values_under number left → left ≡ o ∷ rest → after ≡ before ++ values_under number (o ∷ [])
    → values_under number os ≡ after ++ values_under number rest
values_kept number os left rest o before after so_far is noted =
    so_far
    ∙ ap (λ (l : List CoapOption). before ++ values_under number l) is
    ∙ ap (λ (xs : List (List ℕ)). before ++ xs) (values_first number o rest)
    ∙ sym (append_assoc before (values_under number (o ∷ [])) (values_under number rest))
    ∙ ap (λ (xs : List (List ℕ)). xs ++ values_under number rest) (sym noted)

pub first_kept : (number : ℕ) (os left rest : List CoapOption) (o : CoapOption) (before after : Option (List ℕ))
    → first_value number os ≡ option_or before (first_value number left) → left ≡ o ∷ rest → after ≡ option_or before (first_value number (o ∷ []))
    → first_value number os ≡ option_or after (first_value number rest)
first_kept number os left rest o before after so_far is noted =
    so_far
    ∙ ap (λ (l : List CoapOption). option_or before (first_value number l)) is
    ∙ first_more number o rest before
    ∙ ap (λ (x : Option (List ℕ)). option_or x (first_value number rest)) (sym noted)

or_again : (a b c : Bool) → (a || (b || c)) ≡ ((a || b) || c)
or_again true b c = refl
or_again false b c = refl

-- whether some option passes a test
pub any_kept : (test : CoapOption → Bool) (os left rest : List CoapOption) (o : CoapOption) (before after : Bool)
    → list_any test os ≡ (before || list_any test left) → left ≡ o ∷ rest → after ≡ (before || test o)
    → list_any test os ≡ (after || list_any test rest)
any_kept test os left rest o before after so_far is noted =
    so_far
    ∙ ap (λ (l : List CoapOption). before || list_any test l) is
    ∙ or_again before (test o) (list_any test rest)
    ∙ ap (λ (b : Bool). b || list_any test rest) (sym noted)
