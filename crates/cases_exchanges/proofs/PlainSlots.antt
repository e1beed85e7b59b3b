-- Slots: each below the capacity is used once or free once.
use Rattle.std.proofs.Common.{◌≡◌, ◌+◌, ◌==◌, ℕ, Bool, true, false, cond, not, List, [], ◌∷◌, ◌++◌, map, refl, arith}
use Rattle.std.specs.List.{filter}
use Rattle.std.proofs.lemmas.Bool.Decides.{nat_tests}
use Rattle.cases_exchanges.specs.Plain.{times_used, times_free}
use Rattle.slot_lists.specs.Counts.{once_below}
use Rattle.coap_exchange.proofs.ListLaws.{times-append}
use Rattle.cases_exchanges.specs.declared.entry.Entry.{Entry}

-- one slot more below the limit
once_more : (s n : ℕ) → once_below s (n + 1) ≡ once_below s n + cond (n == s) 1 0
once_more s n = grind (arith, nat_tests)

pub times_free-append : (s : ℕ) (xs ys : List ℕ) → times_free s (xs ++ ys) ≡ times_free s xs + times_free s ys
times_free-append s xs ys = times-append (λ x. x == s) xs ys

pub times_used-append : (s : ℕ) (xs ys : List Entry) → times_used s (xs ++ ys) ≡ times_used s xs + times_used s ys
times_used-append s xs ys = times-append (λ x. x.slot == s) xs ys

pub slots_more : (s n : ℕ) (free : List ℕ) → times_free s free ≡ once_below s n → times_free s (free ++ n ∷ []) ≡ once_below s (n + 1)
slots_more s n free e = omega (arith, once_more s n, times_free-append s free (n ∷ []))

-- a filter keeps some slots and leaves others out
split_at : (s : ℕ) (p : Bool) (e : Entry) (kept left : List Entry) (whole : ℕ)
    → whole ≡ times_used s kept + times_free s (map (λ x. x.slot) left)
    → cond (e.slot == s) 1 0 + whole ≡ times_used s (cond p (e ∷ kept) kept) + times_free s (map (λ x. x.slot) (cond (not p) (e ∷ left) left))
split_at s true e kept left whole h = omega arith
split_at s false e kept left whole h = omega arith

pub slots_split : (s : ℕ) (p : Entry → Bool) (es : List Entry)
    → times_used s es ≡ times_used s (filter p es) + times_free s (map (λ e. e.slot) (filter (λ e. not (p e)) es))
slots_split s p [] = refl
slots_split s p (e ∷ es) = split_at s (p e) e (filter p es) (filter (λ x. not (p x)) es) (times_used s es) (slots_split s p es)
