use Rattle.std.proofs.Common.{◌≡◌, ◌≤◌, ◌<◌, ◌∙◌, ◌^◌, ℕ, true, List, Some, None, cond, ◌&&◌, ap, arith, decimal, nat_le, sym}
use Rattle.std.specs.Str.{bytes_eq}
use Rattle.std.specs.Str.Parse.{digits_value}
use Rattle.std.proofs.lemmas.Fmt.{decimal_is_IsNumeral}
use Rattle.std.proofs.lemmas.Bool.Decides.{nat_tests}
use Rattle.std.proofs.lemmas.Slice.Eq.{bytes_eq-Decides}
use Rattle.command_words.specs.Grammar.{number_between}
use Rattle.command_words.proofs.parts.number_in_word.Goals as goal

-- the spelling of a number within the bounds is read as that number
read_decimal : (least most n : ℕ) (text : List ℕ) → text ≡ decimal n → least ≤ n → n ≤ most → n < 2 ^ 64 → number_between least most text ≡ Some n
read_decimal least most n text is above below fits = go (digits_value 10 text) (ap (digits_value 10) is ∙ (decimal_is_IsNumeral n fits).1)
  where
    go : (v : ℕ) → v ≡ n → (cond (bytes_eq text (decimal v) && (nat_le least v && nat_le v most)) (Some v) None) ≡ Some n
    go v same =
        let spelt : bytes_eq text (decimal v) ≡ true = (bytes_eq-Decides text (decimal v)).1 (is ∙ ap decimal (sym same)) in
        let high : nat_le least v ≡ true = grind (arith, nat_tests, same, above) in
        let low : nat_le v most ≡ true = grind (arith, nat_tests, same, below) in
        rw (spelt, high, low) (ap (λ (m : ℕ). Some m) same)

pub returns-in-Some : goal.returns-in-Some
returns-in-Some c =
    let below = c.in-Some.ensures.ok.1 in
    read_decimal c.args.least c.args.most c.in-Some.number c.args.word.now c.in-Some.ensures.ok.0 (omega arith) (omega (arith, below)) (omega (arith, below))
