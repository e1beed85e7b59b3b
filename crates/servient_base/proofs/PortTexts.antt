-- The spelling of a port.
use Rattle.std.proofs.Common.{◌≡◌, ℕ, ◌<◌, ◌≤◌, ◌^◌, List, Bool, true, false, ◌&&◌, decimal, refl, ap, subst, sym, ◌∙◌, arith}
use Rattle.std.specs.Prelude.{nat_le, Some}
use Rattle.std.specs.Str.{bytes_eq}
use Rattle.std.specs.Str.Parse.{digits_value}
use Rattle.std.proofs.lemmas.Bool.{le-leb}
use Rattle.std.proofs.lemmas.Fmt.{decimal_is_IsNumeral}
use Rattle.std.proofs.lemmas.Slice.Eq.{bytes_eq-Decides}
use Rattle.servient_base.specs.HostPorts.{port_in, is_port}

all_three : (a b c : Bool) → a ≡ true → b ≡ true → c ≡ true → (a && b && c) ≡ true
all_three true true true one two three = refl
all_three true true false one two three = three
all_three true false c one two three = two
all_three false b c one two three = one

-- the spelling of a number is a port where that is from 1 to 65,535
port_spelled : (text : List ℕ) (n : ℕ) → 1 ≤ n → n ≤ 65535 → text ≡ decimal n → is_port text ≡ true
port_spelled text n some small is =
    let fits : n < 2 ^ 64 = omega arith in
    let value : digits_value 10 text ≡ n = ap (digits_value 10) is ∙ (decimal_is_IsNumeral n fits).1 in
    let all : (nat_le 1 n && nat_le n 65535 && bytes_eq text (decimal n)) ≡ true =
    all_three _ _ _ (le-leb 1 n some) (le-leb n 65535 small) ((bytes_eq-Decides text (decimal n)).1 is) in
    subst (λ (v : ℕ). (nat_le 1 v && nat_le v 65535 && bytes_eq text (decimal v)) ≡ true) (sym value) all

-- and then it is the port
pub port_is : (text : List ℕ) (n : ℕ) → 1 ≤ n → n ≤ 65535 → text ≡ decimal n → Some n ≡ port_in text
port_is text n some small is =
    let fits : n < 2 ^ 64 = omega arith in
    let value : digits_value 10 text ≡ n = ap (digits_value 10) is ∙ (decimal_is_IsNumeral n fits).1 in
    rw (port_spelled text n some small is, value) refl
