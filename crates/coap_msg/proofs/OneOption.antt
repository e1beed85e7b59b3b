-- One option, read and written, and the options that `options_of` reads.
use Rattle.std.proofs.Common.{◌≡◌, ℕ, zero, suc, ◌+◌, ◌-◌, ◌*◌, ◌/◌, ◌%◌, ◌^◌, ◌<◌, ◌≤◌, true, false, ltb, List, [], ◌∷◌, ◌++◌, length, take, drop, Option, Some, None, refl, sym, ap, subst, ◌∙◌, arith, inl, inr, append_assoc, length-append, length-drop}
use Rattle.std.specs.Prelude.{option_and_then}
use Rattle.std.specs.Option.{option_map_or}
use Rattle.std.proofs.lemmas.Bool.{cases_lt, lt-ltb, le-ltb}
use Rattle.std.proofs.lemmas.Option.{same_Some, option_and_then_some}
use Rattle.std.proofs.lemmas.List.{take-append-drop, length-take-le, take_at, drop_at}
use Rattle.coap_msg.specs.Grammar.{CoapOption, nibble, extended, option_spelling, options_spelling, largest_number, MayFollow, AreInOrder}
use Rattle.coap_msg.specs.Options.{number_at, value_at, option_at, options_at, options_of}
use Rattle.coap_msg.proofs.ExtendedNumbers.{IsBytes, TakesNumber, number_takes, number_at-extended, number_shrinks, nibble_below, none_read}

-- an option and the bytes after it
abbrev Read : Type 0
Read = CoapOption × List ℕ

-- the answer of a reading function where it finds an option
abbrev pub some_read : Read → Option Read
some_read read = Some read

-- the bytes after some bytes are bytes
pub IsBytes-after : (xs rest : List ℕ) → IsBytes (xs ++ rest) → IsBytes rest
IsBytes-after [] rest are_bytes = are_bytes
IsBytes-after (x ∷ xs) rest are_bytes = IsBytes-after xs rest (λ i. are_bytes (suc i))

-- the bytes are an option that may be there, and then the rest
pub record TakesOption (last : ℕ) (o : CoapOption) (bytes rest : List ℕ) : Type 0 where
  pub follows : MayFollow last o
  pub bytes_are : bytes ≡ option_spelling last o ++ rest

-- four lists joined from the right are the same joined from the left
pub regrouped : (a b c d : List ℕ) → a ++ (b ++ (c ++ d)) ≡ ((a ++ b) ++ c) ++ d
regrouped a b c d = simp append_assoc

-- the bytes of an option from the numbers of its two nibbles
pub spelled_parts : (last b delta size : ℕ) (bytes middle tail : List ℕ) → TakesNumber (b / 16) delta bytes middle →
    TakesNumber (b % 16) size middle tail → size ≤ length tail →
    b ∷ bytes ≡ option_spelling last (last + delta, take size tail) ++ drop size tail
unfolding option_spelling
spelled_parts last b delta size bytes middle tail of_delta of_size within =
    let delta_is : last + delta - last ≡ delta = omega arith in
    let size_is : length (take size tail) ≡ size = length-take-le size tail within in
    let halves : b ≡ 16 * (b / 16) + b % 16 = omega arith in
    let first : b ≡ 16 * nibble delta + nibble size =
    halves
    ∙ ap (λ (n : ℕ). 16 * n + b % 16) of_delta.nibble_is
    ∙ ap (λ (n : ℕ). 16 * nibble delta + n) of_size.nibble_is in
    let after : bytes ≡ ((extended delta ++ extended size) ++ take size tail) ++ drop size tail =
    of_delta.bytes_are
    ∙ ap (λ (xs : List ℕ). extended delta ++ xs) (of_size.bytes_are ∙ ap (λ (xs : List ℕ). extended size ++ xs) (sym (take-append-drop size tail)))
    ∙ regrouped (extended delta) (extended size) (take size tail) (drop size tail) in
    let all : b ∷ bytes ≡ (16 * nibble delta + nibble size) ∷ (((extended delta ++ extended size) ++ take size tail) ++ drop size tail) =
    ap (λ (n : ℕ). n ∷ bytes) first ∙ ap (λ (xs : List ℕ). (16 * nibble delta + nibble size) ∷ xs) after in
    rw (delta_is, size_is) all

-- an option from the numbers of its two nibbles
takes_parts : (last b delta size : ℕ) (bytes middle tail : List ℕ) → TakesNumber (b / 16) delta bytes middle →
    TakesNumber (b % 16) size middle tail → size ≤ length tail → last + delta < 2 ^ 16 →
    TakesOption last (last + delta, take size tail) (b ∷ bytes) (drop size tail)
takes_parts last b delta size bytes middle tail of_delta of_size within number =
    let size_is : length (take size tail) ≡ size = length-take-le size tail within in
    record {
      follows = record { order = omega arith; number = omega arith; value = omega (arith, size_is, of_size.bound) };
      bytes_are = spelled_parts last b delta size bytes middle tail of_delta of_size within;
    }

-- an option that `value_at` reads is spelled there
value_takes : (number size : ℕ) (bytes : List ℕ) (x : Read) → value_at number size bytes ≡ Some x →
    (size ≤ length bytes) × (number < 2 ^ 16) × (some_read ((number, take size bytes), drop size bytes) ≡ Some x)
value_takes number size bytes x read =
    elim (cases_lt (length bytes) size) [
      | inl lt ↦ let short : ltb (length bytes) size ≡ true = lt-ltb _ _ lt in absurd (none_read (value_at number size bytes) x (rw short refl) read)
      | inr within ↦ let enough : ltb (length bytes) size ≡ false = le-ltb _ _ within in elim (cases_lt number (2 ^ 16)) [
        | inl small ↦ let below : ltb number (2 ^ 16) ≡ true = lt-ltb _ _ small in (within, small, rw (enough, below) at read)
        | inr ge ↦ let above : ltb number (2 ^ 16) ≡ false = le-ltb _ _ ge in absurd (none_read (value_at number size bytes) x (rw (enough, above) refl) read)
      ]
    ]

-- the reading of `option_at` after a first byte and two numbers
abbrev after_size : ℕ → ℕ × List ℕ → ℕ × List ℕ → Option Read
after_size last delta size = value_at (last + delta.0) size.0 size.1

-- the reading of `option_at` after a first byte and a delta
abbrev after_delta : ℕ → ℕ → ℕ × List ℕ → Option Read
after_delta last b delta = option_and_then (after_size last delta) (number_at (b % 16) delta.1)

-- an option that `option_at` reads is spelled there
pub option_takes : (last : ℕ) (bytes : List ℕ) (x : Read) → IsBytes bytes → option_at last bytes ≡ Some x →
    TakesOption last x.0 bytes x.1
unfolding option_at
option_takes last [] x are_bytes read = absurd cc
option_takes last (b ∷ bytes) x are_bytes read =
    option_and_then_some (after_delta last b) (number_at (b / 16) bytes) x read (λ delta delta_read then_read.
    let of_delta = number_takes (b / 16) bytes delta (λ i. are_bytes (suc i)) delta_read in
    let after = IsBytes-after (extended delta.0) delta.1 (subst IsBytes of_delta.bytes_are (λ i. are_bytes (suc i))) in
    option_and_then_some (after_size last delta) (number_at (b % 16) delta.1) x then_read (λ size size_read value_read.
    let of_size = number_takes (b % 16) delta.1 size after size_read in
    let value = value_takes (last + delta.0) size.0 size.1 x value_read in
    subst (λ (y : Read). TakesOption last y.0 (b ∷ bytes) y.1)
    (same_Some ((last + delta.0, take size.0 size.1), drop size.0 size.1) x value.2)
    (takes_parts last b delta.0 size.0 bytes delta.1 size.1 of_delta of_size value.0 value.1)))

-- an option is read again, from its pieces
option_at-pieces : (last delta first : ℕ) (value rest : List ℕ) → first / 16 ≡ nibble delta →
    first % 16 ≡ nibble (length value) → length value ≤ largest_number → last + delta < 2 ^ 16 →
    option_at last (first ∷ extended delta ++ (extended (length value) ++ (value ++ rest))) ≡ Some ((last + delta, value), rest)
unfolding option_at
option_at-pieces last delta first value rest high low bound number =
    let of_delta = number_at-extended delta (extended (length value) ++ (value ++ rest)) (omega arith) in
    let of_size = number_at-extended (length value) (value ++ rest) bound in
    let enough : ltb (length (value ++ rest)) (length value) ≡ false = le-ltb _ _ (omega (arith, length-append value rest)) in
    let below : ltb (last + delta) (2 ^ 16) ≡ true = lt-ltb _ _ number in
    rw (high, of_delta, low, of_size, enough, below, take_at value rest (length value) refl, drop_at value rest (length value) refl) refl

-- the same with the first byte written out
option_at-whole : (last delta number : ℕ) (value rest : List ℕ) → last + delta ≡ number →
    length value ≤ largest_number → number < 2 ^ 16 →
    option_at last ((16 * nibble delta + nibble (length value)) ∷ (((extended delta ++ extended (length value)) ++ value) ++ rest)) ≡ Some ((number, value), rest)
option_at-whole last delta number value rest is bound below =
    let of_delta = nibble_below delta in
    let of_size = nibble_below (length value) in
    let first = 16 * nibble delta + nibble (length value) in
    ap (λ (xs : List ℕ). option_at last (first ∷ xs)) (sym (regrouped (extended delta) (extended (length value)) value rest))
    ∙ option_at-pieces last delta first value rest (omega arith) (omega arith) bound (omega arith)
    ∙ ap (λ (n : ℕ). some_read ((n, value), rest)) is

-- an option that is spelled is read again
pub option_at-spelling : (last : ℕ) (o : CoapOption) (rest : List ℕ) → MayFollow last o →
    option_at last (option_spelling last o ++ rest) ≡ Some (o, rest)
unfolding option_spelling
option_at-spelling last o rest follows =
    option_at-whole last (o.0 - last) o.0 o.1 rest (omega (arith, follows.order)) follows.value follows.number

-- the spelling of an option has a first byte, which is not the payload marker
pub option_begins : (last : ℕ) (o : CoapOption) →
    (first : ℕ) × (tail : List ℕ) × (option_spelling last o ≡ first ∷ tail) × (first < 255)
unfolding option_spelling
option_begins last o =
    let of_delta = nibble_below (o.0 - last) in
    let of_size = nibble_below (length o.1) in
    (16 * nibble (o.0 - last) + nibble (length o.1), (extended (o.0 - last) ++ extended (length o.1)) ++ o.1, refl, omega arith)

-- no option is read where nothing is left
option_at-nil : (last : ℕ) → option_at last [] ≡ None
unfolding option_at
option_at-nil last = refl

-- options in order are read again
options_at-spelling : (most last : ℕ) (os : List CoapOption) → AreInOrder last os → length os ≤ most →
    options_at most last (options_spelling last os) ≡ os
options_at-spelling zero last [] order enough = refl
options_at-spelling zero last (o ∷ os) order enough = absurd (omega arith)
options_at-spelling (suc most) last [] order enough = rw (option_at-nil last) refl
options_at-spelling (suc most) last (o ∷ os) order enough =
    let first = option_at-spelling last o (options_spelling o.0 os) order.0 in
    rw first (ap (λ (xs : List CoapOption). o ∷ xs) (options_at-spelling most o.0 os order.1 (omega arith)))

-- there are no more options than bytes
length_within : (last : ℕ) (os : List CoapOption) → length os ≤ length (options_spelling last os)
length_within last [] = omega arith
length_within last (o ∷ os) =
    let begins = option_begins last o in
    omega (arith, length_within o.0 os, length-append (option_spelling last o) (options_spelling o.0 os), ap length begins.2)

-- `options_of` reads options in order from their spelling
pub options_of-spelling : (os : List CoapOption) → AreInOrder 0 os → options_of (options_spelling 0 os) ≡ os
options_of-spelling os order = options_at-spelling (length (options_spelling 0 os)) 0 os order (length_within 0 os)

-- the number of bytes of the spelling of an option
pub length-option_spelling : (last : ℕ) (o : CoapOption) →
    length (option_spelling last o) ≡ 1 + length (extended (o.0 - last)) + length (extended (length o.1)) + length o.1
unfolding option_spelling
length-option_spelling last o =
    omega (arith, length-append (extended (o.0 - last) ++ extended (length o.1)) o.1, length-append (extended (o.0 - last)) (extended (length o.1)))

-- the spelling of an option after some bytes, from the bytes that each step of its writing put after the step before
pub written_pieces : (last number first : ℕ) (value before a b c d : List ℕ) →
    first ≡ 16 * nibble (number - last) + nibble (length value) → a ≡ before ++ first ∷ [] →
    b ≡ a ++ extended (number - last) → c ≡ b ++ extended (length value) → d ≡ c ++ value →
    d ≡ before ++ option_spelling last (number, value)
unfolding option_spelling
written_pieces last number first value before a b c d first_is a_is b_is c_is d_is =
    rw (d_is, c_is, b_is, a_is, first_is) (simp append_assoc)

-- reading an option leaves fewer bytes than there were
pub option_shrinks : (last : ℕ) (bytes : List ℕ) (x : Read) → option_at last bytes ≡ Some x →
    length x.1 < length bytes
unfolding option_at
option_shrinks last [] x read = absurd cc
option_shrinks last (b ∷ bytes) x read =
    option_and_then_some (after_delta last b) (number_at (b / 16) bytes) x read (λ delta delta_read then_read.
    option_and_then_some (after_size last delta) (number_at (b % 16) delta.1) x then_read (λ size size_read value_read.
    let of_delta = number_shrinks (b / 16) bytes delta delta_read in
    let of_size = number_shrinks (b % 16) delta.1 size size_read in
    let value = value_takes (last + delta.0) size.0 size.1 x value_read in
    subst (λ (y : Read). length y.1 < length (b ∷ bytes))
    (same_Some ((last + delta.0, take size.0 size.1), drop size.0 size.1) x value.2) (omega (arith, length-drop size.0 size.1))))

-- a larger bound on the number of options reads no more of them
options_at_any : (f g last : ℕ) (bytes : List ℕ) → length bytes ≤ f → length bytes ≤ g →
    options_at f last bytes ≡ options_at g last bytes
options_at_any zero zero last bytes a b = refl
options_at_any zero (suc g) last [] a b = rw (option_at-nil last) refl
options_at_any zero (suc g) last (x ∷ bytes) a b = absurd (omega arith)
options_at_any (suc f) zero last [] a b = rw (option_at-nil last) refl
options_at_any (suc f) zero last (x ∷ bytes) a b = absurd (omega arith)
options_at_any (suc f) (suc g) last bytes a b =
    go (option_at last bytes) refl (λ number rest p q. options_at_any f g number rest p q)
  where
    go : (o : Option Read) → option_at last bytes ≡ o →
        ((number : ℕ) (rest : List ℕ) → length rest ≤ f → length rest ≤ g → options_at f number rest ≡ options_at g number rest) →
        option_map_or (λ x. x.0 ∷ options_at f x.0.0 x.1) o [] ≡ option_map_or (λ x. x.0 ∷ options_at g x.0.0 x.1) o []
    go None read again = refl
    go (Some x) read again =
        let less = option_shrinks last bytes x read in
        ap (λ (os : List CoapOption). x.0 ∷ os) (again x.0.0 x.1 (omega arith) (omega arith))

-- the options that are left, where one is read
pub options_left_step : (last number : ℕ) (bytes value next : List ℕ) →
    some_read ((number, value), next) ≡ option_at last bytes →
    options_at (length bytes) last bytes ≡ (number, value) ∷ options_at (length next) number next
options_left_step last number [] value next read =
    absurd (let less = option_shrinks last [] ((number, value), next) (sym read) in omega arith)
options_left_step last number (b ∷ bytes) value next read =
    let less = option_shrinks last (b ∷ bytes) ((number, value), next) (sym read) in
    rw (← read) (ap (λ (os : List CoapOption). (number, value) ∷ os) (options_at_any (length bytes) (length next) number next (omega arith) (omega arith)))
