-- An option that doesn't pass the end, of any number, and the places where none begins.
use Rattle.std.proofs.Common.{◌≡◌, ℕ, ◌+◌, ◌-◌, ◌*◌, ◌/◌, ◌%◌, ◌^◌, ◌≤◌, List, [], ◌∷◌, ◌++◌, length, get_or, take, drop, Option, Some, None, refl, sym, ap, subst, ◌∙◌, arith, inl, inr, length-append}
use Rattle.std.specs.Prelude.{◌↔◌}
use Rattle.std.proofs.lemmas.Bool.{cases_lt}
use Rattle.std.proofs.lemmas.Option.{same_Some}
use Rattle.std.proofs.lemmas.List.{length-take-le}
use Rattle.coap_msg.specs.Grammar.{CoapOption, nibble, extended, option_spelling, MayFollow}
use Rattle.coap_msg.specs.Options.{number_at, option_at}
use Rattle.coap_msg.specs.Faults.{HasReservedNibble, BeginsWhole}
use Rattle.coap_msg.proofs.ExtendedNumbers.{IsBytes, number_takes, number_at-extended, nibble_below, none_read}
use Rattle.coap_msg.proofs.OneOption.{IsBytes-after, regrouped, spelled_parts, option_at-spelling}

-- a number that was read, and the bytes after it
abbrev Taken : Type 0
Taken = ℕ × List ℕ

-- the answer of a reading function where it finds a number
abbrev some_taken : ℕ → List ℕ → Option Taken
some_taken number rest = Some (number, rest)

-- the bytes of an option of this delta and this value, and the bytes after it
abbrev pieces : ℕ → List ℕ → List ℕ → List ℕ
pieces delta value after =
    (16 * nibble delta + nibble (length value)) ∷ (((extended delta ++ extended (length value)) ++ value) ++ after)

-- the bytes of a whole option, from its delta
pub whole_pieces : (bytes : List ℕ) (w : BeginsWhole bytes) → bytes ≡ pieces w.delta w.value w.after
unfolding option_spelling
whole_pieces bytes w =
    let same : w.delta - 0 ≡ w.delta = omega arith in
    w.bytes_are ∙ ap (λ (n : ℕ). pieces n w.value w.after) same

-- no whole option begins where nothing is left
pub nothing_is_whole : BeginsWhole [] → ⊥
nothing_is_whole w = let same = whole_pieces [] w in cc

-- a whole option has no reserved nibble
pub whole_not_reserved : (b : ℕ) (bytes : List ℕ) → BeginsWhole (b ∷ bytes) → HasReservedNibble b → ⊥
whole_not_reserved b bytes w reserved =
    let first : b ≡ 16 * nibble w.delta + nibble (length w.value) = ap (λ (xs : List ℕ). get_or xs 0 0) (whole_pieces (b ∷ bytes) w) in
    let of_delta = nibble_below w.delta in
    let of_size = nibble_below (length w.value) in
    elim reserved [ inl high ↦ omega arith | inr low ↦ omega arith ]

-- the delta of a whole option is read
pub delta_read : (b : ℕ) (bytes : List ℕ) (w : BeginsWhole (b ∷ bytes)) →
    number_at (b / 16) bytes ≡ some_taken w.delta (extended (length w.value) ++ (w.value ++ w.after))
delta_read b bytes w =
    let first : b ≡ 16 * nibble w.delta + nibble (length w.value) = ap (λ (xs : List ℕ). get_or xs 0 0) (whole_pieces (b ∷ bytes) w) in
    let tail : bytes ≡ ((extended w.delta ++ extended (length w.value)) ++ w.value) ++ w.after = ap (λ (xs : List ℕ). drop 1 xs) (whole_pieces (b ∷ bytes) w) in
    let of_size = nibble_below (length w.value) in
    let high : b / 16 ≡ nibble w.delta = omega arith in
    ap (λ (n : ℕ). number_at n bytes) high
    ∙ ap (λ (xs : List ℕ). number_at (nibble w.delta) xs) (tail ∙ sym (regrouped (extended w.delta) (extended (length w.value)) w.value w.after))
    ∙ number_at-extended w.delta (extended (length w.value) ++ (w.value ++ w.after)) w.delta_bound

-- and then its length
pub size_read : (b : ℕ) (bytes : List ℕ) (w : BeginsWhole (b ∷ bytes)) →
    number_at (b % 16) (extended (length w.value) ++ (w.value ++ w.after)) ≡ some_taken (length w.value) (w.value ++ w.after)
size_read b bytes w =
    let first : b ≡ 16 * nibble w.delta + nibble (length w.value) = ap (λ (xs : List ℕ). get_or xs 0 0) (whole_pieces (b ∷ bytes) w) in
    let of_size = nibble_below (length w.value) in
    let low : b % 16 ≡ nibble (length w.value) = omega arith in
    ap (λ (n : ℕ). number_at n (extended (length w.value) ++ (w.value ++ w.after))) low
    ∙ number_at-extended (length w.value) (w.value ++ w.after) w.value_bound

-- an option whose numbers are read and whose value is there is whole
whole_from_reads : (b delta size : ℕ) (bytes middle tail : List ℕ) → IsBytes bytes →
    number_at (b / 16) bytes ≡ some_taken delta middle → number_at (b % 16) middle ≡ some_taken size tail →
    size ≤ length tail → BeginsWhole (b ∷ bytes)
whole_from_reads b delta size bytes middle tail are_bytes read_delta read_size within =
    let of_delta = number_takes (b / 16) bytes (delta, middle) are_bytes read_delta in
    let after = IsBytes-after (extended delta) middle (subst IsBytes of_delta.bytes_are are_bytes) in
    let of_size = number_takes (b % 16) middle (size, tail) after read_size in
    let same : 0 + delta ≡ delta = omega arith in
    let size_is : length (take size tail) ≡ size = length-take-le size tail within in
    record {
      delta = delta;
      value = take size tail;
      after = drop size tail;
      delta_bound = of_delta.bound;
      value_bound = omega (arith, size_is, of_size.bound);
      bytes_are =
          spelled_parts 0 b delta size bytes middle tail of_delta of_size within
          ∙ ap (λ (n : ℕ). option_spelling 0 (n, take size tail) ++ drop size tail) same;
    }

-- where its numbers are read, an option is whole if its value is there
pub whole_where_read : (b delta size : ℕ) (bytes middle tail : List ℕ) → IsBytes bytes →
    some_taken delta middle ≡ number_at (b / 16) bytes → some_taken size tail ≡ number_at (b % 16) middle →
    (size ≤ length tail) ↔ BeginsWhole (b ∷ bytes)
whole_where_read b delta size bytes middle tail are_bytes read_delta read_size = (
  λ within. whole_from_reads b delta size bytes middle tail are_bytes (sym read_delta) (sym read_size) within,
  λ w.
      let middle_is : middle ≡ extended (length w.value) ++ (w.value ++ w.after) = ap (λ (t : Taken). t.1) (same_Some _ _ (read_delta ∙ delta_read b bytes w)) in
      let same = same_Some {A = Taken} (size, tail) (length w.value, w.value ++ w.after)
      (read_size ∙ ap (λ (xs : List ℕ). number_at (b % 16) xs) middle_is ∙ size_read b bytes w) in
      let size_is : size ≡ length w.value = ap (λ (t : Taken). t.0) same in
      let tail_is : tail ≡ w.value ++ w.after = ap (λ (t : Taken). t.1) same in
      omega (arith, ap length tail_is, length-append w.value w.after),
)

-- an option whose delta isn't there isn't whole
pub cut_at_delta : (b : ℕ) (bytes : List ℕ) → None ≡ number_at (b / 16) bytes → BeginsWhole (b ∷ bytes) → ⊥
cut_at_delta b bytes none w = none_read (number_at (b / 16) bytes) _ (sym none) (delta_read b bytes w)

-- nor is one whose length isn't there
pub cut_at_size : (b delta : ℕ) (bytes middle : List ℕ) → some_taken delta middle ≡ number_at (b / 16) bytes →
    None ≡ number_at (b % 16) middle → BeginsWhole (b ∷ bytes) → ⊥
cut_at_size b delta bytes middle read none w =
    let middle_is : middle ≡ extended (length w.value) ++ (w.value ++ w.after) = ap (λ (t : Taken). t.1) (same_Some {A = Taken} (delta, middle) (w.delta, extended (length w.value) ++ (w.value ++ w.after)) (read ∙ delta_read b bytes w)) in
    none_read (number_at (b % 16) middle) _ (sym none) (ap (λ (xs : List ℕ). number_at (b % 16) xs) middle_is ∙ size_read b bytes w)

-- a whole option after one of the number last
whole_option : (last : ℕ) (bytes : List ℕ) (w : BeginsWhole bytes) →
    bytes ≡ option_spelling last (last + w.delta, w.value) ++ w.after
unfolding option_spelling
whole_option last bytes w =
    let same : w.delta ≡ last + w.delta - last = omega arith in
    whole_pieces bytes w ∙ ap (λ (n : ℕ). pieces n w.value w.after) same

-- a whole option that isn't read has too large a number
pub number_is_large : (last : ℕ) (bytes : List ℕ) → option_at last bytes ≡ None → (w : BeginsWhole bytes) →
    2 ^ 16 ≤ last + w.delta
number_is_large last bytes none w = elim (cases_lt (last + w.delta) (2 ^ 16)) [
  | inl lt ↦
      let follows : MayFollow last (last + w.delta, w.value) = record { order = omega arith; number = lt; value = w.value_bound } in
      absurd (none_read (option_at last bytes) _ none
      (ap (λ (xs : List ℕ). option_at last xs) (whole_option last bytes w) ∙ option_at-spelling last (last + w.delta, w.value) w.after follows))
  | inr ge ↦ ge
]

-- an option that may be there is whole
pub whole_from_option : (last : ℕ) (o : CoapOption) (bytes tail : List ℕ) → MayFollow last o →
    bytes ≡ option_spelling last o ++ tail → (w : BeginsWhole bytes) × (w.delta ≡ o.0 - last)
unfolding option_spelling
whole_from_option last o bytes tail follows bytes_are =
    let same : o.0 - last ≡ o.0 - last - 0 = omega arith in (
      record {
        delta = o.0 - last;
        value = o.1;
        after = tail;
        delta_bound = omega (arith, follows.number);
        value_bound = follows.value;
        bytes_are = bytes_are ∙ ap (λ (n : ℕ). pieces n o.1 tail) same;
      },
      refl,
    )

-- a whole option has one delta
pub one_delta : (bytes : List ℕ) (v w : BeginsWhole bytes) → v.delta ≡ w.delta
one_delta [] v w = absurd (nothing_is_whole v)
one_delta (b ∷ bytes) v w =
    ap (λ (t : Taken). t.0) (same_Some {A = Taken} (v.delta, extended (length v.value) ++ (v.value ++ v.after)) (w.delta, extended (length w.value) ++ (w.value ++ w.after))
    (sym (delta_read b bytes v) ∙ delta_read b bytes w))
