-- Marks that are found in some bytes stay where they are where more bytes come after them.
use Rattle.std.proofs.Common.{◌≡◌, ℕ, zero, suc, ◌+◌, ◌≤◌, ◌&&◌, Bool, true, false, List, [], ◌∷◌, ◌++◌, length, take, refl, sym, ap, subst, ◌∙◌, arith, cond}
use Rattle.std.specs.Prelude.{Option, Some, None, option_map, nat_eq, nat_lt}
use Rattle.std.specs.List.{starts_with}
use Rattle.std.proofs.lemmas.List.{length-take}
use Rattle.http_fields.specs.Marks.{line_end, length_through}
use Rattle.http_fields.specs.Chunks.{data_before}
use Rattle.http_fields.proofs.Places.{begun}

-- bytes that are as long as a mark begin with it or not, with any bytes after them
pub same_begin : (mark xs ys : List ℕ) → length mark ≤ length xs → starts_with nat_eq (xs ++ ys) mark ≡ starts_with nat_eq xs mark
same_begin [] xs ys fits = refl
same_begin (m ∷ mark) [] ys fits = absurd (omega arith)
same_begin (m ∷ mark) (x ∷ xs) ys fits = ap (λ t. nat_eq m x && t) (same_begin mark xs ys (omega arith))

-- a mark ends after its own length and within the bytes
pub record IsThrough (mark xs : List ℕ) (n : ℕ) : Type 0 where
  pub long : length mark ≤ n
  pub within : n ≤ length xs

-- the same after the first byte
through_later : (mark : List ℕ) (x : ℕ) (xs : List ℕ) (r : Option ℕ) (n : ℕ) → ((j : ℕ) → r ≡ Some j → IsThrough mark xs j) →
    option_map (λ k. k + 1) r ≡ Some n → IsThrough mark (x ∷ xs) n
through_later mark x xs None n later is = absurd cc
through_later mark x xs (Some j) n later is =
    let inner = later j refl in
    let next : j + 1 ≡ n = cc in record { long = omega (arith, inner.long, next); within = omega (arith, inner.within, next) }

through_here : (mark : List ℕ) (x : ℕ) (xs : List ℕ) (n : ℕ) (t : Bool) → ((j : ℕ) → length_through mark xs ≡ Some j → IsThrough mark xs j) →
    starts_with nat_eq (x ∷ xs) mark ≡ t → cond t (Some (length mark)) (option_map (λ k. k + 1) (length_through mark xs)) ≡ Some n →
    IsThrough mark (x ∷ xs) n
through_here mark x xs n true later here is =
    let fits = (begun mark (x ∷ xs) here).0 in
    let same : length mark ≡ n = cc in record { long = omega arith; within = omega (arith, fits, same) }
through_here mark x xs n false later here is = through_later mark x xs (length_through mark xs) n later is

pub is_through : (mark xs : List ℕ) (n : ℕ) → length_through mark xs ≡ Some n → IsThrough mark xs n
is_through mark [] n is = absurd cc
is_through mark (x ∷ xs) n is =
    through_here mark x xs n (starts_with nat_eq (x ∷ xs) mark) (λ j found. is_through mark xs j found) refl is

-- where a mark isn't at the front, it stays after the first byte
stays_behind : (t : Bool) (m n : ℕ) (r s : Option ℕ) → ((j : ℕ) → r ≡ Some j → s ≡ Some j) →
    cond t (Some m) (option_map (λ k. k + 1) r) ≡ Some n → cond t (Some m) (option_map (λ k. k + 1) s) ≡ Some n
stays_behind true m n r s later is = is
stays_behind false m n None s later is = absurd cc
stays_behind false m n (Some j) s later is = ap (option_map (λ k. k + 1)) (later j refl) ∙ is

-- a mark that is found stays where it is
pub through_stays : (mark xs ys : List ℕ) (n : ℕ) → length_through mark xs ≡ Some n → length_through mark (xs ++ ys) ≡ Some n
through_stays mark [] ys n is = absurd cc
through_stays mark (x ∷ xs) ys n is =
    let bounds = is_through mark (x ∷ xs) n is in
    let same : starts_with nat_eq (x ∷ (xs ++ ys)) mark ≡ starts_with nat_eq (x ∷ xs) mark =
    same_begin mark (x ∷ xs) ys (omega (arith, bounds.long, bounds.within)) in
    subst
    (λ (t : Bool). cond t (Some (length mark)) (option_map (λ k. k + 1) (length_through mark (xs ++ ys))) ≡ Some n)
    (sym same)
    (stays_behind (starts_with nat_eq (x ∷ xs) mark) (length mark) n (length_through mark xs) (length_through mark (xs ++ ys))
    (λ j found. through_stays mark xs ys j found) is)

-- the first bytes of more bytes are the first bytes, and perhaps some after them
pub take_grows : (k : ℕ) (xs ys : List ℕ) → (zs : List ℕ) × (take k (xs ++ ys) ≡ take k xs ++ zs)
take_grows zero xs ys = ([], refl)
take_grows (suc k) [] ys = (take (suc k) ys, refl)
take_grows (suc k) (x ∷ xs) ys = let later = take_grows k xs ys in (later.0, ap (λ zs. x ∷ zs) later.1)

-- a mark that is found among the first bytes stays where it is
pub through_first_stays : (mark : List ℕ) (k : ℕ) (xs ys : List ℕ) (n : ℕ) → length_through mark (take k xs) ≡ Some n →
    length_through mark (take k (xs ++ ys)) ≡ Some n
through_first_stays mark k xs ys n is =
    let grown = take_grows k xs ys in
    ap (length_through mark) grown.1 ∙ through_stays mark (take k xs) grown.0 n is

-- and it ends within the bytes
pub through_first_within : (mark : List ℕ) (k : ℕ) (xs : List ℕ) (n : ℕ) → length_through mark (take k xs) ≡ Some n → IsThrough mark xs n
through_first_within mark k xs n is =
    let bounds = is_through mark (take k xs) n is in
    record { long = bounds.long; within = omega (arith, bounds.within, length-take k xs) }

-- data whose end is seen
pub ended_alike : (place size : ℕ) (old new : List ℕ) → nat_lt (length new) 2 ≡ false → nat_lt (length old) 2 ≡ false →
    starts_with nat_eq new line_end ≡ starts_with nat_eq old line_end → data_before place size new ≡ data_before place size old
ended_alike place size old new of_b of_a alike = rw (of_b, of_a, alike) refl
