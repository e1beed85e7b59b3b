-- The results of the searches of `memchr`, in the words of the definitions.
use Rattle.std.proofs.Common.{◌≡◌, ℕ, zero, suc, ◌+◌, ◌-◌, ◌<◌, ◌≤◌, ◌&&◌, Bool, true, false, true≢false, List, [], ◌∷◌, length, get_or, take, drop, refl, sym, ap, subst, ◌∙◌, arith, cond}
use Rattle.std.specs.Prelude.{Option, Some, None, option_map, unwrap_or, ◌==◌, nat_eq, slice_index}
use Rattle.std.specs.Borrow.{Bor}
use Rattle.std.specs.Iterator.{MakesProgress, item_count}
use Rattle.std.specs.declared.iter.Iterator.{can_next-default}
use Rattle.std.specs.List.{position_or_len, before_first, after_first, starts_with, slice_split}
use Rattle.std.proofs.lemmas.List.{take_rest, take_all, drop_all}
use Rattle.std.proofs.lemmas.Bool.{eqb-true, eq-eqb}
use Rattle.std.proofs.lemmas.List.Sums.{position_or_len_is, fails_before_first}
use Rattle.std.proofs.lemmas.List.Elements.{All-from_get_or}
use Rattle.std.proofs.lemmas.List.Splits.{slice_split_first, slice_split_none}
use Rattle.memchr.specs.Find.{IsFirstByte, is_byte, FindsNeedle, OccursAt}
use Rattle.http_fields.specs.declared.lines.Pieces.{Pieces}
use Rattle.http_fields.specs.Pieces.{pieces_left}
use Rattle.http_fields.specs.Marks.{length_through}

-- a value that isn't true is false
isnt_true : (b : Bool) → ¬ (b ≡ true) → b ≡ false
isnt_true true isnt = absurd (isnt refl)
isnt_true false isnt = refl

-- the first such byte, if there is one, is where the bytes before it end
pub place_of_first : (byte : ℕ) (bytes : List ℕ) (place : ℕ) → IsFirstByte (is_byte byte) bytes (Some place) →
    place ≡ position_or_len (λ b. b == byte) bytes
place_of_first byte bytes place found =
    sym (position_or_len_is (λ b. b == byte) bytes place 0 (omega (arith, found.0.high))
    (λ k below. isnt_true _ (λ is. found.0.before k (omega arith) below is)) (λ within. found.1))

-- and where there is none, that is the end
pub place_of_none : (byte : ℕ) (bytes : List ℕ) → IsFirstByte (is_byte byte) bytes None →
    length bytes ≡ position_or_len (λ b. b == byte) bytes
place_of_none byte bytes found =
    sym (position_or_len_is (λ b. b == byte) bytes (length bytes) 0 (omega arith)
    (λ k below. isnt_true _ (λ is. found k (omega arith) below is)) (λ within. absurd (omega arith)))

pub place_or_end : (byte : ℕ) (bytes : List ℕ) (r : Option ℕ) → IsFirstByte (is_byte byte) bytes r →
    unwrap_or r (length bytes) ≡ position_or_len (λ b. b == byte) bytes
place_or_end byte bytes None found = place_of_none byte bytes found
place_or_end byte bytes (Some place) found = place_of_first byte bytes place found

-- the bytes before it, and the bytes after it
pub cut_at : (byte : ℕ) (bytes : List ℕ) (place : ℕ) → IsFirstByte (is_byte byte) bytes (Some place) →
    (take place bytes ≡ before_first (λ b. b == byte) bytes)
    × (take (length bytes - (place + 1)) (drop (place + 1) bytes) ≡ after_first (λ b. b == byte) bytes)
cut_at byte bytes place found =
    let is = place_of_first byte bytes place found in
    (ap (λ (n : ℕ). take n bytes) is, take_rest bytes (place + 1) ∙ ap (λ (n : ℕ). drop (n + 1) bytes) is)

pub not_cut : (byte : ℕ) (bytes : List ℕ) → IsFirstByte (is_byte byte) bytes None →
    (bytes ≡ before_first (λ b. b == byte) bytes) × ([] ≡ after_first (λ b. b == byte) bytes)
not_cut byte bytes found =
    let is = place_of_none byte bytes found in (
      sym (take_all (position_or_len (λ b. b == byte) bytes) bytes (omega (arith, is))),
      sym (drop_all (position_or_len (λ b. b == byte) bytes + 1) bytes (omega (arith, is))),
    )

-- where there is no such byte, all bytes are one piece
pub one_piece : (byte : ℕ) (bytes : List ℕ) → IsFirstByte (is_byte byte) bytes None → slice_split (λ b. b == byte) bytes ≡ bytes ∷ []
one_piece byte bytes found =
    let none = place_of_none byte bytes found in
    slice_split_none (λ b. b == byte) bytes
    (All-from_get_or (λ b. (b == byte) ≡ false) bytes 0 (λ i within. fails_before_first (λ b. b == byte) bytes i 0 (omega arith)))

-- a test and a further one
both : (x y : Bool) → x ≡ true → y ≡ true → (x && y) ≡ true
both x y hx hy = rw (hx, hy) refl

first_of : (x y : Bool) → (x && y) ≡ true → x ≡ true
first_of true y h = refl
first_of false y h = h

second_of : (x y : Bool) → (x && y) ≡ true → y ≡ true
second_of true y h = h
second_of false y h = absurd (true≢false (sym h))

-- bytes that have those of a mark in front begin with it
pub begins : (mark bytes : List ℕ) → length mark ≤ length bytes →
    ((j : ℕ) → j < length mark → get_or bytes j 0 ≡ get_or mark j 0) → starts_with nat_eq bytes mark ≡ true
begins [] bytes fits reads = refl
begins (m ∷ mark) [] fits reads = absurd (omega arith)
begins (m ∷ mark) (b ∷ bytes) fits reads =
    both (nat_eq m b) (starts_with nat_eq bytes mark) (eq-eqb m b (sym (reads 0 (omega arith))))
    (begins mark bytes (omega arith) (λ j below. reads (suc j) (omega arith)))

-- and the other way round
pub begun : (mark bytes : List ℕ) → starts_with nat_eq bytes mark ≡ true →
    (length mark ≤ length bytes) × ((j : ℕ) → j < length mark → get_or bytes j 0 ≡ get_or mark j 0)
begun [] bytes is = (omega arith, λ j below. absurd (omega arith))
begun (m ∷ mark) [] is = absurd (true≢false (sym is))
begun (m ∷ mark) (b ∷ bytes) is =
    let later = begun mark bytes (second_of (nat_eq m b) _ is) in
    let reads : (j : ℕ) → j < length (m ∷ mark) → get_or (b ∷ bytes) j 0 ≡ get_or (m ∷ mark) j 0 =
    λ (j : ℕ) (below : j < length (m ∷ mark)). begun_at m b mark bytes j below (eqb-true m b (first_of (nat_eq m b) _ is)) later.1 in
    (omega (arith, later.0), reads)
  where
    begun_at : (m b : ℕ) (mark bytes : List ℕ) (j : ℕ) → j < length (m ∷ mark) → m ≡ b →
        ((i : ℕ) → i < length mark → get_or bytes i 0 ≡ get_or mark i 0) → get_or (b ∷ bytes) j 0 ≡ get_or (m ∷ mark) j 0
    begun_at m b mark bytes zero below same later = sym same
    begun_at m b mark bytes (suc j) below same later = later j (omega arith)

-- a place after the first byte is a place in the bytes after it
occurs_later : (mark : List ℕ) (b : ℕ) (bytes : List ℕ) (k : ℕ) → OccursAt bytes mark k → OccursAt (b ∷ bytes) mark (suc k)
occurs_later mark b bytes k at = record {
  fits = omega (arith, at.fits);
  reads = λ j below. let read = at.reads j below in subst (λ (i : ℕ). slice_index (b ∷ bytes) i ≡ slice_index mark j) (sym (suc_plus k j)) read;
}
  where
    suc_plus : (k j : ℕ) → suc k + j ≡ suc (k + j)
    suc_plus k j = omega arith

occurs_earlier : (mark : List ℕ) (b : ℕ) (bytes : List ℕ) (k : ℕ) → OccursAt (b ∷ bytes) mark (suc k) → OccursAt bytes mark k
occurs_earlier mark b bytes k at = record {
  fits = omega (arith, at.fits);
  reads = λ j below. let read = at.reads j below in subst (λ (i : ℕ). slice_index (b ∷ bytes) i ≡ slice_index mark j) (suc_plus k j) read;
}
  where
    suc_plus : (k j : ℕ) → suc k + j ≡ suc (k + j)
    suc_plus k j = omega arith

-- a mark occurs at the front where the bytes begin with it
occurs_here : (mark bytes : List ℕ) → starts_with nat_eq bytes mark ≡ true → OccursAt bytes mark 0
occurs_here mark bytes is =
    let parts = begun mark bytes is in
    record { fits = omega (arith, parts.0); reads = λ j below. subst (λ (i : ℕ). get_or bytes i 0 ≡ get_or mark j 0) (zero_plus j) (parts.1 j below) }
  where
    zero_plus : (j : ℕ) → j ≡ 0 + j
    zero_plus j = omega arith

here_begins : (mark bytes : List ℕ) → OccursAt bytes mark 0 → starts_with nat_eq bytes mark ≡ true
here_begins mark bytes at =
    begins mark bytes (omega (arith, at.fits)) (λ j below. subst (λ (i : ℕ). get_or bytes i 0 ≡ get_or mark j 0) (plus_zero j) (at.reads j below))
  where
    plus_zero : (j : ℕ) → 0 + j ≡ j
    plus_zero j = omega arith

-- a sum from the number after another
suc_plus : (k n : ℕ) → suc k + n ≡ k + n + 1
suc_plus k n = omega arith

-- where the mark ends that is found first, by what is found after the first byte
through_by_test : (mark : List ℕ) (b : ℕ) (bytes : List ℕ) →
    ((r : Option ℕ) → FindsNeedle bytes mark 0 r → option_map (λ k. k + length mark) r ≡ length_through mark bytes) →
    (t : Bool) (r : Option ℕ) → starts_with nat_eq (b ∷ bytes) mark ≡ t → FindsNeedle (b ∷ bytes) mark 0 r →
    option_map (λ k. k + length mark) r ≡ cond t (Some (length mark)) (option_map (λ n. n + 1) (length_through mark bytes))
through_by_test mark b bytes later true None is found = absurd (found 0 (omega arith) (omega arith) (occurs_here mark (b ∷ bytes) is))
through_by_test mark b bytes later true (Some zero) is found = ap Some (omega arith)
through_by_test mark b bytes later true (Some (suc k)) is found = absurd (found.0.before 0 (omega arith) (omega arith) (occurs_here mark (b ∷ bytes) is))
through_by_test mark b bytes later false None is found =
    ap (option_map (λ n. n + 1)) (later None (λ k low high at. found (suc k) (omega arith) (omega arith) (occurs_later mark b bytes k at)))
through_by_test mark b bytes later false (Some zero) is found = absurd (true≢false (sym (here_begins mark (b ∷ bytes) found.1) ∙ is))
through_by_test mark b bytes later false (Some (suc k)) is found =
    ap Some (suc_plus k (length mark)) ∙ ap (option_map (λ n. n + 1)) (later (Some k) (
      record {
        low = omega arith;
        high = omega (arith, found.0.high);
        before = λ j low high at. found.0.before (suc j) (omega arith) (omega arith) (occurs_later mark b bytes j at);
      },
      occurs_earlier mark b bytes k found.1,
    ))

-- where the mark ends that is found first
pub through_first : (mark bytes : List ℕ) (r : Option ℕ) → 0 < length mark → FindsNeedle bytes mark 0 r →
    option_map (λ k. k + length mark) r ≡ length_through mark bytes
through_first mark [] None some found = refl
through_first mark [] (Some k) some found = absurd (omega (arith, found.1.fits))
through_first mark (b ∷ bytes) r some found =
    through_by_test mark b bytes (λ q f. through_first mark bytes q some f) (starts_with nat_eq (b ∷ bytes) mark) r refl found

-- where there is such a byte, the bytes before it are the first piece
pub further_pieces : (byte : ℕ) (bytes : List ℕ) (place : ℕ) → IsFirstByte (is_byte byte) bytes (Some place) →
    slice_split (λ b. b == byte) bytes
    ≡ take place bytes ∷ slice_split (λ b. b == byte) (take (length bytes - (place + 1)) (drop (place + 1) bytes))
further_pieces byte bytes place found =
    slice_split_first (λ b. b == byte) bytes 0 (omega (arith, place_of_first byte bytes place found, found.0.high))
    ∙ rw (sym (place_of_first byte bytes place found), take_rest bytes (place + 1)) refl

-- a piece that is taken leaves fewer
pub goes_on : (s t : Pieces) (item : Bor (List ℕ)) → pieces_left s ≡ item.now ∷ pieces_left t → MakesProgress (can_next-default Pieces (Bor (List ℕ))) (item_count pieces_left) s (Some item) t
goes_on s t item e = record {
  on = λ _. (tt, tt, subst (λ (l : List (List ℕ)). length (pieces_left t) < length l) (sym e) (omega arith));
  keeps = tt;
  rests = λ _. tt;
}
