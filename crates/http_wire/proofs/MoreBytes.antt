-- Chunks and bodies that are found in some bytes stay as they are where more bytes come after them.
use Rattle.std.proofs.Common.{◌≡◌, ◌≢◌, ℕ, zero, suc, ◌+◌, ◌-◌, ◌≤◌, Bool, true, false, List, [], ◌∷◌, ◌++◌, length, take, drop, refl, sym, ap, ◌∙◌, arith, cond, length-append}
use Rattle.std.specs.Prelude.{Option, Some, None, nat_eq, nat_le, nat_lt}
use Rattle.std.specs.List.{starts_with}
use Rattle.std.proofs.lemmas.Bool.{leb-true, le-leb, ltb-false, le-ltb}
use Rattle.std.proofs.lemmas.List.{take-append-le, drop-append-le, length-drop}
use Rattle.http_fields.specs.declared.chunks.Chunk.{Chunk}
use Rattle.http_fields.specs.declared.chunks.Chunk.TheVariants as chunk
use Rattle.http_fields.specs.declared.framing.Framing.{Framing}
use Rattle.http_fields.specs.declared.framing.Framing.TheVariants as framing
use Rattle.http_fields.specs.Marks.{line_end, empty_line, length_through}
use Rattle.http_wire.specs.Judging.{longest_body}
use Rattle.http_fields.specs.Chunks.{BodyFront, unfinished, faulty, whole, chunk_size, trailers_to, data_before, sized_chunk, lined_chunk, chunk_at, with_chunk, follow, chunks}
use Rattle.http_wire.specs.Stream.{within_longest, body_front, longest_coded}
use Rattle.http_fields.specs.Bodies.{stated_body}
use Rattle.http_fields.proofs.FoundMarks.{same_begin, through_stays, take_grows, through_first_stays, through_first_within, ended_alike}

-- ---- chunks

-- a chunk that is seen again where more bytes came is the same, and its data lies within the bytes
pub record Stays (c d : Chunk) (n : ℕ) : Type 0 where
  pub same : d ≡ c
  pub fits : (place size : ℕ) → c ≡ chunk.More place size → place + size + 2 ≤ n

fits_by : (t u : Bool) (place size n : ℕ) → place + size + 2 ≤ n → (at count : ℕ) →
    cond t chunk.Cut (cond u (chunk.More place size) (chunk.Wrong 400)) ≡ chunk.More at count → at + count + 2 ≤ n
fits_by true u place size n all at count is = absurd cc
fits_by false true place size n all at count is =
    let one : place ≡ at = cc in let other : size ≡ count = cc in omega (arith, all, one, other)
fits_by false false place size n all at count is = absurd cc

ended_stays : (place size : ℕ) (xs ys : List ℕ) (t : Bool) → nat_lt (length (drop (place + size) xs)) 2 ≡ t →
    data_before place size (drop (place + size) xs) ≢ chunk.Cut →
    Stays (data_before place size (drop (place + size) xs)) (data_before place size (drop (place + size) (xs ++ ys))) (length xs)
ended_stays place size xs ys true short isnt = absurd (isnt (rw short refl))
ended_stays place size xs ys false long isnt =
    let two : 2 ≤ length (drop (place + size) xs) = ltb-false _ _ long in
    let all : place + size + 2 ≤ length xs = omega (arith, two, length-drop (place + size) xs) in
    let apart : drop (place + size) (xs ++ ys) ≡ drop (place + size) xs ++ ys = drop-append-le (place + size) xs ys (omega (arith, all)) in
    let longer : nat_lt (length (drop (place + size) xs ++ ys)) 2 ≡ false =
    le-ltb _ _ (omega (arith, two, length-append (drop (place + size) xs) ys)) in
    let alike : starts_with nat_eq (drop (place + size) xs ++ ys) line_end ≡ starts_with nat_eq (drop (place + size) xs) line_end =
    same_begin line_end (drop (place + size) xs) ys (omega (arith, two)) in
    record {
      same = ap (data_before place size) apart
          ∙ ended_alike place size (drop (place + size) xs) (drop (place + size) xs ++ ys) longer long alike;
      fits = λ at count is. fits_by (nat_lt (length (drop (place + size) xs)) 2) (starts_with nat_eq (drop (place + size) xs) line_end) place size (length xs) all at count is;
    }

-- a chunk with a size
large_stays : (sum n m : ℕ) (xs ys : List ℕ) (t : Bool) → nat_lt longest_body (sum + suc m) ≡ t →
    sized_chunk longest_body sum xs n (Some (suc m)) ≢ chunk.Cut →
    Stays (sized_chunk longest_body sum xs n (Some (suc m))) (sized_chunk longest_body sum (xs ++ ys) n (Some (suc m))) (length xs)
large_stays sum n m xs ys true large isnt = record {
  same = rw large refl;
  fits = λ place size is. absurd (wrong_isnt_more place size (rw large at is));
}
  where
    wrong_isnt_more : (place size : ℕ) → chunk.Wrong 413 ≡ chunk.More place size → ⊥
    wrong_isnt_more place size is = cc
large_stays sum n m xs ys false small isnt =
    let piece = ended_stays n (suc m) xs ys (nat_lt (length (drop (n + suc m) xs)) 2) refl (λ is. isnt (rw small is)) in
    record { same = rw small piece.same; fits = λ place size is. piece.fits place size (rw small at is) }

-- the last chunk
trailers_stay : (n : ℕ) (xs ys : List ℕ) (r : Option ℕ) → n ≤ length xs → length_through empty_line (drop n xs) ≡ r →
    trailers_to n r ≢ chunk.Cut → Stays (trailers_to n r) (trailers_to n (length_through empty_line (drop n (xs ++ ys)))) (length xs)
trailers_stay n xs ys None within is isnt = absurd (isnt refl)
trailers_stay n xs ys (Some m) within is isnt = record {
  same = ap (trailers_to n) (ap (length_through empty_line) (drop-append-le n xs ys within) ∙ through_stays empty_line (drop n xs) ys m is);
  fits = λ place size more. absurd (last_isnt_more (n + m) place size more);
}
  where
    last_isnt_more : (used place size : ℕ) → chunk.Last used ≡ chunk.More place size → ⊥
    last_isnt_more used place size more = cc

-- a chunk whose line ends
sized_stays : (sum n : ℕ) (xs ys : List ℕ) (s : Option ℕ) → n ≤ length xs → sized_chunk longest_body sum xs n s ≢ chunk.Cut →
    Stays (sized_chunk longest_body sum xs n s) (sized_chunk longest_body sum (xs ++ ys) n s) (length xs)
sized_stays sum n xs ys None within isnt = record { same = refl; fits = λ place size is. absurd cc }
sized_stays sum n xs ys (Some zero) within isnt =
    trailers_stay (n - 2) xs ys (length_through empty_line (drop (n - 2) xs)) (omega arith) refl isnt
sized_stays sum n xs ys (Some (suc m)) within isnt = large_stays sum n m xs ys (nat_lt longest_body (sum + suc m)) refl isnt

-- a chunk whose line doesn't end where it should
unlined_stays : (sum : ℕ) (xs ys : List ℕ) (t : Bool) → nat_le 64 (length xs) ≡ t → length_through line_end (take 64 xs) ≡ None →
    lined_chunk longest_body sum xs None ≢ chunk.Cut → Stays (lined_chunk longest_body sum xs None) (chunk_at longest_body sum (xs ++ ys)) (length xs)
unlined_stays sum xs ys false short none isnt = absurd (isnt (rw short refl))
unlined_stays sum xs ys true long none isnt =
    let all : 64 ≤ length xs = leb-true _ _ long in
    let longer : nat_le 64 (length (xs ++ ys)) ≡ true = le-leb _ _ (omega (arith, all, length-append xs ys)) in
    let still : length_through line_end (take 64 (xs ++ ys)) ≡ None =
    ap (length_through line_end) (take-append-le 64 xs ys all) ∙ none in
    record {
      same = ap (lined_chunk longest_body sum (xs ++ ys)) still ∙ wrong_both sum xs (xs ++ ys) long longer;
      fits = λ place size is. absurd (wrong_isnt_more place size (rw long at is));
    }
  where
    wrong_both : (sum : ℕ) (old new : List ℕ) → nat_le 64 (length old) ≡ true → nat_le 64 (length new) ≡ true → lined_chunk longest_body sum new None ≡ lined_chunk longest_body sum old None
    wrong_both sum old new of_a of_b = rw (of_a, of_b) refl

    wrong_isnt_more : (place size : ℕ) → chunk.Wrong 400 ≡ chunk.More place size → ⊥
    wrong_isnt_more place size is = cc

lined_stays : (sum : ℕ) (xs ys : List ℕ) (r : Option ℕ) → length_through line_end (take 64 xs) ≡ r → lined_chunk longest_body sum xs r ≢ chunk.Cut →
    Stays (lined_chunk longest_body sum xs r) (chunk_at longest_body sum (xs ++ ys)) (length xs)
lined_stays sum xs ys None is isnt = unlined_stays sum xs ys (nat_le 64 (length xs)) refl is isnt
lined_stays sum xs ys (Some n) is isnt =
    let bounds = through_first_within line_end 64 xs n is in
    let found : length_through line_end (take 64 (xs ++ ys)) ≡ Some n = through_first_stays line_end 64 xs ys n is in
    let line : take (n - 2) (xs ++ ys) ≡ take (n - 2) xs = take-append-le (n - 2) xs ys (omega (arith, bounds.within)) in
    let sized = sized_stays sum n xs ys (chunk_size (take (n - 2) xs)) bounds.within isnt in
    record {
      same = ap (lined_chunk longest_body sum (xs ++ ys)) found ∙ ap (λ zs. sized_chunk longest_body sum (xs ++ ys) n (chunk_size zs)) line ∙ sized.same;
      fits = sized.fits;
    }

-- a chunk that isn't cut stays the same
pub chunk_stays : (sum : ℕ) (xs ys : List ℕ) → chunk_at longest_body sum xs ≢ chunk.Cut → Stays (chunk_at longest_body sum xs) (chunk_at longest_body sum (xs ++ ys)) (length xs)
chunk_stays sum xs ys isnt = lined_stays sum xs ys (length_through line_end (take 64 xs)) refl isnt

-- ---- bodies

-- the chunks after one that is whole are settled where all are
behind_isnt : (done : List ℕ) (taken : ℕ) (rest : BodyFront) → with_chunk done taken rest ≢ unfinished → rest ≢ unfinished
behind_isnt done taken unfinished isnt = isnt
behind_isnt done taken (faulty status) isnt = λ is. cc
behind_isnt done taken (whole body used) isnt = λ is. cc

-- a chunk that stays, and those after it that stay
followed_stay : (c : Chunk) (xs ys : List ℕ) (f g : ℕ → ℕ → BodyFront) → c ≢ chunk.Cut →
    ((place size : ℕ) → c ≡ chunk.More place size → place + size + 2 ≤ length xs) →
    ((size skip : ℕ) → f size skip ≢ unfinished → g size skip ≡ f size skip) → follow c xs f ≢ unfinished →
    follow c (xs ++ ys) g ≡ follow c xs f
followed_stay chunk.Cut xs ys f g isnt fits later settled = absurd (isnt refl)
followed_stay (chunk.Wrong status) xs ys f g isnt fits later settled = refl
followed_stay (chunk.Last used) xs ys f g isnt fits later settled = refl
followed_stay (chunk.More place size) xs ys f g isnt fits later settled =
    let within = fits place size refl in
    let piece : take size (drop place (xs ++ ys)) ≡ take size (drop place xs) =
    ap (take size) (drop-append-le place xs ys (omega (arith, within)))
    ∙ take-append-le size (drop place xs) ys (omega (arith, within, length-drop place xs)) in
    let same = later size (place + size + 1) (behind_isnt (take size (drop place xs)) (place + size + 2) (f size (place + size + 1)) settled) in
    ap (λ zs. with_chunk zs (place + size + 2) (g size (place + size + 1))) piece
    ∙ ap (with_chunk (take size (drop place xs)) (place + size + 2)) same

-- the outcome of a chunk that is cut isn't settled
cut_follows : (c : Chunk) (xs : List ℕ) (f : ℕ → ℕ → BodyFront) → follow c xs f ≢ unfinished → c ≢ chunk.Cut
cut_follows c xs f settled = λ is. settled (ap (λ d. follow d xs f) is)

-- chunks that are settled stay as they are
pub chunks_stay : (skip sum : ℕ) (xs ys : List ℕ) → chunks longest_body skip sum xs ≢ unfinished → chunks longest_body skip sum (xs ++ ys) ≡ chunks longest_body skip sum xs
chunks_stay skip sum [] ys settled = absurd (settled refl)
chunks_stay (suc skip) sum (x ∷ xs) ys settled = chunks_stay skip sum xs ys settled
chunks_stay zero sum (x ∷ xs) ys settled =
    let isnt = cut_follows (chunk_at longest_body sum (x ∷ xs)) (x ∷ xs) (λ size skip. chunks longest_body skip (sum + size) xs) settled in
    let stays = chunk_stays sum (x ∷ xs) ys isnt in
    ap (λ c. follow c (x ∷ (xs ++ ys)) (λ size skip. chunks longest_body skip (sum + size) (xs ++ ys))) stays.same
    ∙ followed_stay (chunk_at longest_body sum (x ∷ xs)) (x ∷ xs) ys (λ size skip. chunks longest_body skip (sum + size) xs) (λ size skip. chunks longest_body skip (sum + size) (xs ++ ys))
    isnt stays.fits (λ size skip isnt_too. chunks_stay skip (sum + size) xs ys isnt_too) settled

-- a body of a stated length
stated_stays : (n : ℕ) (xs ys : List ℕ) (t : Bool) → nat_le n (length xs) ≡ t → stated_body n xs ≢ unfinished → stated_body n (xs ++ ys) ≡ stated_body n xs
stated_stays n xs ys false short settled = absurd (settled (rw short refl))
stated_stays n xs ys true long settled =
    let within : n ≤ length xs = leb-true _ _ long in
    let longer : nat_le n (length (xs ++ ys)) ≡ true = le-leb _ _ (omega (arith, within, length-append xs ys)) in
    both_whole n xs (xs ++ ys) long longer (take-append-le n xs ys within)
  where
    both_whole : (n : ℕ) (old new : List ℕ) → nat_le n (length old) ≡ true → nat_le n (length new) ≡ true → take n new ≡ take n old → stated_body n new ≡ stated_body n old
    both_whole n old new of_a of_b same = rw (of_a, of_b, same) refl

-- a body in chunks that is too long
long_stays : (xs ys : List ℕ) (t : Bool) → nat_le longest_coded (length xs) ≡ t → chunks longest_body 0 0 (take longest_coded xs) ≡ unfinished →
    within_longest xs unfinished ≢ unfinished →
    within_longest (xs ++ ys) (chunks longest_body 0 0 (take longest_coded (xs ++ ys))) ≡ within_longest xs unfinished
long_stays xs ys false short is settled = absurd (settled (rw short refl))
long_stays xs ys true long is settled =
    let all : longest_coded ≤ length xs = leb-true _ _ long in
    let longer : nat_le longest_coded (length (xs ++ ys)) ≡ true = le-leb _ _ (omega (arith, all, length-append xs ys)) in
    ap (λ zs. within_longest (xs ++ ys) (chunks longest_body 0 0 zs)) (take-append-le longest_coded xs ys all)
    ∙ ap (within_longest (xs ++ ys)) is ∙ both_long xs (xs ++ ys) long longer
  where
    both_long : (old new : List ℕ) → nat_le longest_coded (length old) ≡ true → nat_le longest_coded (length new) ≡ true →
        within_longest new unfinished ≡ within_longest old unfinished
    both_long old new of_a of_b = rw (of_a, of_b) refl

-- a body in chunks that is settled before that
short_stays : (xs ys : List ℕ) (r : BodyFront) → chunks longest_body 0 0 (take longest_coded xs) ≡ r → r ≢ unfinished →
    chunks longest_body 0 0 (take longest_coded (xs ++ ys)) ≡ r
short_stays xs ys r is settled =
    let grown = take_grows longest_coded xs ys in
    ap (chunks longest_body 0 0) grown.1 ∙ chunks_stay 0 0 (take longest_coded xs) grown.0 (λ cut. settled (sym is ∙ cut)) ∙ is

chunked_stays : (xs ys : List ℕ) (r : BodyFront) → chunks longest_body 0 0 (take longest_coded xs) ≡ r → within_longest xs r ≢ unfinished →
    within_longest (xs ++ ys) (chunks longest_body 0 0 (take longest_coded (xs ++ ys))) ≡ within_longest xs r
chunked_stays xs ys unfinished is settled = long_stays xs ys (nat_le longest_coded (length xs)) refl is settled
chunked_stays xs ys (faulty status) is settled = ap (within_longest (xs ++ ys)) (short_stays xs ys (faulty status) is (λ cut. cc))
chunked_stays xs ys (whole body used) is settled = ap (within_longest (xs ++ ys)) (short_stays xs ys (whole body used) is (λ cut. cc))

-- a body that is settled stays as it is
pub body_stays : (f : Framing) (xs ys : List ℕ) → body_front f xs ≢ unfinished → body_front f (xs ++ ys) ≡ body_front f xs
body_stays (framing.Stated n) xs ys settled = stated_stays n xs ys (nat_le n (length xs)) refl settled
body_stays framing.Chunked xs ys settled = chunked_stays xs ys (chunks longest_body 0 0 (take longest_coded xs)) refl settled
