-- A whole body in chunks is whole without the bytes after it.
use Rattle.std.proofs.Common.{◌≡◌, ℕ, zero, suc, ◌+◌, ◌-◌, ◌<◌, ◌≤◌, Bool, true, false, List, [], ◌∷◌, ◌++◌, length, take, drop, refl, sym, ap, subst, ◌∙◌, arith, cond, length-append}
use Rattle.std.specs.Prelude.{Option, Some, None, option_map, nat_eq, nat_le, nat_lt}
use Rattle.std.specs.List.{starts_with}
use Rattle.std.proofs.lemmas.Bool.{le-ltb}
use Rattle.std.proofs.lemmas.List.{take-append-le, drop-append-le, length-drop, length-take, length-take-le, take-append-drop}
use Rattle.http_fields.specs.declared.chunks.Chunk.{Chunk}
use Rattle.http_fields.specs.declared.chunks.Chunk.TheVariants as chunk
use Rattle.http_fields.specs.Marks.{line_end, empty_line, length_through}
use Rattle.http_fields.specs.Chunks.{BodyFront, unfinished, faulty, whole, chunk_size, trailers_to, data_before, sized_chunk, lined_chunk, chunk_at, with_chunk, follow, chunks}
use Rattle.http_fields.proofs.FoundMarks.{same_begin, is_through, take_grows, through_first_within, ended_alike}

-- ---- marks

-- where a mark isn't at the front, it is after the first byte
found_behind : (t : Bool) (m n : ℕ) (r s : Option ℕ) → ((j : ℕ) → j + 1 ≡ n → r ≡ Some j → s ≡ Some j) →
    cond t (Some m) (option_map (λ k. k + 1) r) ≡ Some n → cond t (Some m) (option_map (λ k. k + 1) s) ≡ Some n
found_behind true m n r s later is = is
found_behind false m n None s later is = absurd cc
found_behind false m n (Some j) s later is = let next : j + 1 ≡ n = cc in ap (option_map (λ k. k + 1)) (later j next refl) ∙ is

-- a mark that ends within the first bytes is found in them alone
pub through_alone : (mark xs ys : List ℕ) (n : ℕ) → 0 < length mark → length_through mark (xs ++ ys) ≡ Some n → n ≤ length xs →
    length_through mark xs ≡ Some n
through_alone mark [] ys n some is within = let bounds = is_through mark ys n is in absurd (omega (arith, bounds.long, within))
through_alone mark (x ∷ xs) ys n some is within =
    let bounds = is_through mark (x ∷ (xs ++ ys)) n is in
    let same : starts_with nat_eq (x ∷ (xs ++ ys)) mark ≡ starts_with nat_eq (x ∷ xs) mark =
    same_begin mark (x ∷ xs) ys (omega (arith, bounds.long, within)) in
    found_behind (starts_with nat_eq (x ∷ xs) mark) (length mark) n (length_through mark (xs ++ ys)) (length_through mark xs)
    (λ j next found. through_alone mark xs ys j some found (omega (arith, next, within)))
    (subst (λ (t : Bool). cond t (Some (length mark)) (option_map (λ k. k + 1) (length_through mark (xs ++ ys))) ≡ Some n) same is)

-- the same where only n bytes are looked at
through_first_alone : (mark : List ℕ) (k : ℕ) (xs ys : List ℕ) (n : ℕ) → 0 < length mark → length_through mark (take k (xs ++ ys)) ≡ Some n →
    n ≤ length xs → length_through mark (take k xs) ≡ Some n
through_first_alone mark k xs ys n some is within =
    let grown = take_grows k xs ys in
    let bounds = is_through mark (take k (xs ++ ys)) n is in
    through_alone mark (take k xs) grown.0 n some (ap (length_through mark) (sym grown.1) ∙ is)
    (omega (arith, bounds.within, within, length-take k xs, length-take k (xs ++ ys)))

-- ---- chunks

-- a chunk that is whole ends within n bytes
abbrev EndsBy : Chunk → ℕ → Type 0
EndsBy chunk.Cut n = ⊥
EndsBy (chunk.Wrong status) n = ⊥
EndsBy (chunk.Last used) n = used ≤ n
EndsBy (chunk.More place size) n = place + size + 2 ≤ n

data_ends : (t u : Bool) (place size n : ℕ) → EndsBy (cond t chunk.Cut (cond u (chunk.More place size) (chunk.Wrong 400))) n → place + size + 2 ≤ n
data_ends true u place size n ends = absurd ends
data_ends false true place size n ends = ends
data_ends false false place size n ends = absurd ends

-- data whose end is within the first bytes
data_alone : (place size : ℕ) (xs ys : List ℕ) → EndsBy (data_before place size (drop (place + size) (xs ++ ys))) (length xs) →
    data_before place size (drop (place + size) xs) ≡ data_before place size (drop (place + size) (xs ++ ys))
data_alone place size xs ys ends =
    let all : place + size + 2 ≤ length xs =
    data_ends (nat_lt (length (drop (place + size) (xs ++ ys))) 2) (starts_with nat_eq (drop (place + size) (xs ++ ys)) line_end) place size (length xs) ends in
    let two : 2 ≤ length (drop (place + size) xs) = omega (arith, all, length-drop (place + size) xs) in
    let apart : drop (place + size) (xs ++ ys) ≡ drop (place + size) xs ++ ys = drop-append-le (place + size) xs ys (omega (arith, all)) in
    let longer : nat_lt (length (drop (place + size) xs ++ ys)) 2 ≡ false =
    le-ltb _ _ (omega (arith, two, length-append (drop (place + size) xs) ys)) in
    let alike : starts_with nat_eq (drop (place + size) xs ++ ys) line_end ≡ starts_with nat_eq (drop (place + size) xs) line_end =
    same_begin line_end (drop (place + size) xs) ys (omega (arith, two)) in
    sym (ap (data_before place size) apart ∙ ended_alike place size (drop (place + size) xs) (drop (place + size) xs ++ ys) longer (le-ltb _ _ two) alike)

trailers_alone : (place : ℕ) (xs ys : List ℕ) (r : Option ℕ) → place ≤ length xs → length_through empty_line (drop place (xs ++ ys)) ≡ r →
    EndsBy (trailers_to place r) (length xs) → trailers_to place (length_through empty_line (drop place xs)) ≡ trailers_to place r
trailers_alone place xs ys None within is ends = absurd ends
trailers_alone place xs ys (Some m) within is ends =
    ap (trailers_to place)
    (through_alone empty_line (drop place xs) ys m (omega arith) (ap (length_through empty_line) (sym (drop-append-le place xs ys within)) ∙ is)
    (omega (arith, ends, length-drop place xs)))

large_alone : (most : ℕ) (sum n m : ℕ) (xs ys : List ℕ) (t : Bool) → nat_lt most (sum + suc m) ≡ t →
    EndsBy (sized_chunk most sum (xs ++ ys) n (Some (suc m))) (length xs) → sized_chunk most sum xs n (Some (suc m)) ≡ sized_chunk most sum (xs ++ ys) n (Some (suc m))
large_alone most sum n m xs ys true large ends = absurd (rw large at ends)
large_alone most sum n m xs ys false small ends = rw small (data_alone n (suc m) xs ys (rw small at ends))

sized_alone : (most : ℕ) (sum n : ℕ) (xs ys : List ℕ) (s : Option ℕ) → n ≤ length xs → EndsBy (sized_chunk most sum (xs ++ ys) n s) (length xs) →
    sized_chunk most sum xs n s ≡ sized_chunk most sum (xs ++ ys) n s
sized_alone most sum n xs ys None within ends = absurd ends
sized_alone most sum n xs ys (Some zero) within ends =
    trailers_alone (n - 2) xs ys (length_through empty_line (drop (n - 2) (xs ++ ys))) (omega arith) refl ends
sized_alone most sum n xs ys (Some (suc m)) within ends = large_alone most sum n m xs ys (nat_lt most (sum + suc m)) refl ends

-- a chunk ends after its line
trailers_behind : (place : ℕ) (bytes : List ℕ) (r : Option ℕ) (k : ℕ) → length_through empty_line bytes ≡ r → EndsBy (trailers_to place r) k → place + 4 ≤ k
trailers_behind place bytes None k is ends = absurd ends
trailers_behind place bytes (Some m) k is ends = let bounds = is_through empty_line bytes m is in omega (arith, bounds.long, ends)

large_behind : (most : ℕ) (sum n m k : ℕ) (bytes : List ℕ) (t : Bool) → nat_lt most (sum + suc m) ≡ t → EndsBy (sized_chunk most sum bytes n (Some (suc m))) k → n ≤ k
large_behind most sum n m k bytes true large ends = absurd (rw large at ends)
large_behind most sum n m k bytes false small ends =
    let all = data_ends (nat_lt (length (drop (n + suc m) bytes)) 2) (starts_with nat_eq (drop (n + suc m) bytes) line_end) n (suc m) k (rw small at ends) in
    omega (arith, all)

sized_behind : (most : ℕ) (sum n k : ℕ) (bytes : List ℕ) (s : Option ℕ) → 2 ≤ n → EndsBy (sized_chunk most sum bytes n s) k → n ≤ k
sized_behind most sum n k bytes None two ends = absurd ends
sized_behind most sum n k bytes (Some zero) two ends =
    let all = trailers_behind (n - 2) (drop (n - 2) bytes) (length_through empty_line (drop (n - 2) bytes)) k refl ends in omega (arith, all)
sized_behind most sum n k bytes (Some (suc m)) two ends = large_behind most sum n m k bytes (nat_lt most (sum + suc m)) refl ends

unlined_ends : (t : Bool) (k : ℕ) → EndsBy (cond t (chunk.Wrong 400) chunk.Cut) k → ⊥
unlined_ends true k ends = ends
unlined_ends false k ends = ends

lined_alone : (most : ℕ) (sum : ℕ) (xs ys : List ℕ) (r : Option ℕ) → length_through line_end (take 64 (xs ++ ys)) ≡ r →
    EndsBy (lined_chunk most sum (xs ++ ys) r) (length xs) → chunk_at most sum xs ≡ lined_chunk most sum (xs ++ ys) r
lined_alone most sum xs ys None is ends = absurd (unlined_ends (nat_le 64 (length (xs ++ ys))) (length xs) ends)
lined_alone most sum xs ys (Some n) is ends =
    let bounds = through_first_within line_end 64 (xs ++ ys) n is in
    let within : n ≤ length xs = sized_behind most sum n (length xs) (xs ++ ys) (chunk_size (take (n - 2) (xs ++ ys))) bounds.long ends in
    let line : take (n - 2) xs ≡ take (n - 2) (xs ++ ys) = sym (take-append-le (n - 2) xs ys (omega (arith, within))) in
    ap (lined_chunk most sum xs) (through_first_alone line_end 64 xs ys n (omega arith) is within)
    ∙ ap (λ zs. sized_chunk most sum xs n (chunk_size zs)) line
    ∙ sized_alone most sum n xs ys (chunk_size (take (n - 2) (xs ++ ys))) within ends

-- a chunk that ends within the first bytes is the same in them alone
chunk_alone : (most : ℕ) (sum : ℕ) (xs ys : List ℕ) → EndsBy (chunk_at most sum (xs ++ ys)) (length xs) → chunk_at most sum xs ≡ chunk_at most sum (xs ++ ys)
chunk_alone most sum xs ys ends = lined_alone most sum xs ys (length_through line_end (take 64 (xs ++ ys))) refl ends

-- and has some of them
lined_some : (most : ℕ) (sum k : ℕ) (bytes : List ℕ) (r : Option ℕ) → length_through line_end (take 64 bytes) ≡ r → EndsBy (lined_chunk most sum bytes r) k → 0 < k
lined_some most sum k bytes None is ends = absurd (unlined_ends (nat_le 64 (length bytes)) k ends)
lined_some most sum k bytes (Some n) is ends =
    let bounds = through_first_within line_end 64 bytes n is in
    let behind = sized_behind most sum n k bytes (chunk_size (take (n - 2) bytes)) bounds.long ends in omega (arith, bounds.long, behind)

-- ---- bodies

-- the first chunk of a whole body ends within it
first_ends : (c : Chunk) (bytes : List ℕ) (f : ℕ → ℕ → BodyFront) (body : List ℕ) (used n : ℕ) → follow c bytes f ≡ whole body used → used ≤ n → EndsBy c n
first_ends chunk.Cut bytes f body used n is within = absurd cc
first_ends (chunk.Wrong status) bytes f body used n is within = absurd cc
first_ends (chunk.Last count) bytes f body used n is within = let same : count ≡ used = cc in omega (arith, same, within)
first_ends (chunk.More place size) bytes f body used n is within =
    more_ends (take size (drop place bytes)) (place + size + 2) (f size (place + size + 1)) body used n is within
  where
    more_ends : (done : List ℕ) (taken : ℕ) (rest : BodyFront) (body : List ℕ) (used n : ℕ) → with_chunk done taken rest ≡ whole body used → used ≤ n → taken ≤ n
    more_ends done taken unfinished body used n is within = absurd cc
    more_ends done taken (faulty status) body used n is within = absurd cc
    more_ends done taken (whole others count) body used n is within = let sum : taken + count ≡ used = cc in omega (arith, sum, within)

-- a whole body takes some bytes
takes_some : (most : ℕ) (skip sum : ℕ) (bytes body : List ℕ) (used : ℕ) → chunks most skip sum bytes ≡ whole body used → 0 < used
takes_some most skip sum [] body used is = absurd cc
takes_some most (suc skip) sum (b ∷ bytes) body used is = takes_some most skip sum bytes body used is
takes_some most zero sum (b ∷ bytes) body used is =
    lined_some most sum used (b ∷ bytes) (length_through line_end (take 64 (b ∷ bytes))) refl
    (first_ends (chunk_at most sum (b ∷ bytes)) (b ∷ bytes) (λ size skip. chunks most skip (sum + size) bytes) body used used is (omega arith))

-- the chunks after the first, in fewer bytes
followed_alone : (c : Chunk) (xs ys : List ℕ) (f g : ℕ → ℕ → BodyFront) (body : List ℕ) (used : ℕ) → used ≤ length xs →
    ((size skip : ℕ) (others : List ℕ) (count : ℕ) → f size skip ≡ whole others count → suc (skip + count) ≤ length xs → g size skip ≡ whole others count) →
    follow c (xs ++ ys) f ≡ whole body used → follow c xs g ≡ whole body used
followed_alone chunk.Cut xs ys f g body used within later is = absurd cc
followed_alone (chunk.Wrong status) xs ys f g body used within later is = absurd cc
followed_alone (chunk.Last count) xs ys f g body used within later is = is
followed_alone (chunk.More place size) xs ys f g body used within later is =
    more_alone place size xs ys (f size (place + size + 1)) (g size (place + size + 1)) body used within (later size (place + size + 1)) is
  where
    more_alone : (place size : ℕ) (xs ys : List ℕ) (p q : BodyFront) (body : List ℕ) (used : ℕ) → used ≤ length xs →
        ((others : List ℕ) (count : ℕ) → p ≡ whole others count → suc (place + size + 1 + count) ≤ length xs → q ≡ whole others count) →
        with_chunk (take size (drop place (xs ++ ys))) (place + size + 2) p ≡ whole body used →
        with_chunk (take size (drop place xs)) (place + size + 2) q ≡ whole body used
    more_alone place size xs ys unfinished q body used within later is = absurd cc
    more_alone place size xs ys (faulty status) q body used within later is = absurd cc
    more_alone place size xs ys (whole others count) q body used within later is =
        let sum : place + size + 2 + count ≡ used = cc in
        let piece : take size (drop place xs) ≡ take size (drop place (xs ++ ys)) =
        sym
        (ap (take size) (drop-append-le place xs ys (omega (arith, sum, within)))
        ∙ take-append-le size (drop place xs) ys (omega (arith, sum, within, length-drop place xs))) in
        ap (λ zs. with_chunk zs (place + size + 2) q) piece
        ∙ ap (with_chunk (take size (drop place (xs ++ ys))) (place + size + 2)) (later others count refl (omega (arith, sum, within)))
        ∙ is

chunks_alone : (most : ℕ) (skip sum : ℕ) (xs ys body : List ℕ) (used : ℕ) → chunks most skip sum (xs ++ ys) ≡ whole body used → skip + used ≤ length xs →
    chunks most skip sum xs ≡ whole body used
chunks_alone most skip sum [] ys body used is within = let some = takes_some most skip sum ys body used is in absurd (omega (arith, some, within))
chunks_alone most (suc skip) sum (x ∷ xs) ys body used is within = chunks_alone most skip sum xs ys body used is (omega (arith, within))
chunks_alone most zero sum (x ∷ xs) ys body used is within =
    let c = chunk_at most sum (x ∷ (xs ++ ys)) in
    let ends = first_ends c (x ∷ (xs ++ ys)) (λ size skip. chunks most skip (sum + size) (xs ++ ys)) body used (length (x ∷ xs)) is (omega (arith, within)) in
    ap (λ d. follow d (x ∷ xs) (λ size skip. chunks most skip (sum + size) xs)) (chunk_alone most sum (x ∷ xs) ys ends)
    ∙ followed_alone c (x ∷ xs) ys (λ size skip. chunks most skip (sum + size) (xs ++ ys)) (λ size skip. chunks most skip (sum + size) xs) body used (omega (arith, within))
    (λ size skip others count behind fits. chunks_alone most skip (sum + size) xs ys others count behind (omega (arith, fits))) is

-- the bytes that a whole body takes are one body
pub body_alone : (most : ℕ) (bytes body : List ℕ) (used : ℕ) → chunks most 0 0 bytes ≡ whole body used → used ≤ length bytes →
    chunks most 0 0 (take used bytes) ≡ whole body (length (take used bytes))
body_alone most bytes body used is within =
    let size : length (take used bytes) ≡ used = length-take-le used bytes within in
    chunks_alone most 0 0 (take used bytes) (drop used bytes) body used (ap (chunks most 0 0) (take-append-drop used bytes) ∙ is) (omega (arith, size))
    ∙ ap (whole body) (sym size)
