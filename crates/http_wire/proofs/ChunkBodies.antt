-- Bodies in chunks as they are spelled, and as they are read.
use Rattle.std.proofs.Common.{◌≡◌, ℕ, zero, suc, ◌+◌, ◌-◌, ◌<◌, ◌≤◌, Bool, true, false, List, [], ◌∷◌, ◌++◌, length, take, drop, refl, sym, ap, subst, ◌∙◌, arith, cond, length-append, append_assoc}
use Rattle.std.specs.Prelude.{Option, Some, None, nat_eq, nat_le, nat_lt}
use Rattle.std.specs.List.{starts_with, flat_map, AllByRecursion}
use Rattle.std.proofs.lemmas.Bool.{le-ltb, ltb-false}
use Rattle.std.proofs.lemmas.List.{length-drop, length-take-le, take-append-drop, drop-drop}
use Rattle.std.proofs.Math.Seq.{take-append_seam, drop-append_seam, drop-append-add}
use Rattle.httparse.specs.Grammar.{ChunkLine, print_chunk_line, chunk_size as line_size}
use Rattle.http_fields.specs.declared.chunks.Chunk.{Chunk}
use Rattle.http_fields.specs.declared.chunks.Chunk.TheVariants as chunk
use Rattle.http_fields.specs.Marks.{line_end, empty_line, length_through}
use Rattle.http_wire.specs.Judging.{longest_body}
use Rattle.http_fields.specs.Chunks.{whole, chunk_size, trailers_to, data_before, sized_chunk, lined_chunk, chunk_at, with_chunk, chunks}
use Rattle.http_wire.specs.Chunked.{IsShortLine, DataChunk, print_chunk, IsDataChunk, EachWholeIsSpelled, EachSpelledIsRead}
use Rattle.http_fields.proofs.FoundMarks.{is_through, through_stays}
use Rattle.http_fields.proofs.FewerBytes.{through_alone}
use Rattle.http_fields.proofs.ChunkRows.{chunks_cut, chunks_wrong, chunks_last, chunks_more, whole_behind}
use Rattle.http_wire.proofs.ChunkLines.{IsLineOf, line_of, read_line, begins}

-- ---- what is spelled is read

data_read : (place size : ℕ) (rest : List ℕ) → data_before place size (13 ∷ 10 ∷ rest) ≡ chunk.More place size
data_read place size rest = rw (le-ltb (length (13 ∷ 10 ∷ rest)) 2 (omega arith)) refl

sized_more : (sum n m : ℕ) (bytes rest : List ℕ) → sum + suc m ≤ longest_body → drop (n + suc m) bytes ≡ 13 ∷ 10 ∷ rest →
    sized_chunk longest_body sum bytes n (Some (suc m)) ≡ chunk.More n (suc m)
sized_more sum n m bytes rest fits ends =
    rw (le-ltb longest_body (sum + suc m) fits) (ap (data_before n (suc m)) ends ∙ data_read n (suc m) rest)

sized_as : (sum n k size : ℕ) (bytes rest : List ℕ) → k ≡ size → 0 < size → sum + size ≤ longest_body → drop (n + size) bytes ≡ 13 ∷ 10 ∷ rest →
    sized_chunk longest_body sum bytes n (Some k) ≡ chunk.More n size
sized_as sum n k zero bytes rest same some fits ends = absurd (omega arith)
sized_as sum n k (suc m) bytes rest same some fits ends = ap (λ (j : ℕ). sized_chunk longest_body sum bytes n (Some j)) same ∙ sized_more sum n m bytes rest fits ends

-- a chunk's bytes, put otherwise
chunk_bytes : (c : DataChunk) (rest : List ℕ) → print_chunk c ++ rest ≡ print_chunk_line c.line ++ (c.bytes ++ (13 ∷ 10 ∷ rest))
chunk_bytes c rest =
    append_assoc (print_chunk_line c.line) (c.bytes ++ line_end) rest
    ∙ ap (λ (xs : List ℕ). print_chunk_line c.line ++ xs) (append_assoc c.bytes line_end rest)

length-chunk : (c : DataChunk) → length (print_chunk c) ≡ length (print_chunk_line c.line) + length c.bytes + 2
length-chunk c =
    omega (arith, length-append (print_chunk_line c.line) (c.bytes ++ line_end), length-append c.bytes line_end)

chunk_read : (c : DataChunk) (rest : List ℕ) (sum : ℕ) → IsDataChunk c → sum + length c.bytes ≤ longest_body →
    chunk_at longest_body sum (print_chunk c ++ rest) ≡ chunk.More (length (print_chunk_line c.line)) (length c.bytes)
chunk_read c rest sum is fits =
    let line = print_chunk_line c.line in
    let behind = c.bytes ++ (13 ∷ 10 ∷ rest) in
    let read = read_line c.line behind is.line in
    let ends : drop (length line + length c.bytes) (line ++ behind) ≡ 13 ∷ 10 ∷ rest =
    drop-append-add line behind (length c.bytes) ∙ drop-append_seam c.bytes (13 ∷ 10 ∷ rest) in
    ap (chunk_at longest_body sum) (chunk_bytes c rest)
    ∙ ap (lined_chunk longest_body sum (line ++ behind)) read.found
    ∙ ap (sized_chunk longest_body sum (line ++ behind) (length line)) read.sized
    ∙ sized_as sum (length line) (line_size c.line) (length c.bytes) (line ++ behind) rest is.size is.some fits ends

last_read : (l : ChunkLine) (trailers rest : List ℕ) (sum : ℕ) → IsShortLine l → line_size l ≡ 0 →
    length_through empty_line (line_end ++ trailers) ≡ Some (length (line_end ++ trailers)) →
    chunk_at longest_body sum (print_chunk_line l ++ (trailers ++ rest)) ≡ chunk.Last (length (print_chunk_line l) + length trailers)
last_read l trailers rest sum short none through =
    let line = print_chunk_line l in
    let read = read_line l (trailers ++ rest) short in
    let found : length_through empty_line (line_end ++ (trailers ++ rest)) ≡ Some (length (line_end ++ trailers)) =
    ap (length_through empty_line) (sym (append_assoc line_end trailers rest)) ∙ through_stays empty_line (line_end ++ trailers) rest (length (line_end ++ trailers)) through in
    let place : length line - 2 + length (line_end ++ trailers) ≡ length line + length trailers = omega (arith, read.long, length-append line_end trailers) in
    ap (lined_chunk longest_body sum (line ++ (trailers ++ rest))) read.found
    ∙ ap (sized_chunk longest_body sum (line ++ (trailers ++ rest)) (length line)) (read.sized ∙ ap Some none)
    ∙ ap (λ (xs : List ℕ). trailers_to (length line - 2) (length_through empty_line xs)) read.ends
    ∙ ap (trailers_to (length line - 2)) found
    ∙ ap chunk.Last place

-- chunks and what is after them
abbrev print_from : List DataChunk → ChunkLine → List ℕ → List ℕ
print_from cs l trailers = flat_map print_chunk cs ++ (print_chunk_line l ++ trailers)

abbrev data_in : List DataChunk → List ℕ
data_in cs = flat_map (λ c. c.bytes) cs

read_from : (cs : List DataChunk) (l : ChunkLine) (trailers rest : List ℕ) (sum : ℕ) → AllByRecursion IsDataChunk cs → IsShortLine l → line_size l ≡ 0 →
    length_through empty_line (line_end ++ trailers) ≡ Some (length (line_end ++ trailers)) → sum + length (data_in cs) ≤ longest_body →
    chunks longest_body 0 sum (print_from cs l trailers ++ rest) ≡ whole (data_in cs) (length (print_from cs l trailers))
read_from [] l trailers rest sum all short none through fits =
    chunks_last longest_body sum ((print_chunk_line l ++ trailers) ++ rest) (length (print_chunk_line l) + length trailers)
    (ap (chunk_at longest_body sum) (append_assoc (print_chunk_line l) trailers rest) ∙ last_read l trailers rest sum short none through)
    ∙ ap (whole []) (sym (length-append (print_chunk_line l) trailers))
read_from (c ∷ cs) l trailers rest sum all short none through fits =
    let others = print_from cs l trailers in
    let size = length c.bytes in
    let place = length (print_chunk_line c.line) in
    let bytes = print_chunk c ++ (others ++ rest) in
    let total : length (data_in (c ∷ cs)) ≡ size + length (data_in cs) = length-append c.bytes (data_in cs) in
    let long : place + size + 2 ≡ length (print_chunk c) = sym (length-chunk c) in
    let front : (print_from (c ∷ cs) l trailers ++ rest) ≡ bytes =
    ap (λ (xs : List ℕ). xs ++ rest) (append_assoc (print_chunk c) (flat_map print_chunk cs) (print_chunk_line l ++ trailers))
    ∙ append_assoc (print_chunk c) others rest in
    let piece : take size (drop place bytes) ≡ c.bytes =
    ap (λ (xs : List ℕ). take size (drop place xs)) (chunk_bytes c (others ++ rest))
    ∙ ap (take size) (drop-append_seam (print_chunk_line c.line) (c.bytes ++ (13 ∷ 10 ∷ (others ++ rest))))
    ∙ take-append_seam c.bytes (13 ∷ 10 ∷ (others ++ rest)) in
    let behind : drop (place + size + 2) bytes ≡ others ++ rest =
    ap (λ (k : ℕ). drop k bytes) long ∙ drop-append_seam (print_chunk c) (others ++ rest) in
    ap (chunks longest_body 0 sum) front
    ∙ chunks_more longest_body sum bytes place size (chunk_read c (others ++ rest) sum all.0 (omega (arith, fits, total)))
    ∙ ap (λ (xs : List ℕ). with_chunk xs (place + size + 2) (chunks longest_body 0 (sum + size) (drop (place + size + 2) bytes))) piece
    ∙ ap (λ (xs : List ℕ). with_chunk c.bytes (place + size + 2) (chunks longest_body 0 (sum + size) xs)) behind
    ∙ ap (with_chunk c.bytes (place + size + 2)) (read_from cs l trailers rest (sum + size) all.1 short none through (omega (arith, fits, total)))
    ∙ ap (whole (c.bytes ++ data_in cs))
    (ap (λ (k : ℕ). k + length others) long
    ∙ sym (length-append (print_chunk c) others)
    ∙ ap length (sym (append_assoc (print_chunk c) (flat_map print_chunk cs) (print_chunk_line l ++ trailers))))

pub each_spelled_is_read : EachSpelledIsRead
each_spelled_is_read b rest is = read_from b.chunks b.last b.trailers rest 0 is.chunks is.last is.size is.trailers (omega (arith, is.short))

-- ---- what is read is spelled

-- a chunk that was found
pub record IsChunkOf (bytes : List ℕ) (sum place size : ℕ) : Type 0 where
  pub found : DataChunk
  pub chunk : IsDataChunk found
  pub is : bytes ≡ print_chunk found ++ drop (place + size + 2) bytes
  pub long : length (print_chunk found) ≡ place + size + 2
  pub size_is : length found.bytes ≡ size
  pub data_is : take size (drop place bytes) ≡ found.bytes
  pub fits : sum + size ≤ longest_body

found_chunk : (bytes : List ℕ) (sum n m : ℕ) → IsLineOf bytes n (suc m) → sum + suc m ≤ longest_body → 2 ≤ length (drop (n + suc m) bytes) →
    drop (n + suc m) bytes ≡ 13 ∷ 10 ∷ drop 2 (drop (n + suc m) bytes) → IsChunkOf bytes sum n (suc m)
found_chunk bytes sum n m line fits two ends =
    let piece = take (suc m) (drop n bytes) in
    let size : length piece ≡ suc m = length-take-le (suc m) (drop n bytes) (omega (arith, two, length-drop (n + suc m) bytes, length-drop n bytes)) in
    let apart : drop n bytes ≡ piece ++ drop (n + suc m) bytes = sym (take-append-drop (suc m) (drop n bytes)) ∙ ap (λ (xs : List ℕ). piece ++ xs) (drop-drop (suc m) n bytes) in
    let c : DataChunk = record { line = line.line; bytes = piece } in
    let rest = drop (n + suc m + 2) bytes in
    let tail : drop 2 (drop (n + suc m) bytes) ≡ rest = drop-drop 2 (n + suc m) bytes in
    record {
      found = c;
      chunk = record { line = line.short; size = line.size ∙ sym size; some = omega (arith, size) };
      is = line.is
          ∙ ap (λ (xs : List ℕ). print_chunk_line line.line ++ xs) (apart ∙ ap (λ (xs : List ℕ). piece ++ xs) (ends ∙ ap (λ (xs : List ℕ). 13 ∷ 10 ∷ xs) tail))
          ∙ sym (chunk_bytes c rest);
      long = length-chunk c ∙ omega (arith, line.long, size);
      size_is = size;
      data_is = refl;
      fits = fits;
    }

-- ---- what a chunk says of the bytes

unlined_isnt : {A : Type 0} (t : Bool) (place size : ℕ) → cond t (chunk.Wrong 400) chunk.Cut ≡ chunk.More place size → A
unlined_isnt true place size is = absurd cc
unlined_isnt false place size is = absurd cc

trailers_isnt : {A : Type 0} (n : ℕ) (r : Option ℕ) (place size : ℕ) → trailers_to n r ≡ chunk.More place size → A
trailers_isnt n None place size is = absurd cc
trailers_isnt n (Some k) place size is = absurd cc

data_of_chunk : (bytes : List ℕ) (sum n m place size : ℕ) (t u : Bool) → IsLineOf bytes n (suc m) → sum + suc m ≤ longest_body →
    nat_lt (length (drop (n + suc m) bytes)) 2 ≡ t → starts_with nat_eq (drop (n + suc m) bytes) line_end ≡ u →
    cond t chunk.Cut (cond u (chunk.More n (suc m)) (chunk.Wrong 400)) ≡ chunk.More place size → IsChunkOf bytes sum place size
data_of_chunk bytes sum n m place size true u line fits few at is = absurd cc
data_of_chunk bytes sum n m place size false false line fits few at is = absurd cc
data_of_chunk bytes sum n m place size false true line fits few at is =
    let one : n ≡ place = cc in
    let other : suc m ≡ size = cc in
    subst (λ (k : ℕ). IsChunkOf bytes sum k size) one
    (subst (λ (k : ℕ). IsChunkOf bytes sum n k) other
    (found_chunk bytes sum n m line fits (ltb-false _ _ few) (begins (drop (n + suc m) bytes) at)))

large_chunk : (bytes : List ℕ) (sum n m place size : ℕ) (t : Bool) → IsLineOf bytes n (suc m) → nat_lt longest_body (sum + suc m) ≡ t →
    cond t (chunk.Wrong 413) (data_before n (suc m) (drop (n + suc m) bytes)) ≡ chunk.More place size → IsChunkOf bytes sum place size
large_chunk bytes sum n m place size true line large is = absurd cc
large_chunk bytes sum n m place size false line small is =
    data_of_chunk bytes sum n m place size (nat_lt (length (drop (n + suc m) bytes)) 2) (starts_with nat_eq (drop (n + suc m) bytes) line_end) line
    (ltb-false _ _ small) refl refl is

sized_of : (bytes : List ℕ) (sum n place size : ℕ) (s : Option ℕ) → length_through line_end (take 64 bytes) ≡ Some n → chunk_size (take (n - 2) bytes) ≡ s →
    sized_chunk longest_body sum bytes n s ≡ chunk.More place size → IsChunkOf bytes sum place size
sized_of bytes sum n place size None found sized is = absurd cc
sized_of bytes sum n place size (Some zero) found sized is = trailers_isnt (n - 2) (length_through empty_line (drop (n - 2) bytes)) place size is
sized_of bytes sum n place size (Some (suc m)) found sized is =
    large_chunk bytes sum n m place size (nat_lt longest_body (sum + suc m)) (line_of bytes n (suc m) found sized) refl is

lined_of : (bytes : List ℕ) (sum place size : ℕ) (r : Option ℕ) → length_through line_end (take 64 bytes) ≡ r → lined_chunk longest_body sum bytes r ≡ chunk.More place size → IsChunkOf bytes sum place size
lined_of bytes sum place size None found is = unlined_isnt (nat_le 64 (length bytes)) place size is
lined_of bytes sum place size (Some n) found is = sized_of bytes sum n place size (chunk_size (take (n - 2) bytes)) found refl is

-- the last chunk that was found
pub record IsLastOf (bytes : List ℕ) (used : ℕ) : Type 0 where
  pub line : ChunkLine
  pub trailers : List ℕ
  pub rest : List ℕ
  pub short : IsShortLine line
  pub none : line_size line ≡ 0
  pub through : length_through empty_line (line_end ++ trailers) ≡ Some (length (line_end ++ trailers))
  pub is : bytes ≡ (print_chunk_line line ++ trailers) ++ rest
  pub used_is : used ≡ length (print_chunk_line line ++ trailers)

found_last : (bytes : List ℕ) (n k : ℕ) → IsLineOf bytes n 0 → length_through empty_line (drop (n - 2) bytes) ≡ Some k → IsLastOf bytes (n - 2 + k)
found_last bytes n k found at =
    let line = print_chunk_line found.line in
    let behind = drop n bytes in
    let trailers = take (k - 2) behind in
    let rest = drop (k - 2) behind in
    let read = read_line found.line behind found.short in
    let ends : drop (n - 2) bytes ≡ line_end ++ behind =
    ap (λ (j : ℕ). drop (j - 2) bytes) (sym found.long) ∙ ap (drop (length line - 2)) found.is ∙ read.ends in
    let all : length_through empty_line (line_end ++ behind) ≡ Some k = ap (length_through empty_line) (sym ends) ∙ at in
    let bounds = is_through empty_line (line_end ++ behind) k all in
    let parts : behind ≡ trailers ++ rest = sym (take-append-drop (k - 2) behind) in
    let some : length trailers ≡ k - 2 = length-take-le (k - 2) behind (omega (arith, bounds.within, length-append line_end behind)) in
    let whole_length : length (line_end ++ trailers) ≡ k = omega (arith, length-append line_end trailers, some, bounds.long) in
    let front : line_end ++ behind ≡ (line_end ++ trailers) ++ rest =
    ap (λ (xs : List ℕ). line_end ++ xs) parts ∙ sym (append_assoc line_end trailers rest) in
    record {
      line = found.line;
      trailers = trailers;
      rest = rest;
      short = found.short;
      none = found.size;
      through = through_alone empty_line (line_end ++ trailers) rest k (omega arith) (ap (length_through empty_line) (sym front) ∙ all) (omega (arith, whole_length)) ∙ ap Some (sym whole_length);
      is = found.is ∙ ap (λ (xs : List ℕ). line ++ xs) parts ∙ sym (append_assoc line trailers rest);
      used_is = omega (arith, length-append line trailers, found.long, some, bounds.long, read.long);
    }

unlined_isnt_last : {A : Type 0} (t : Bool) (used : ℕ) → cond t (chunk.Wrong 400) chunk.Cut ≡ chunk.Last used → A
unlined_isnt_last true used is = absurd cc
unlined_isnt_last false used is = absurd cc

data_isnt_last : {A : Type 0} (t u : Bool) (n m used : ℕ) → cond t chunk.Cut (cond u (chunk.More n m) (chunk.Wrong 400)) ≡ chunk.Last used → A
data_isnt_last true u n m used is = absurd cc
data_isnt_last false true n m used is = absurd cc
data_isnt_last false false n m used is = absurd cc

large_isnt_last : {A : Type 0} (t : Bool) (bytes : List ℕ) (n m used : ℕ) → cond t (chunk.Wrong 413) (data_before n (suc m) (drop (n + suc m) bytes)) ≡ chunk.Last used → A
large_isnt_last true bytes n m used is = absurd cc
large_isnt_last false bytes n m used is =
    data_isnt_last (nat_lt (length (drop (n + suc m) bytes)) 2) (starts_with nat_eq (drop (n + suc m) bytes) line_end) n (suc m) used is

ended_last : (bytes : List ℕ) (n used : ℕ) (r : Option ℕ) → IsLineOf bytes n 0 → length_through empty_line (drop (n - 2) bytes) ≡ r → trailers_to (n - 2) r ≡ chunk.Last used → IsLastOf bytes used
ended_last bytes n used None line at is = absurd cc
ended_last bytes n used (Some k) line at is = let same : n - 2 + k ≡ used = cc in subst (IsLastOf bytes) same (found_last bytes n k line at)

sized_last : (bytes : List ℕ) (sum n used : ℕ) (s : Option ℕ) → length_through line_end (take 64 bytes) ≡ Some n → chunk_size (take (n - 2) bytes) ≡ s →
    sized_chunk longest_body sum bytes n s ≡ chunk.Last used → IsLastOf bytes used
sized_last bytes sum n used None found sized is = absurd cc
sized_last bytes sum n used (Some zero) found sized is =
    ended_last bytes n used (length_through empty_line (drop (n - 2) bytes)) (line_of bytes n 0 found sized) refl is
sized_last bytes sum n used (Some (suc m)) found sized is = large_isnt_last (nat_lt longest_body (sum + suc m)) bytes n m used is

lined_last : (bytes : List ℕ) (sum used : ℕ) (r : Option ℕ) → length_through line_end (take 64 bytes) ≡ r → lined_chunk longest_body sum bytes r ≡ chunk.Last used → IsLastOf bytes used
lined_last bytes sum used None found is = unlined_isnt_last (nat_le 64 (length bytes)) used is
lined_last bytes sum used (Some n) found is = sized_last bytes sum n used (chunk_size (take (n - 2) bytes)) found refl is

-- ---- bodies

-- bytes that were read as a body, after n bytes of data
pub record IsSpelledFrom (bytes body : List ℕ) (used sum : ℕ) : Type 0 where
  pub chunks : List DataChunk
  pub last : ChunkLine
  pub trailers : List ℕ
  pub rest : List ℕ
  pub all : AllByRecursion IsDataChunk chunks
  pub short : IsShortLine last
  pub none : line_size last ≡ 0
  pub through : length_through empty_line (line_end ++ trailers) ≡ Some (length (line_end ++ trailers))
  pub is : bytes ≡ print_from chunks last trailers ++ rest
  pub body_is : body ≡ data_in chunks
  pub used_is : used ≡ length (print_from chunks last trailers)
  pub fits : sum + length (data_in chunks) ≤ longest_body

used_behind : (done body others : List ℕ) (taken used n : ℕ) → with_chunk done taken (whole others n) ≡ whole body used → used ≡ taken + n
used_behind done body others taken used n is = cc

more_spelled : (bytes body others : List ℕ) (used n sum place size : ℕ) → IsChunkOf bytes sum place size → IsSpelledFrom (drop (place + size + 2) bytes) others n (sum + size) →
    body ≡ take size (drop place bytes) ++ others → used ≡ place + size + 2 + n → IsSpelledFrom bytes body used sum
more_spelled bytes body others used n sum place size one later body_is used_is =
    let inner = print_from later.chunks later.last later.trailers in
    let again : print_chunk one.found ++ inner ≡ print_from (one.found ∷ later.chunks) later.last later.trailers =
    sym (append_assoc (print_chunk one.found) (flat_map print_chunk later.chunks) (print_chunk_line later.last ++ later.trailers)) in
    record {
      chunks = one.found ∷ later.chunks;
      last = later.last;
      trailers = later.trailers;
      rest = later.rest;
      all = (one.chunk, later.all);
      short = later.short;
      none = later.none;
      through = later.through;
      is = one.is ∙ ap (λ (xs : List ℕ). print_chunk one.found ++ xs) later.is ∙ sym (append_assoc (print_chunk one.found) inner later.rest)
          ∙ ap (λ (xs : List ℕ). xs ++ later.rest) again;
      body_is = body_is ∙ ap (λ (xs : List ℕ). xs ++ others) one.data_is ∙ ap (λ (xs : List ℕ). one.found.bytes ++ xs) later.body_is;
      used_is = used_is ∙ omega (arith, one.long, later.used_is, length-append (print_chunk one.found) inner) ∙ ap length again;
      fits = omega (arith, later.fits, one.size_is, length-append one.found.bytes (data_in later.chunks));
    }

spelled : (fuel sum : ℕ) (bytes body : List ℕ) (used : ℕ) (c : Chunk) → chunk_at longest_body sum bytes ≡ c → length bytes ≤ fuel → sum ≤ longest_body →
    chunks longest_body 0 sum bytes ≡ whole body used → IsSpelledFrom bytes body used sum
spelled fuel sum bytes body used chunk.Cut at few fits is = let same = sym (chunks_cut longest_body sum bytes at) ∙ is in absurd cc
spelled fuel sum bytes body used (chunk.Wrong status) at few fits is = let same = sym (chunks_wrong longest_body sum bytes status at) ∙ is in absurd cc
spelled fuel sum bytes body used (chunk.Last k) at few fits is =
    let same : whole [] k ≡ whole body used = sym (chunks_last longest_body sum bytes k at) ∙ is in
    let none : body ≡ [] = cc in
    let count : used ≡ k = cc in
    let last = lined_last bytes sum k (length_through line_end (take 64 bytes)) refl at in
    record {
      chunks = [];
      last = last.line;
      trailers = last.trailers;
      rest = last.rest;
      all = tt;
      short = last.short;
      none = last.none;
      through = last.through;
      is = last.is;
      body_is = none;
      used_is = count ∙ last.used_is;
      fits = omega (arith, fits);
    }
spelled zero sum bytes body used (chunk.More place size) at few fits is =
    let one = lined_of bytes sum place size (length_through line_end (take 64 bytes)) refl at in
    absurd (omega (arith, ap length one.is, length-append (print_chunk one.found) (drop (place + size + 2) bytes), one.long, few))
spelled (suc fuel) sum bytes body used (chunk.More place size) at few fits is =
    let one = lined_of bytes sum place size (length_through line_end (take 64 bytes)) refl at in
    let rest = drop (place + size + 2) bytes in
    let all : with_chunk (take size (drop place bytes)) (place + size + 2) (chunks longest_body 0 (sum + size) rest) ≡ whole body used = sym (chunks_more longest_body sum bytes place size at) ∙ is in
    let behind = whole_behind (take size (drop place bytes)) (place + size + 2) (chunks longest_body 0 (sum + size) rest) body used all in
    let later = spelled fuel (sum + size) rest behind.others behind.used (chunk_at longest_body (sum + size) rest) refl
    (omega (arith, ap length one.is, length-append (print_chunk one.found) rest, one.long, few)) one.fits behind.rest_is in
    more_spelled bytes body behind.others used behind.used sum place size one later behind.body_is
    (used_behind (take size (drop place bytes)) body behind.others (place + size + 2) used behind.used
    (ap (with_chunk (take size (drop place bytes)) (place + size + 2)) (sym behind.rest_is) ∙ all))

pub each_whole_is_spelled : EachWholeIsSpelled
each_whole_is_spelled bytes body used is =
    let s = spelled (length bytes) 0 bytes body used (chunk_at longest_body 0 bytes) refl (omega arith) (omega arith) is in (
      record { chunks = s.chunks; last = s.last; trailers = s.trailers },
      s.rest,
      record { chunks = s.all; last = s.short; size = s.none; trailers = s.through; short = omega (arith, s.fits) },
      s.is,
      s.body_is,
      s.used_is,
    )
