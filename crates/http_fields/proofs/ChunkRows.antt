-- Rows of chunks: one chunk after another.
use Rattle.std.proofs.Common.{◌≡◌, ℕ, zero, suc, ◌+◌, ◌-◌, ◌≤◌, List, [], ◌∷◌, ◌++◌, length, take, drop, refl, sym, ap, ◌∙◌, arith, append_assoc, length-append}
use Rattle.std.proofs.lemmas.List.{append-nil, length-take-le, length-drop, drop-drop}
use Rattle.http_fields.specs.declared.chunks.Chunk.TheVariants as chunk
use Rattle.http_fields.specs.Chunks.{BodyFront, unfinished, faulty, whole, chunk_at, with_chunk, follow, chunks}

-- the chunks from a place on are those of the bytes from there
pub chunks_from : (most : ℕ) (skip sum : ℕ) (bytes : List ℕ) → chunks most skip sum bytes ≡ chunks most 0 sum (drop skip bytes)
chunks_from most zero sum bytes = refl
chunks_from most (suc skip) sum [] = refl
chunks_from most (suc skip) sum (b ∷ bytes) = chunks_from most skip sum bytes

-- a chunk that isn't whole
pub chunks_cut : (most : ℕ) (sum : ℕ) (bytes : List ℕ) → chunk_at most sum bytes ≡ chunk.Cut → chunks most 0 sum bytes ≡ unfinished
chunks_cut most sum [] is = refl
chunks_cut most sum (b ∷ bytes) is = ap (λ c. follow c (b ∷ bytes) (λ size skip. chunks most skip (sum + size) bytes)) is

-- a chunk that is wrong
pub chunks_wrong : (most : ℕ) (sum : ℕ) (bytes : List ℕ) (status : ℕ) → chunk_at most sum bytes ≡ chunk.Wrong status → chunks most 0 sum bytes ≡ faulty status
chunks_wrong most sum [] status is = absurd cc
chunks_wrong most sum (b ∷ bytes) status is = ap (λ c. follow c (b ∷ bytes) (λ size skip. chunks most skip (sum + size) bytes)) is

-- the last chunk
pub chunks_last : (most : ℕ) (sum : ℕ) (bytes : List ℕ) (used : ℕ) → chunk_at most sum bytes ≡ chunk.Last used → chunks most 0 sum bytes ≡ whole [] used
chunks_last most sum [] used is = absurd cc
chunks_last most sum (b ∷ bytes) used is = ap (λ c. follow c (b ∷ bytes) (λ size skip. chunks most skip (sum + size) bytes)) is

-- the place after a chunk, counted from its second byte
behind : (b place size : ℕ) (bytes : List ℕ) → drop (place + size + 2) (b ∷ bytes) ≡ drop (place + size + 1) bytes
behind b place size bytes = ap (λ n. drop n (b ∷ bytes)) (one_more (place + size))
  where
    one_more : (n : ℕ) → n + 2 ≡ suc (n + 1)
    one_more n = omega arith

-- a chunk with data, and those after it
pub chunks_more : (most : ℕ) (sum : ℕ) (bytes : List ℕ) (place size : ℕ) → chunk_at most sum bytes ≡ chunk.More place size →
    chunks most 0 sum bytes
    ≡ with_chunk (take size (drop place bytes)) (place + size + 2) (chunks most 0 (sum + size) (drop (place + size + 2) bytes))
chunks_more most sum [] place size is = absurd cc
chunks_more most sum (b ∷ bytes) place size is =
    ap (λ c. follow c (b ∷ bytes) (λ n skip. chunks most skip (sum + n) bytes)) is
    ∙ ap (with_chunk (take size (drop place (b ∷ bytes))) (place + size + 2))
    (chunks_from most (place + size + 1) (sum + size) bytes ∙ ap (chunks most 0 (sum + size)) (sym (behind b place size bytes)))

-- nothing before the rest
pub with_no_chunk : (rest : BodyFront) → with_chunk [] 0 rest ≡ rest
with_no_chunk unfinished = refl
with_no_chunk (faulty status) = refl
with_no_chunk (whole body used) = ap (whole body) (zero_plus used)
  where
    zero_plus : (n : ℕ) → 0 + n ≡ n
    zero_plus n = omega arith

-- one chunk after another
pub with_two_chunks : (a b : List ℕ) (m n : ℕ) (rest : BodyFront) → with_chunk a m (with_chunk b n rest) ≡ with_chunk (a ++ b) (m + n) rest
with_two_chunks a b m n unfinished = refl
with_two_chunks a b m n (faulty status) = refl
with_two_chunks a b m n (whole body used) = cc (append_assoc a b body, sums m n used)
  where
    sums : (m n k : ℕ) → m + (n + k) ≡ m + n + k
    sums m n k = omega arith

-- the body after a chunk of a whole body is whole
pub record IsWholeBehind (done : List ℕ) (taken : ℕ) (rest : BodyFront) (body : List ℕ) : Type 0 where
  pub others : List ℕ
  pub used : ℕ
  pub rest_is : rest ≡ whole others used
  pub body_is : body ≡ done ++ others

pub whole_behind : (done : List ℕ) (taken : ℕ) (rest : BodyFront) (body : List ℕ) (used : ℕ) →
    with_chunk done taken rest ≡ whole body used → IsWholeBehind done taken rest body
whole_behind done taken unfinished body used is = absurd cc
whole_behind done taken (faulty status) body used is = absurd cc
whole_behind done taken (whole others n) body used is = record { others = others; used = n; rest_is = refl; body_is = cc }

-- The part of a body that was read so far: its chunks up to a place, with n bytes of data.
pub record IsRead (most : ℕ) (bytes : List ℕ) (done : List ℕ) (place sum : ℕ) : Type 0 where
  pub sum_is : length done ≡ sum
  pub rest_is : chunks most 0 0 bytes ≡ with_chunk done place (chunks most 0 sum (drop place bytes))

-- nothing was read
pub read_nothing : (most : ℕ) (bytes : List ℕ) → IsRead most bytes [] 0 0
read_nothing most bytes = record { sum_is = refl; rest_is = sym (with_no_chunk (chunks most 0 0 bytes)) }

-- the data of a chunk that begins at a place
abbrev pub data_at : List ℕ → ℕ → ℕ → ℕ → List ℕ
data_at bytes place after size = take size (drop after (drop place bytes))

-- it is as long as it says, where the chunk is whole
pub length-data_at : (bytes : List ℕ) (place after size : ℕ) → after + size + 2 ≤ length (drop place bytes) →
    length (data_at bytes place after size) ≡ size
length-data_at bytes place after size within =
    length-take-le size (drop after (drop place bytes)) (omega (arith, length-drop after (drop place bytes)))

-- the number of bytes from a place on
pub length-drop_from : (place : ℕ) (bytes : List ℕ) → length (drop place bytes) ≡ length bytes - place
length-drop_from place bytes = length-drop place bytes

-- one more chunk was read
pub read_more : (most : ℕ) (bytes done : List ℕ) (place sum after size : ℕ) → IsRead most bytes done place sum →
    chunk_at most sum (drop place bytes) ≡ chunk.More after size → after + size + 2 ≤ length (drop place bytes) →
    IsRead most bytes (done ++ data_at bytes place after size) (place + (after + size + 2)) (sum + size)
read_more most bytes done place sum after size read is within = record {
  sum_is = omega (arith, length-append done (data_at bytes place after size), read.sum_is, length-data_at bytes place after size within);
  rest_is =
      read.rest_is
      ∙ ap (with_chunk done place) (chunks_more most sum (drop place bytes) after size is)
      ∙ with_two_chunks done (data_at bytes place after size) place (after + size + 2) _
      ∙ ap (λ xs. with_chunk (done ++ data_at bytes place after size) (place + (after + size + 2)) (chunks most 0 (sum + size) xs))
      (drop-drop (after + size + 2) place bytes);
}

-- the last chunk was read
pub read_last : (most : ℕ) (bytes done : List ℕ) (place sum used : ℕ) → IsRead most bytes done place sum →
    chunk_at most sum (drop place bytes) ≡ chunk.Last used → chunks most 0 0 bytes ≡ whole done (place + used)
read_last most bytes done place sum used read is =
    read.rest_is ∙ ap (with_chunk done place) (chunks_last most sum (drop place bytes) used is)
    ∙ ap (λ xs. whole xs (place + used)) (append-nil done)

-- a chunk was read that isn't whole
pub read_cut : (most : ℕ) (bytes done : List ℕ) (place sum : ℕ) → IsRead most bytes done place sum →
    chunk_at most sum (drop place bytes) ≡ chunk.Cut → chunks most 0 0 bytes ≡ unfinished
read_cut most bytes done place sum read is = read.rest_is ∙ ap (with_chunk done place) (chunks_cut most sum (drop place bytes) is)

-- a chunk was read that is wrong
pub read_wrong : (most : ℕ) (bytes done : List ℕ) (place sum status : ℕ) → IsRead most bytes done place sum →
    chunk_at most sum (drop place bytes) ≡ chunk.Wrong status → chunks most 0 0 bytes ≡ faulty status
read_wrong most bytes done place sum status read is =
    read.rest_is ∙ ap (with_chunk done place) (chunks_wrong most sum (drop place bytes) status is)
