-- A whole body in chunks is whole where a body may have more data, too.
use Rattle.std.proofs.Common.{◌≡◌, ℕ, zero, suc, ◌+◌, ◌≤◌, ◌-◌, Bool, true, false, List, [], ◌∷◌, take, drop, Option, Some, None, refl, sym, ap, ◌∙◌, arith, nat_lt, if◌then◌else◌}
use Rattle.std.proofs.lemmas.Bool.Decides.{nat_tests}
use Rattle.http_fields.specs.declared.chunks.Chunk.{Chunk}
use Rattle.http_fields.specs.declared.chunks.Chunk.TheVariants as chunk
use Rattle.http_fields.specs.Marks.{line_end, length_through}
use Rattle.http_fields.specs.Chunks.{BodyFront, whole, chunk_size, data_before, sized_chunk, lined_chunk, chunk_at, with_chunk, follow, chunks}
use Rattle.http_fields.proofs.ChunkRows.{whole_behind}

-- the chunk isn't wrong where there may be more data
abbrev IsRight : Chunk → Type 0
IsRight chunk.Cut = Unit {0}
IsRight (chunk.Wrong status) = ⊥
IsRight (chunk.Last used) = Unit {0}
IsRight (chunk.More place size) = Unit {0}

not_over : (most more n : ℕ) → most ≤ more → nat_lt most n ≡ false → nat_lt more n ≡ false
not_over most more n fits is = grind (arith, nat_tests, fits, is)

large_raised : (most more n : ℕ) (d : Chunk) (t : Bool) → most ≤ more → nat_lt most n ≡ t → IsRight (if t then chunk.Wrong 413 else d) →
    (if nat_lt more n then chunk.Wrong 413 else d) ≡ (if t then chunk.Wrong 413 else d)
large_raised most more n d true fits is right = absurd right
large_raised most more n d false fits is right = rw (not_over most more n fits is) refl

sized_raised : (most more sum : ℕ) (bytes : List ℕ) (n : ℕ) (s : Option ℕ) → most ≤ more → IsRight (sized_chunk most sum bytes n s) →
    sized_chunk more sum bytes n s ≡ sized_chunk most sum bytes n s
sized_raised most more sum bytes n None fits right = refl
sized_raised most more sum bytes n (Some zero) fits right = refl
sized_raised most more sum bytes n (Some (suc m)) fits right =
    large_raised most more (sum + suc m) (data_before n (suc m) (drop (n + suc m) bytes)) (nat_lt most (sum + suc m)) fits refl right

lined_raised : (most more sum : ℕ) (bytes : List ℕ) (r : Option ℕ) → most ≤ more → IsRight (lined_chunk most sum bytes r) →
    lined_chunk more sum bytes r ≡ lined_chunk most sum bytes r
lined_raised most more sum bytes None fits right = refl
lined_raised most more sum bytes (Some n) fits right = sized_raised most more sum bytes n (chunk_size (take (n - 2) bytes)) fits right

chunk_raised : (most more sum : ℕ) (bytes : List ℕ) → most ≤ more → IsRight (chunk_at most sum bytes) → chunk_at more sum bytes ≡ chunk_at most sum bytes
chunk_raised most more sum bytes fits right = lined_raised most more sum bytes (length_through line_end (take 64 bytes)) fits right

-- the first chunk of a whole body isn't wrong
right_first : (c : Chunk) (bytes : List ℕ) (rest : ℕ → ℕ → BodyFront) (body : List ℕ) (used : ℕ) → follow c bytes rest ≡ whole body used → IsRight c
right_first chunk.Cut bytes rest body used is = tt
right_first (chunk.Wrong status) bytes rest body used is = absurd cc
right_first (chunk.Last n) bytes rest body used is = tt
right_first (chunk.More place size) bytes rest body used is = tt

-- and what comes after it is whole
followed_raised : (c : Chunk) (bytes : List ℕ) (rest later : ℕ → ℕ → BodyFront) (body : List ℕ) (used : ℕ) →
    ((size skip : ℕ) (b : List ℕ) (u : ℕ) → rest size skip ≡ whole b u → later size skip ≡ whole b u) →
    follow c bytes rest ≡ whole body used → follow c bytes later ≡ whole body used
followed_raised chunk.Cut bytes rest later body used kept is = is
followed_raised (chunk.Wrong status) bytes rest later body used kept is = is
followed_raised (chunk.Last n) bytes rest later body used kept is = is
followed_raised (chunk.More place size) bytes rest later body used kept is =
    let behind = whole_behind (take size (drop place bytes)) (place + size + 2) (rest size (place + size + 1)) body used is in
    ap (with_chunk (take size (drop place bytes)) (place + size + 2)) (kept size (place + size + 1) behind.others behind.used behind.rest_is ∙ sym behind.rest_is) ∙ is

pub raised : (most more : ℕ) → most ≤ more → (skip sum : ℕ) (bytes body : List ℕ) (used : ℕ) →
    chunks most skip sum bytes ≡ whole body used → chunks more skip sum bytes ≡ whole body used
raised most more fits skip sum [] body used is = is
raised most more fits (suc skip) sum (b ∷ bytes) body used is = raised most more fits skip sum bytes body used is
raised most more fits zero sum (b ∷ bytes) body used is =
    let rest = λ (size skip : ℕ). chunks most skip (sum + size) bytes in
    let right = right_first (chunk_at most sum (b ∷ bytes)) (b ∷ bytes) rest body used is in
    ap (λ c. follow c (b ∷ bytes) (λ size skip. chunks more skip (sum + size) bytes)) (chunk_raised most more sum (b ∷ bytes) fits right)
    ∙ followed_raised (chunk_at most sum (b ∷ bytes)) (b ∷ bytes) rest (λ size skip. chunks more skip (sum + size) bytes) body used
    (λ size skip c u is. raised most more fits skip (sum + size) bytes c u is) is
