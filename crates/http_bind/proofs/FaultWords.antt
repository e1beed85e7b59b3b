-- Each fault at the front of a stream has a status with a word.
use Rattle.std.proofs.Common.{◌≡◌, ℕ, zero, suc, ◌+◌, ◌-◌, Bool, true, false, List, [], ◌∷◌, length, take, drop, refl, sym, ap, subst, ◌∙◌, cond}
use Rattle.std.specs.Prelude.{Option, Some, None, Result, Ok, Err, not, nat_le, nat_lt, nat_eq, IsSome, codes}
use Rattle.std.specs.List.{starts_with}
use Rattle.std.specs.Str.{str_eq_ignore_ascii_case}
use Rattle.std.specs.Str.Parse.{digits_value}
use Rattle.http_fields.specs.declared.framing.Framing.{Framing}
use Rattle.http_fields.specs.declared.framing.Framing.TheVariants as framing
use Rattle.http_fields.specs.declared.chunks.Chunk.{Chunk}
use Rattle.http_fields.specs.declared.chunks.Chunk.TheVariants as chunk
use Rattle.httparse.specs.Grammar.{RequestHead}
use Rattle.http_wire.specs.Heads.{skipped, is_newer, lines_of}
use Rattle.http_fields.specs.Marks.{empty_line, line_end, length_through}
use Rattle.http_fields.specs.Fields.{Standing, absent, once, often, Said, said_by}
use Rattle.http_wire.specs.Judging.{FramedHead, with_framing, IsJudged, too_many_lines, bare_line_end, no_head, one_head, expects, longest_body, has_right_counts, fields_judged}
use Rattle.http_fields.specs.Framings.{is_length, framing_by}
use Rattle.http_fields.specs.Chunks.{BodyFront, unfinished, faulty, whole, chunks, chunk_at, lined_chunk, sized_chunk, chunk_size, trailers_to, follow, with_chunk}
use Rattle.http_wire.specs.Stream.{Front, short, fault, IsFront, IsFrontAfter, no_end, one_end, with_body, with_head, longest_head, longest_coded, body_front, within_longest}
use Rattle.http_bind.specs.Replying.{fault_word}

-- the status has a word
IsSaid : ℕ → Type 0
IsSaid status = IsSome (fault_word status)

said_400 : IsSaid 400
unfolding IsSaid
said_400 = refl

said_413 : IsSaid 413
unfolding IsSaid
said_413 = refl

said_431 : IsSaid 431
unfolding IsSaid
said_431 = refl

said_501 : IsSaid 501
unfolding IsSaid
said_501 = refl

-- ---- heads

stated_said : (t u : Bool) (a b n status : ℕ) (r : Result Framing ℕ) → IsSaid a → IsSaid b → r ≡ cond t (Err a) (cond u (Err b) (Ok (framing.Stated n))) → r ≡ Err status → IsSaid status
stated_said true u a b n status r sa sb is err = let same : a ≡ status = cc in subst IsSaid same sa
stated_said false true a b n status r sa sb is err = let same : b ≡ status = cc in subst IsSaid same sb
stated_said false false a b n status r sa sb is err = absurd cc

coded_said : (t u : Bool) (a b status : ℕ) (r : Result Framing ℕ) → IsSaid a → IsSaid b → r ≡ cond t (Err a) (cond u (Ok framing.Chunked) (Err b)) → r ≡ Err status → IsSaid status
coded_said true u a b status r sa sb is err = let same : a ≡ status = cc in subst IsSaid same sa
coded_said false true a b status r sa sb is err = absurd cc
coded_said false false a b status r sa sb is err = let same : b ≡ status = cc in subst IsSaid same sb

err_said : (a status : ℕ) (r : Result Framing ℕ) → IsSaid a → r ≡ Err a → r ≡ Err status → IsSaid status
err_said a status r sa is err = let same : a ≡ status = cc in subst IsSaid same sa

framing_said : (newer : Bool) (ls cs : Standing) (status : ℕ) (r : Result Framing ℕ) → r ≡ framing_by longest_body newer ls cs → r ≡ Err status → IsSaid status
framing_said newer absent absent status r is err = absurd cc
framing_said newer absent (once v) status r is err =
    coded_said (not newer) (str_eq_ignore_ascii_case v (codes "chunked")) 400 501 status r said_400 said_501 is err
framing_said newer absent often status r is err = err_said 400 status r said_400 is err
framing_said newer (once v) absent status r is err =
    stated_said (not (is_length v)) (nat_lt longest_body (digits_value 10 v)) 400 413 (digits_value 10 v) status r said_400 said_413 is err
framing_said newer (once v) (once w) status r is err = err_said 400 status r said_400 is err
framing_said newer (once v) often status r is err = err_said 400 status r said_400 is err
framing_said newer often absent status r is err = err_said 400 status r said_400 is err
framing_said newer often (once w) status r is err = err_said 400 status r said_400 is err
framing_said newer often often status r is err = err_said 400 status r said_400 is err

fields_said : (t : Bool) (status : ℕ) (r s : Result Framing ℕ) → (r ≡ s → IsSaid status) → r ≡ cond t s (Err 400) → r ≡ Err status → IsSaid status
fields_said true status r s by is err = by is
fields_said false status r s by is err = err_said 400 status r said_400 is err

-- the fields of a head
judged_fields_said : (newer : Bool) (said : Said) (status : ℕ) → fields_judged newer said ≡ Err status → IsSaid status
judged_fields_said newer said status err =
    fields_said (has_right_counts newer said) status (fields_judged newer said) _
    (λ fields. framing_said newer said.content_length said.transfer_encoding status (fields_judged newer said) fields err) refl err

framed_said : (h : RequestHead) (status : ℕ) (r : Result Framing ℕ) → (r ≡ Err status → IsSaid status) → with_framing h r ≡ Err status → IsSaid status
framed_said h status (Err s) by err = let same : s ≡ status = cc in by (ap Err same)
framed_said h status (Ok f) by err = absurd cc

head_said : (a status : ℕ) (r : Result FramedHead ℕ) → IsSaid a → r ≡ Err a → r ≡ Err status → IsSaid status
head_said a status r sa is err = let same : a ≡ status = cc in subst IsSaid same sa

judged_said : (head : List ℕ) (status : ℕ) (r : Result FramedHead ℕ) → IsJudged head r → r ≡ Err status → IsSaid status
judged_said head status r (too_many_lines many is) err = head_said 431 status r said_431 is err
judged_said head status r (bare_line_end few bare is) err = head_said 400 status r said_400 is err
judged_said head status r (no_head few paired none is) err = head_said 400 status r said_400 is err
judged_said head status r (one_head h few paired one is) err =
    framed_said h status (fields_judged (is_newer h) (said_by (lines_of h))) (judged_fields_said (is_newer h) (said_by (lines_of h)) status) (sym is ∙ err)

-- ---- chunks

wrong_said : (a status : ℕ) (r : Chunk) → IsSaid a → r ≡ chunk.Wrong a → r ≡ chunk.Wrong status → IsSaid status
wrong_said a status r sa is err = let same : a ≡ status = cc in subst IsSaid same sa

data_said : (t u : Bool) (place size a status : ℕ) (r : Chunk) → IsSaid a → r ≡ cond t chunk.Cut (cond u (chunk.More place size) (chunk.Wrong a)) → r ≡ chunk.Wrong status → IsSaid status
data_said true u place size a status r sa is err = absurd cc
data_said false true place size a status r sa is err = absurd cc
data_said false false place size a status r sa is err = wrong_said a status r sa is err

large_said : (t : Bool) (a status : ℕ) (r s : Chunk) → IsSaid a → (r ≡ s → IsSaid status) → r ≡ cond t (chunk.Wrong a) s → r ≡ chunk.Wrong status → IsSaid status
large_said true a status r s sa by is err = wrong_said a status r sa is err
large_said false a status r s sa by is err = by is

trailers_said : (place status : ℕ) (o : Option ℕ) (r : Chunk) → r ≡ trailers_to place o → r ≡ chunk.Wrong status → IsSaid status
trailers_said place status None r is err = absurd cc
trailers_said place status (Some n) r is err = absurd cc

sized_said : (sum : ℕ) (bytes : List ℕ) (n status : ℕ) (o : Option ℕ) (r : Chunk) → r ≡ sized_chunk longest_body sum bytes n o → r ≡ chunk.Wrong status → IsSaid status
sized_said sum bytes n status None r is err = wrong_said 400 status r said_400 is err
sized_said sum bytes n status (Some zero) r is err = trailers_said (n - 2) status (length_through empty_line (drop (n - 2) bytes)) r is err
sized_said sum bytes n status (Some (suc m)) r is err =
    large_said (nat_lt longest_body (sum + suc m)) 413 status r _ said_413
    (λ small. data_said (nat_lt (length (drop (n + suc m) bytes)) 2) (starts_with nat_eq (drop (n + suc m) bytes) line_end) n (suc m) 400 status r said_400 small err) is err

unlined_said : (t : Bool) (a status : ℕ) (r : Chunk) → IsSaid a → r ≡ cond t (chunk.Wrong a) chunk.Cut → r ≡ chunk.Wrong status → IsSaid status
unlined_said true a status r sa is err = wrong_said a status r sa is err
unlined_said false a status r sa is err = absurd cc

lined_said : (sum : ℕ) (bytes : List ℕ) (status : ℕ) (o : Option ℕ) (r : Chunk) → r ≡ lined_chunk longest_body sum bytes o → r ≡ chunk.Wrong status → IsSaid status
lined_said sum bytes status None r is err = unlined_said (nat_le 64 (length bytes)) 400 status r said_400 is err
lined_said sum bytes status (Some n) r is err = sized_said sum bytes n status (chunk_size (take (n - 2) bytes)) r is err

-- a fault after a chunk is a fault of the whole
behind_said : (piece : List ℕ) (n status : ℕ) (rest : BodyFront) → (rest ≡ faulty status → IsSaid status) → with_chunk piece n rest ≡ faulty status → IsSaid status
behind_said piece n status unfinished by is = absurd cc
behind_said piece n status (faulty s) by is = by is
behind_said piece n status (whole body used) by is = absurd cc

followed_said : (sum : ℕ) (bytes : List ℕ) (c : Chunk) (status : ℕ) (rest : ℕ → ℕ → BodyFront) → chunk_at longest_body sum bytes ≡ c →
    ((size skip : ℕ) → rest size skip ≡ faulty status → IsSaid status) → follow c bytes rest ≡ faulty status → IsSaid status
followed_said sum bytes chunk.Cut status rest at by is = absurd cc
followed_said sum bytes (chunk.Wrong s) status rest at by is =
    let same : s ≡ status = cc in
    subst IsSaid same (lined_said sum bytes s (length_through line_end (take 64 bytes)) (chunk_at longest_body sum bytes) refl at)
followed_said sum bytes (chunk.Last used) status rest at by is = absurd cc
followed_said sum bytes (chunk.More place size) status rest at by is =
    behind_said (take size (drop place bytes)) (place + size + 2) status (rest size (place + size + 1)) (by size (place + size + 1)) is

chunks_said : (skip sum : ℕ) (bytes : List ℕ) (status : ℕ) → chunks longest_body skip sum bytes ≡ faulty status → IsSaid status
chunks_said skip sum [] status is = absurd cc
chunks_said (suc skip) sum (b ∷ bytes) status is = chunks_said skip sum bytes status is
chunks_said zero sum (b ∷ bytes) status is =
    followed_said sum (b ∷ bytes) (chunk_at longest_body sum (b ∷ bytes)) status (λ size skip. chunks longest_body skip (sum + size) bytes) refl
    (λ size skip later. chunks_said skip (sum + size) bytes status later) is

-- ---- bodies and fronts

long_said : (t : Bool) (a status : ℕ) (r : BodyFront) → IsSaid a → r ≡ cond t (faulty a) unfinished → r ≡ faulty status → IsSaid status
long_said true a status r sa is err = let same : a ≡ status = cc in subst IsSaid same sa
long_said false a status r sa is err = absurd cc

coded_body_said : (bytes : List ℕ) (status : ℕ) (r : BodyFront) → (r ≡ faulty status → IsSaid status) → within_longest bytes r ≡ faulty status → IsSaid status
coded_body_said bytes status unfinished by is =
    long_said (nat_le longest_coded (length bytes)) 413 status (within_longest bytes unfinished) said_413 refl is
coded_body_said bytes status (faulty s) by is = by is
coded_body_said bytes status (whole body used) by is = absurd cc

stated_body_said : (t : Bool) (bytes : List ℕ) (n status : ℕ) → cond t (whole bytes n) unfinished ≡ faulty status → IsSaid status
stated_body_said true bytes n status is = absurd cc
stated_body_said false bytes n status is = absurd cc

body_said : (f : Framing) (bytes : List ℕ) (status : ℕ) → body_front f bytes ≡ faulty status → IsSaid status
body_said (framing.Stated n) bytes status is = stated_body_said (nat_le n (length bytes)) (take n bytes) n status is
body_said framing.Chunked bytes status is =
    coded_body_said bytes status (chunks longest_body 0 0 (take longest_coded bytes)) (chunks_said 0 0 (take longest_coded bytes) status) is

with_body_said : (h : RequestHead) (taken : ℕ) (e : Bool) (b : BodyFront) (status : ℕ) (expect : Bool) → ((s : ℕ) → b ≡ faulty s → IsSaid s) →
    fault status expect ≡ with_body h taken e b → IsSaid status
with_body_said h taken e unfinished status expect by is = absurd cc
with_body_said h taken e (faulty s) status expect by is = let same : s ≡ status = cc in subst IsSaid same (by s refl)
with_body_said h taken e (whole body used) status expect by is = absurd cc

with_head_said : (head : List ℕ) (taken : ℕ) (r : Result FramedHead ℕ) (bytes : List ℕ) (status : ℕ) (expect : Bool) → IsJudged head r →
    fault status expect ≡ with_head taken r bytes → IsSaid status
with_head_said head taken (Err s) bytes status expect judged is = let same : s ≡ status = cc in subst IsSaid same (judged_said head s (Err s) judged refl)
with_head_said head taken (Ok h) bytes status expect judged is =
    with_body_said h.head taken (expects h.head h.framing) (body_front h.framing bytes) status expect (λ s. body_said h.framing bytes s) is

none_said : (t : Bool) (status : ℕ) (expect : Bool) (f : Front) → f ≡ cond t (fault 431 false) (short false) → f ≡ fault status expect → IsSaid status
none_said true status expect f is err = let same : 431 ≡ status = cc in subst IsSaid same said_431
none_said false status expect f is err = absurd cc

said_after : (before : ℕ) (bytes : List ℕ) (status : ℕ) (expect : Bool) → IsFrontAfter before bytes (fault status expect) → IsSaid status
said_after before bytes status expect (no_end none is) = none_said (nat_le longest_head (length bytes)) status expect (fault status expect) is refl
said_after before bytes status expect (one_end n r found judged is) = with_head_said (take n bytes) (before + n) r (drop n bytes) status expect judged is

pub fault_said : (bytes : List ℕ) (status : ℕ) (expect : Bool) → IsFront bytes (fault status expect) → IsSome (fault_word status)
unfolding IsSaid
fault_said bytes status expect front = said_after (length bytes - length (skipped bytes)) (skipped bytes) status expect front
