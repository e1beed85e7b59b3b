-- Bodies at the front of bytes, and how those in chunks are read from their front, with the places at which their
-- faults are seen (RFC 9112, section 7.1). Chunked.antt defines such a body as a grammar. The law
-- `chunked_bodies_are_spelled` says that the code reads the bodies that are spelled there.
use Rattle.std.specs.Prelude.{ℕ, zero, suc, ◌+◌, ◌-◌, ◌==◌, List, [], ◌∷◌, ◌++◌, length, take, drop, ◌&&◌, nat_lt, nat_le, nat_eq, Option, Some, None, if◌then◌else◌}
use Rattle.std.specs.List.{list_all, starts_with, before_first, after_first}
use Rattle.std.specs.Char.{is_ascii_hexdigit}
use Rattle.std.specs.Str.Parse.{digits_value}
use Rattle.httparse.specs.Grammar.{is_extension_byte}
use Rattle.http_fields.specs.declared.chunks.Chunk.{Chunk}
use Rattle.http_fields.specs.declared.chunks.Chunk.TheVariants as chunk
use Rattle.http_fields.specs.Marks.{line_end, empty_line, length_through}

-- The front of the bytes after a head: the body isn't whole yet, or has a fault with its status, or is whole, with its
-- decoded bytes and the number of its coded ones.
pub data BodyFront : Type 0 where
  unfinished : BodyFront
  faulty : (status : ℕ) → BodyFront
  whole : (body : List ℕ) (used : ℕ) → BodyFront

-- The size that a chunk line says: 1 to 8 hexadecimal digits, and perhaps an extension after `;`, which isn't read. It
-- has no CR and no LF: where one is in it, another reader may see the line end there (section 2.2).
abbrev pub size_of_digits : List ℕ → Option ℕ
size_of_digits digits =
    if nat_lt 0 (length digits) && nat_le (length digits) 8 && list_all is_ascii_hexdigit digits
    then Some (digits_value 16 digits) else None

abbrev pub chunk_size : List ℕ → Option ℕ
chunk_size line =
    if list_all is_extension_byte (after_first (λ b. b == 59) line) then size_of_digits (before_first (λ b. b == 59) line) else None

-- after the line of the last chunk come trailer lines, which aren't read, and an empty line
abbrev pub trailers_to : ℕ → Option ℕ → Chunk
trailers_to place None = chunk.Cut
trailers_to place (Some n) = chunk.Last (place + n)

-- the data of a chunk is followed by CR LF, which is judged when both bytes are there
abbrev pub data_before : ℕ → ℕ → List ℕ → Chunk
data_before place size after =
    if nat_lt (length after) 2 then chunk.Cut
    else if starts_with nat_eq after line_end then chunk.More place size
    else chunk.Wrong 400

-- A chunk whose line, of n bytes with its CR LF, says this size, after a sum of data. Of all data there are at most so
-- many bytes as the first number says.
abbrev pub sized_chunk : ℕ → ℕ → List ℕ → ℕ → Option ℕ → Chunk
sized_chunk most sum bytes n None = chunk.Wrong 400
sized_chunk most sum bytes n (Some zero) = trailers_to (n - 2) (length_through empty_line (drop (n - 2) bytes))
sized_chunk most sum bytes n (Some (suc m)) =
    if nat_lt most (sum + suc m) then chunk.Wrong 413
    else data_before n (suc m) (drop (n + suc m) bytes)

-- a chunk whose line ends there; it ends within 64 bytes
abbrev pub lined_chunk : ℕ → ℕ → List ℕ → Option ℕ → Chunk
lined_chunk most sum bytes None = if nat_le 64 (length bytes) then chunk.Wrong 400 else chunk.Cut
lined_chunk most sum bytes (Some n) = sized_chunk most sum bytes n (chunk_size (take (n - 2) bytes))

-- the chunk at the front of bytes, after a sum of data
abbrev pub chunk_at : ℕ → ℕ → List ℕ → Chunk
chunk_at most sum bytes = lined_chunk most sum bytes (length_through line_end (take 64 bytes))

-- a chunk's data, and then the rest of the body
abbrev pub with_chunk : List ℕ → ℕ → BodyFront → BodyFront
with_chunk piece used unfinished = unfinished
with_chunk piece used (faulty status) = faulty status
with_chunk piece used (whole body others) = whole (piece ++ body) (used + others)

-- the outcome of a chunk at the front of bytes, where `rest size skip` is the outcome of those after it
abbrev pub follow : Chunk → List ℕ → (ℕ → ℕ → BodyFront) → BodyFront
follow chunk.Cut bytes rest = unfinished
follow (chunk.Wrong status) bytes rest = faulty status
follow (chunk.Last used) bytes rest = whole [] used
follow (chunk.More place size) bytes rest = with_chunk (take size (drop place bytes)) (place + size + 2) (rest size (place + size + 1))

-- The chunks of the bytes from the place `skip` on, after a sum of data, with at most so many bytes of data in all. Each
-- of them has a byte or more, so that the next begins after the first byte of this one.
abbrev pub chunks : ℕ → ℕ → ℕ → List ℕ → BodyFront
chunks most skip sum [] = unfinished
chunks most (suc skip) sum (b ∷ bytes) = chunks most skip sum bytes
chunks most zero sum (b ∷ bytes) = follow (chunk_at most sum (b ∷ bytes)) (b ∷ bytes) (λ size skip. chunks most skip (sum + size) bytes)
