-- A body in chunks as it is spelled (RFC 9112, section 7.1): chunks, a last one, trailers. A chunk line and its print
-- are those of the grammar of `httparse`.
use Rattle.std.specs.Prelude.{◌≡◌, ◌≤◌, ◌<◌, ℕ, List, [], ◌++◌, length, Some}
use Rattle.std.specs.List.{flat_map, AllByRecursion}
use Rattle.httparse.specs.Grammar.{ChunkLine, print_chunk_line, IsChunkLine, chunk_size}
use Rattle.http_fields.specs.Marks.{line_end, empty_line, length_through}
use Rattle.http_wire.specs.Judging.{longest_body}
use Rattle.http_fields.specs.Chunks.{whole, chunks}

-- A chunk line as it is taken: 1 to 8 digits, no white space after them, at most 64 bytes with its CR LF.
pub record IsShortLine (l : ChunkLine) : Type 0 where
  pub line : IsChunkLine l
  pub digits : length l.digits ≤ 8
  pub pad : l.pad ≡ []
  pub short : length (print_chunk_line l) ≤ 64

-- chunk = chunk-size [ chunk-ext ] CRLF chunk-data CRLF
pub record DataChunk : Type 0 where
  pub line : ChunkLine
  pub bytes : List ℕ

abbrev pub print_chunk : DataChunk → List ℕ
print_chunk c = print_chunk_line c.line ++ (c.bytes ++ line_end)

-- the line says how long the data is, and there is some
pub record IsDataChunk (c : DataChunk) : Type 0 where
  pub line : IsShortLine c.line
  pub size : chunk_size c.line ≡ length c.bytes
  pub some : 0 < length c.bytes

-- chunked-body = *chunk last-chunk trailer-section CRLF: the chunks, the line of the last one, and what follows up to
-- the first empty line and with it
pub record ChunkedBody : Type 0 where
  pub chunks : List DataChunk
  pub last : ChunkLine
  pub trailers : List ℕ

abbrev pub print_body : ChunkedBody → List ℕ
print_body b = flat_map print_chunk b.chunks ++ (print_chunk_line b.last ++ b.trailers)

-- its decoded bytes
abbrev pub data_of : ChunkedBody → List ℕ
data_of b = flat_map (λ c. c.bytes) b.chunks

pub record IsChunkedBody (b : ChunkedBody) : Type 0 where
  pub chunks : AllByRecursion IsDataChunk b.chunks
  pub last : IsShortLine b.last
  pub size : chunk_size b.last ≡ 0
  pub trailers : length_through empty_line (line_end ++ b.trailers) ≡ Some (length (line_end ++ b.trailers))
  pub short : length (data_of b) ≤ longest_body

-- Each whole body that is read is spelled by some body at the front of the bytes.
abbrev pub EachWholeIsSpelled : Type 0
EachWholeIsSpelled = (bytes body : List ℕ) (used : ℕ) → chunks longest_body 0 0 bytes ≡ whole body used →
    (b : ChunkedBody) × (rest : List ℕ) × IsChunkedBody b × (bytes ≡ print_body b ++ rest) × (body ≡ data_of b) × (used ≡ length (print_body b))

-- And each body that is spelled there is read.
abbrev pub EachSpelledIsRead : Type 0
EachSpelledIsRead = (b : ChunkedBody) (rest : List ℕ) → IsChunkedBody b → chunks longest_body 0 0 (print_body b ++ rest) ≡ whole (data_of b) (length (print_body b))
