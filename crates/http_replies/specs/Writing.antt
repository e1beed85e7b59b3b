-- The head of a reply (RFC 9112, sections 2.1, 4 and 5; RFC 9110, sections 8.3, 8.6, 8.8.3, 10.2 and 15).
use Rattle.std.specs.Prelude.{ℕ, ◌==◌, List, [], ◌∷◌, ◌++◌, codes, Bool, true, false, ◌||◌, Option, Some, None, option_map, if◌then◌else◌}
use Rattle.std.specs.Fmt.{decimal}
use Rattle.http_fields.specs.Marks.{line_end}

-- the entity tag of a version: its number in decimal, in double quotes
abbrev pub entity_tag : ℕ → List ℕ
entity_tag version = 34 ∷ (decimal version ++ 34 ∷ [])

-- a reply, apart from where it lies in memory
pub record PlainReply : Type 0 where
  pub status : ℕ
  pub content_type : Option (List ℕ)
  pub etag : Option ℕ
  pub location : Option (List ℕ)
  pub allow : Option (List ℕ)
  pub size : Option ℕ
  pub close : Bool

-- status and reason (RFC 9110, section 15; RFC 6585, section 5; RFC 4918, section 11.5)
abbrev pub phrase_of : ℕ → Option (List ℕ)
phrase_of status =
    if status == 100 then Some (codes "100 Continue")
    else if status == 200 then Some (codes "200 OK")
    else if status == 201 then Some (codes "201 Created")
    else if status == 204 then Some (codes "204 No Content")
    else if status == 304 then Some (codes "304 Not Modified")
    else if status == 400 then Some (codes "400 Bad Request")
    else if status == 403 then Some (codes "403 Forbidden")
    else if status == 404 then Some (codes "404 Not Found")
    else if status == 405 then Some (codes "405 Method Not Allowed")
    else if status == 406 then Some (codes "406 Not Acceptable")
    else if status == 412 then Some (codes "412 Precondition Failed")
    else if status == 413 then Some (codes "413 Content Too Large")
    else if status == 415 then Some (codes "415 Unsupported Media Type")
    else if status == 431 then Some (codes "431 Request Header Fields Too Large")
    else if status == 500 then Some (codes "500 Internal Server Error")
    else if status == 501 then Some (codes "501 Not Implemented")
    else if status == 503 then Some (codes "503 Service Unavailable")
    else if status == 507 then Some (codes "507 Insufficient Storage")
    else None

-- the phrase, where there is one
abbrev pub phrase_text : Option (List ℕ) → List ℕ
phrase_text None = []
phrase_text (Some text) = text

-- a header line, if there is a value
abbrev pub field_line : List ℕ → Option (List ℕ) → List ℕ
field_line name None = []
field_line name (Some value) = name ++ (value ++ line_end)

-- the length that is written: none in 100, 204 and 304, which have no body (RFC 9110, sections 8.6 and 15.4.5)
abbrev pub written_length : PlainReply → Option ℕ
written_length r = if (r.status == 100) || (r.status == 204) || (r.status == 304) then None else r.size

-- `close`, or nothing
abbrev pub closing : Bool → Option (List ℕ)
closing true = Some (codes "close")
closing false = None

-- the header lines in their order
abbrev pub field_lines : PlainReply → List ℕ
field_lines r =
    field_line (codes "Content-Type: ") r.content_type
    ++ (field_line (codes "ETag: ") (option_map entity_tag r.etag)
    ++ (field_line (codes "Location: ") r.location
    ++ (field_line (codes "Allow: ") r.allow
    ++ (field_line (codes "Content-Length: ") (option_map decimal (written_length r))
    ++ (field_line (codes "Connection: ") (closing r.close) ++ [])))))

-- the status line with this phrase
abbrev pub status_line : List ℕ → List ℕ
status_line phrase = codes "HTTP/1.1 " ++ (phrase ++ line_end)

-- a head: the status line, header lines, an empty line
abbrev pub head_text : List ℕ → List ℕ → List ℕ
head_text phrase lines = status_line phrase ++ (lines ++ line_end)

-- The head of a reply whose status has a phrase.
abbrev pub http_reply : PlainReply → List ℕ
http_reply r = head_text (phrase_text (phrase_of r.status)) (field_lines r)
