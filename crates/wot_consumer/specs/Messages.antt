-- The HTTP request that asks for what was chosen (RFC 9112, section 3; RFC 9110, sections 7.2, 8.3, 8.6 and 12.5.1).
use Rattle.std.specs.Prelude.{ℕ, List, [], ◌∷◌, ◌++◌, length, Option, Some, None, codes, decimal, unwrap_or}
use Rattle.std.specs.List.{flat_map}
use Rattle.servient_base.specs.Encoding.{encoded}
use Rattle.thing_ops.specs.Verbs.{verb_name}
use Rattle.http_fields.specs.Marks.{line_end}
use Rattle.wot_consumer.specs.declared.chosen.Chosen.{Chosen}

-- a header line
abbrev pub field : List ℕ → List ℕ → List ℕ
field name value = name ++ codes ": " ++ value ++ line_end

-- segments of a path, each percent-encoded after a `/` (RFC 3986, section 3.3)
abbrev pub segment_text : List ℕ → List ℕ
segment_text segment = codes "/" ++ encoded segment

abbrev pub segments_text : List (List ℕ) → List ℕ
segments_text segments = flat_map segment_text segments

-- a path as a request target has it
abbrev pub path_text : List (List ℕ) → List ℕ
path_text [] = codes "/"
path_text (segment ∷ segments) = segments_text (segment ∷ segments)

abbrev pub request_line : Chosen → List ℕ
request_line c = verb_name c.verb ++ codes " " ++ path_text c.path ++ codes " HTTP/1.1" ++ line_end

-- the host with its port, also where that is the default one
abbrev pub host_and_port : Chosen → List ℕ
host_and_port c = c.host ++ codes ":" ++ decimal c.port

-- the fields by which a request with a body describes it
abbrev pub body_fields : Option (List ℕ) → List ℕ
body_fields None = []
body_fields (Some body) = field (codes "Content-Type") (codes "application/json") ++ field (codes "Content-Length") (decimal (length body))

-- the bytes of the request
abbrev pub request_bytes : Chosen → Option (List ℕ) → List ℕ
request_bytes c body =
    request_line c ++
    field (codes "Host") (host_and_port c) ++
    field (codes "Accept") (codes "application/json") ++
    body_fields body ++
    field (codes "Connection") (codes "close") ++
    line_end ++
    unwrap_or body []
