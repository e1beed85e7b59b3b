-- The parts of a URL that say where it leads: the scheme, the host, the port, the path (RFC 3986, section 3; RFC 9110,
-- section 4.2.1; RFC 7252, sections 6.1 and 6.4).
use Rattle.std.specs.Prelude.{◌≤◌, ℕ, List, [], ◌∷◌, length, All, Option, Some, None, codes, ⊤, ◌==◌, if◌then◌else◌}
use Rattle.std.specs.Str.{bytes_eq}
use Rattle.http_wire.specs.Targets.{segments_behind}
use Rattle.coap_msg.specs.declared.constants.TheConstants.{LONGEST_SEGMENT}
use Rattle.wot_forms.specs.declared.scheme.Scheme.{Scheme}
use Rattle.wot_forms.specs.declared.scheme.Scheme.TheVariants as scheme

-- the scheme of this name
abbrev pub scheme_named : List ℕ → Option Scheme
scheme_named name =
    if bytes_eq name (codes "http") then Some scheme.Http
    else if bytes_eq name (codes "coap") then Some scheme.Coap
    else None

-- the port where a URL has none
abbrev pub default_port : Scheme → ℕ
default_port scheme.Http = 80
default_port scheme.Coap = 5683

-- the segments of the path of a URL, percent-encoding taken away: none where it doesn't begin with `/`, as where it is
-- empty
abbrev pub segments_of : List ℕ → List (List ℕ)
segments_of [] = []
segments_of (b ∷ bytes) = if b == 47 then segments_behind bytes else []

-- the path can be sent: over CoAP each segment has at most 255 bytes (RFC 7252, section 5.10)
abbrev pub AreSendable : Scheme → List (List ℕ) → Type 0
AreSendable scheme.Http segments = ⊤
AreSendable scheme.Coap segments = All (λ segment. length segment ≤ LONGEST_SEGMENT) segments
