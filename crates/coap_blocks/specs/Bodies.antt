-- The view that contracts have of a `Bodies`, and the effects of its calls: the bodies of responses that were given in
-- blocks, each kept for the requests for its later blocks (RFC 7959, section 2.4).
use Rattle.std.specs.Prelude.{◌-◌, ◌&&◌, ℕ, Bool, List, [], ◌∷◌, ◌++◌, length, drop, find, Option, Some, None, if◌then◌else◌}
use Rattle.std.specs.List.{list_any, position, remove}
use Rattle.coap_msg.specs.declared.endpoint.Endpoint.{Endpoint}
use Rattle.coap_msg.specs.Endpoints.{is_same_endpoint}
use Rattle.coap_blocks.specs.Paths.{is_same_path, lives}
use Rattle.coap_blocks.specs.declared.bodies.TheConstants.{MOST_BODIES}
use Rattle.coap_blocks.specs.declared.body_place.TheConstants.{LONGEST_BODY}
use Rattle.coap_blocks.specs.declared.whole.Whole.{Whole}

-- a whole response, apart from its place in memory: its code, its content format, its version and its bytes
pub record Content : Type 0 where
  pub code : ℕ
  pub format : Option ℕ
  pub tag : Option ℕ
  pub bytes : List ℕ

abbrev pub content_of : Whole → Content
content_of w = record { code = w.code; format = w.format; tag = w.tag; bytes = w.bytes.now }

-- a body that is kept: the endpoint to which it was given, its path, its content, and the moment
pub record Body : Type 0 where
  pub from : Endpoint
  pub path : List (List ℕ)
  pub content : Content
  pub moment : ℕ

-- the most bodies that are kept, and the most bytes of one
abbrev pub most_bodies : ℕ
most_bodies = MOST_BODIES

abbrev pub longest_body : ℕ
longest_body = LONGEST_BODY

-- a body is that of an endpoint and a path: blocks of one resource belong together for one endpoint (section 2.4)
abbrev pub is_body_of : Endpoint → List (List ℕ) → Body → Bool
is_body_of from path b = is_same_endpoint b.from from && is_same_path b.path path

-- the last elements of a list, of some number
abbrev pub last : {A : Type 0} → ℕ → List A → List A
last n xs = drop (length xs - n) xs

-- a list without the element at a place, if there is such a place
abbrev pub without_place : {A : Type 0} → Option ℕ → List A → List A
without_place None xs = xs
without_place (Some place) xs = remove xs place

-- the other bodies than that of an endpoint and a path
abbrev pub other_bodies : Endpoint → List (List ℕ) → List Body → List Body
other_bodies from path bodies = without_place (position (is_body_of from path) bodies) bodies

-- the bodies once another one was put: it replaces that of its endpoint and path, and the last 16 stay
abbrev pub with_body : Body → List Body → List Body
with_body b bodies = last most_bodies (other_bodies b.from b.path bodies ++ b ∷ [])

-- the body of an endpoint and a path, if it lives at a moment
abbrev pub body_for : Endpoint → List (List ℕ) → ℕ → List Body → Option Body
body_for from path now bodies = find (λ b. is_body_of from path b && lives now b.moment) bodies

-- ---- the same, of all bodies that were ever put

-- those that no later one replaces
abbrev pub unreplaced : List Body → List Body
unreplaced [] = []
unreplaced (b ∷ later) = if list_any (is_body_of b.from b.path) later then unreplaced later else b ∷ unreplaced later

-- the last 16 of them
abbrev pub kept_bodies : List Body → List Body
kept_bodies puts = last most_bodies (unreplaced puts)
