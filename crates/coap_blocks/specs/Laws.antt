-- Bodies and parts over whole histories of calls (RFC 7959, sections 2.4 and 2.5).
use Rattle.std.specs.Prelude.{◌≡◌, ◌+◌, ℕ, true, false, List, [], ◌∷◌, ◌++◌, length, All, slice_get, Some}
use Rattle.std.specs.List.{list_any}
use Rattle.coap_msg.specs.declared.endpoint.Endpoint.{Endpoint}
use Rattle.coap_msg.specs.Blocks.{block_start}
use Rattle.coap_blocks.specs.Bodies.{Body, is_body_of, with_body, body_for, kept_bodies, without_place}
use Rattle.coap_blocks.specs.Parts.{Origin, Arrival, Part, living, after_block}
use Rattle.coap_blocks.specs.declared.added.Added.TheVariants as answer

-- ---- bodies

-- The bodies that are kept after all puts are those that the history says: not replaced, and among the last 16.
abbrev pub BodiesFollowThePuts : Type 0
BodiesFollowThePuts = (puts : List Body) (b : Body) → kept_bodies (puts ++ b ∷ []) ≡ with_body b (kept_bodies puts)

-- a body is the last that was put for an endpoint and a path
pub record IsLastFor (from : Endpoint) (path : List (List ℕ)) (b : Body) (puts : List Body) : Type 0 where
  pub before : List Body
  pub after : List Body
  pub there : puts ≡ before ++ b ∷ after
  pub own : is_body_of from path b ≡ true
  pub last : list_any (is_body_of from path) after ≡ false

-- `get` gives the last body that was put for that endpoint and path, whole.
abbrev pub TheLastBodyIsGot : Type 0
TheLastBodyIsGot =
    (puts : List Body) (from : Endpoint) (path : List (List ℕ)) (now : ℕ) (b : Body)
    → body_for from path now (kept_bodies puts) ≡ Some b → IsLastFor from path b puts

-- No endpoint is given a body that was put for another, nor for another path.
abbrev pub BodiesAreOnesOwn : Type 0
BodiesAreOnesOwn =
    (bodies : List Body) (from : Endpoint) (path : List (List ℕ)) (now : ℕ) (b : Body)
    → body_for from path now bodies ≡ Some b → (b.from ≡ from) × (b.path ≡ path)

-- ---- parts

-- a call on parts
pub data Call : Type 0 where
  -- a block came
  adds : Arrival → Call
  -- the completed part at this place was cleared
  clears : ℕ → Call

-- the parts after a call
abbrev pub after_call : Call → List Part → List Part
after_call (adds a) parts = (after_block a (living a.moment parts)).1
after_call (clears place) parts = without_place (Some place) parts

-- a row is some blocks, in their order, without those that are left out
pub data IsLeftOf : List Arrival → List Arrival → Type 0 where
  no_more : IsLeftOf [] []
  stays : (a : Arrival) (row blocks : List Arrival) → IsLeftOf row blocks → IsLeftOf (a ∷ row) (a ∷ blocks)
  goes : (a : Arrival) (row blocks : List Arrival) → IsLeftOf row blocks → IsLeftOf row (a ∷ blocks)

-- the payloads of blocks, joined
abbrev pub joined_payloads : List Arrival → List ℕ
joined_payloads [] = []
joined_payloads (a ∷ row) = a.payload ++ joined_payloads row

-- Each block of a row is of this origin, and begins where those before it end, the first of them after n bytes.
abbrev pub IsRowFrom : Origin → ℕ → List Arrival → Type 0
IsRowFrom o n [] = Unit {0}
IsRowFrom o n (a ∷ row) = (a.origin ≡ o) × (block_start a.block ≡ n) × IsRowFrom o (n + length a.payload) row

-- a row of blocks makes a part: each is of its origin and begins where those before it end, the first at 0, and its
-- bytes are their payloads, joined
pub record Makes (row : List Arrival) (p : Part) : Type 0 where
  pub in_order : IsRowFrom p.origin 0 row
  pub bytes : p.bytes ≡ joined_payloads row

-- the blocks among calls, in order
abbrev pub blocks_among : List Call → List Arrival
blocks_among [] = []
blocks_among (adds a ∷ calls) = a ∷ blocks_among calls
blocks_among (clears place ∷ calls) = blocks_among calls

-- the parts after all of some calls
abbrev pub parts_after : List Part → List Call → List Part
parts_after parts [] = parts
parts_after parts (c ∷ calls) = parts_after (after_call c parts) calls

-- a part is made by a row of these blocks, in their order
abbrev pub IsMadeOf : List Arrival → Part → Type 0
IsMadeOf blocks p = (row : List Arrival) × Makes row p × IsLeftOf row blocks

-- Each part, at any time, is made of blocks that came, in their order, all of one endpoint, code and path, from the
-- beginning of the body on.
abbrev pub PartsAreRows : Type 0
PartsAreRows = (calls : List Call) → All (IsMadeOf (blocks_among calls)) (parts_after [] calls)

-- A whole body is made of blocks that came before and the one that completes it: none is whole without its first block,
-- and no block is joined twice.
abbrev pub WholeBodiesAreRows : Type 0
WholeBodiesAreRows =
    (calls : List Call) (a : Arrival) (place : ℕ)
    → (after_block a (living a.moment (parts_after [] calls))).0 ≡ answer.Complete place
    → (p : Part) × (row : List Arrival) × (slice_get (after_block a (living a.moment (parts_after [] calls))).1 place ≡ Some p)
    × Makes (row ++ a ∷ []) p × IsLeftOf row (blocks_among calls)
