-- The view that contracts have of a `Parts`, and the effects of its calls: the bodies of requests that come in blocks,
-- as far as they came (RFC 7959, section 2.5).
use Rattle.std.specs.Prelude.{◌≡◌, ◌+◌, ◌==◌, ◌&&◌, ◌||◌, not, ℕ, Bool, List, [], ◌∷◌, ◌++◌, length, filter, nat_lt, Option, Some, None, slice_index_or, slice_set, if◌then◌else◌}
use Rattle.std.specs.List.{position, remove}
use Rattle.coap_msg.specs.declared.block.Block.{Block}
use Rattle.coap_msg.specs.declared.endpoint.Endpoint.{Endpoint}
use Rattle.coap_msg.specs.Blocks.{block_size, block_start}
use Rattle.coap_msg.specs.Endpoints.{is_same_endpoint}
use Rattle.coap_blocks.specs.Bodies.{without_place}
use Rattle.coap_blocks.specs.Paths.{is_same_path, lives}
use Rattle.coap_blocks.specs.declared.added.Added.{Added}
use Rattle.coap_blocks.specs.declared.origin.Origin.{Origin as OriginOfCode}
use Rattle.coap_blocks.specs.declared.part_place.TheConstants.{LONGEST_REQUEST}
use Rattle.coap_blocks.specs.declared.parts.TheConstants.{MOST_PARTS}
use Rattle.coap_blocks.specs.declared.added.Added.TheVariants as answer

-- the origin of a block: the endpoint that sent it, and the code and the path of its request, which are the same for
-- all blocks of one body (section 2.5)
pub record Origin : Type 0 where
  pub from : Endpoint
  pub code : ℕ
  pub path : List (List ℕ)

-- the same apart from the path's place in memory
abbrev pub origin_of : OriginOfCode → Origin
origin_of o = record { from = o.from; code = o.code; path = o.path.now }

-- a block that came: its origin, its number, bit and size, its payload, and the moment
pub record Arrival : Type 0 where
  pub origin : Origin
  pub block : Block
  pub payload : List ℕ
  pub moment : ℕ

abbrev pub arrival_of : OriginOfCode → Block → List ℕ → ℕ → Arrival
arrival_of o b payload now = record { origin = origin_of o; block = b; payload = payload; moment = now }

-- a body as far as it came: its origin, its bytes so far, and the moment of its first block
pub record Part : Type 0 where
  pub origin : Origin
  pub bytes : List ℕ
  pub moment : ℕ

-- the most parts that are kept, and the most bytes of one
abbrev pub most_parts : ℕ
most_parts = MOST_PARTS

abbrev pub longest_request : ℕ
longest_request = LONGEST_REQUEST

-- a part is that of an origin
abbrev pub is_part_of : Origin → Part → Bool
is_part_of o p = is_same_endpoint p.origin.from o.from && p.origin.code == o.code && is_same_path p.origin.path o.path

-- the place of the own part of an origin
abbrev pub place_of : Origin → List Part → Option ℕ
place_of o parts = position (is_part_of o) parts

-- the parts that live at a moment
abbrev pub living : ℕ → List Part → List Part
living now parts = filter (λ p. lives now p.moment) parts

-- a payload that isn't as long as its block says: not all of a block that others follow, or more than a block
-- (section 2.3)
abbrev pub is_bad : Block → List ℕ → Bool
is_bad b payload = (b.more && not (length payload == block_size b)) || nat_lt (block_size b) (length payload)

-- the answer to a block that was joined to the part at a place: whether others are awaited
abbrev pub answer_at : ℕ → Block → Added
answer_at place b = if b.more then answer.Continue else answer.Complete place

-- a part with further bytes
abbrev pub extended : List ℕ → Part → Part
extended payload own = record own { bytes = own.bytes ++ payload }

-- A block comes to its own part, which is at this place: it is joined where it begins at the end of the part and the
-- body isn't too long then. Else the part leaves.
abbrev pub joined_to : Block → List ℕ → ℕ → Part → List Part → Added × List Part
joined_to b payload place own parts =
    if not (length own.bytes == block_start b) then (answer.Incomplete, remove parts place)
    else if nat_lt longest_request (length own.bytes + length payload) then (answer.TooLarge, remove parts place)
    else (answer_at place b, slice_set parts place (extended payload own))

-- an empty part
abbrev pub new_part : Origin → ℕ → Part
new_part o now = record { origin = o; bytes = []; moment = now }

-- the part at a place; an empty one past the end
abbrev pub part_at : ℕ → List Part → Part
part_at place parts = slice_index_or parts place (new_part (record { from = record { host = 0; port = 0 }; code = 0; path = [] }) 0)

-- a block without a part of its own is Incomplete, since an earlier one is missing (section 2.9.2)
abbrev pub joined_at : Block → List ℕ → Option ℕ → List Part → Added × List Part
joined_at b payload None parts = (answer.Incomplete, parts)
joined_at b payload (Some place) parts = joined_to b payload place (part_at place parts) parts

abbrev pub joined : Origin → Block → List ℕ → List Part → Added × List Part
joined o b payload parts = joined_at b payload (place_of o parts) parts

-- A first block begins a part anew, if there is room for it besides the others (section 2.5).
abbrev pub begun : Arrival → List Part → Added × List Part
begun a others =
    if nat_lt (length others) most_parts then joined a.origin a.block a.payload (others ++ new_part a.origin a.moment ∷ [])
    else (answer.Full, others)

-- the parts without that of an origin
abbrev pub other_parts : Origin → List Part → List Part
other_parts o parts = without_place (place_of o parts) parts

-- the answer to a block, and the parts then, where all of the parts live
abbrev pub after_block : Arrival → List Part → Added × List Part
after_block a parts =
    if is_bad a.block a.payload then (answer.BadBlock, parts)
    else if a.block.number == 0 then begun a (other_parts a.origin parts)
    else joined a.origin a.block a.payload parts

-- this was answered, and these are the parts then
pub record Gives (said : Added × List Part) (answer : Added) (parts : List Part) : Type 0 where
  pub answer_is : answer ≡ said.0
  pub parts_are : parts ≡ said.1
