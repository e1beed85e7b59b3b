-- Inside the crate: the places in which the code keeps bodies and parts. Their memory was taken at first; one without a
-- body or a part is spare.
use Rattle.std.specs.Prelude.{◌≡◌, ◌+◌, ◌≤◌, ℕ, List, length, vec_len, vec_capacity}
use Rattle.thing_ops.specs.Segments.{pieces, AreEnds}
use Rattle.coap_blocks.specs.Paths.{largest_path}
use Rattle.coap_blocks.specs.Bodies.{most_bodies}
use Rattle.coap_blocks.specs.Parts.{most_parts}
use Rattle.coap_blocks.specs.declared.kept_path.KeptPath.TheInside.{Inside as PathInside}
use Rattle.coap_blocks.specs.declared.bodies.Bodies.TheInside.{Inside as BodiesInside}
use Rattle.coap_blocks.specs.declared.parts.Parts.TheInside.{Inside as PartsInside}

-- the segments of a path
abbrev pub path_of : PathInside → List (List ℕ)
path_of x = pieces x.bytes 0 x.ends.items

-- the segments lie one after another in their bytes, and there is memory for the ends of those of the longest path
pub record IsPath (x : PathInside) : Type 0 where
  pub ends : AreEnds 0 x.ends.items (length x.bytes)
  pub room : largest_path ≤ vec_capacity x.ends

-- there are as many places as bodies may be kept
pub record AreBodies (x : BodiesInside) : Type 0 where
  pub places : vec_len x.kept + vec_len x.spare ≡ most_bodies
  pub room : most_bodies ≤ vec_capacity x.kept

-- there are as many places as parts may be kept
pub record AreParts (x : PartsInside) : Type 0 where
  pub places : vec_len x.kept + vec_len x.spare ≡ most_parts
  pub room : most_parts ≤ vec_capacity x.kept
  pub spare_room : most_parts ≤ vec_capacity x.spare
