use Rattle.http_wire.proofs.ChunkBodies.{each_whole_is_spelled, each_spelled_is_read}
use Rattle.http_wire.proofs.laws.chunked_bodies_are_spelled.Goals as goal

pub returns-clause-whole : goal.returns-clause-whole
returns-clause-whole c = each_whole_is_spelled

pub returns-clause-spelled : goal.returns-clause-spelled
returns-clause-spelled c = each_spelled_is_read
