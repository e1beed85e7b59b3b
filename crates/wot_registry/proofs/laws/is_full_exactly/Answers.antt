-- The laws are lemmas.
use Rattle.wot_registry.proofs.FullLaws.{put_exactly, create_exactly}
use Rattle.wot_registry.proofs.laws.is_full_exactly.Goals as goal

pub returns-clause-put : goal.returns-clause-put
returns-clause-put c = put_exactly

pub returns-clause-create : goal.returns-clause-create
returns-clause-create c = create_exactly
