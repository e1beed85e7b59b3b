use Rattle.wot_json.proofs.MergeTwice.{merges_twice}
use Rattle.wot_json.proofs.laws.merging_twice_is_merging_once.Goals as goal

pub returns : goal.returns
returns c = λ target patch formed. merges_twice patch formed target
