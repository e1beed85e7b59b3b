use Rattle.wot_json.proofs.ReadsBack.{tree_of-text_of}
use Rattle.wot_json.proofs.laws.text_is_read_back.Goals as goal

pub returns : goal.returns
returns c = tree_of-text_of
