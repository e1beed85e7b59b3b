use Rattle.servient_script.proofs.FieldTexts.{same_fields}
use Rattle.servient_script.proofs.laws.lines_are_cut_in_one_way.Goals as goal

pub returns : goal.returns
returns c = λ fields others are are_others same. same_fields fields others are are_others same
