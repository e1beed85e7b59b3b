use Rattle.wot_directory.proofs.EntryLaws.{named_with, named_without}
use Rattle.wot_directory.proofs.laws.put_is_got_back.Goals as goal

pub returns-clause-put : goal.returns-clause-put
returns-clause-put c = λ name id description entries. named_with name id description entries

pub returns-clause-removed : goal.returns-clause-removed
returns-clause-removed c = λ name id entries. named_without name id entries
