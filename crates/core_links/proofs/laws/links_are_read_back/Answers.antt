use Rattle.core_links.proofs.Stands.{same_links}
use Rattle.core_links.proofs.ReadsBack.{text_is, read_back}
use Rattle.core_links.proofs.laws.links_are_read_back.Goals as goal

pub returns-clause-is_text : goal.returns-clause-is_text
returns-clause-is_text c = text_is

pub returns-clause-of_one : goal.returns-clause-of_one
returns-clause-of_one c = same_links

pub returns-clause-back : goal.returns-clause-back
returns-clause-back c = read_back
