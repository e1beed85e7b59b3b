use Rattle.http_bind.proofs.Requests.{takes_the_first, takes_all, has_one_list}
use Rattle.http_bind.proofs.laws.each_connection_takes_its_stream.Goals as goal

pub returns-clause-first : goal.returns-clause-first
returns-clause-first c = takes_the_first

pub returns-clause-all : goal.returns-clause-all
returns-clause-all c = takes_all

pub returns-clause-one : goal.returns-clause-one
returns-clause-one c = has_one_list
