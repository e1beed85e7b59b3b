-- The laws are lemmas.
use Rattle.coap_bind.proofs.SpendLaws.{no_whole_body_stays, answers_leave_the_parts}
use Rattle.coap_bind.proofs.laws.no_whole_body_stays.Goals as goal

pub returns : goal.returns
returns c = record { stays = no_whole_body_stays; answers = answers_leave_the_parts }
