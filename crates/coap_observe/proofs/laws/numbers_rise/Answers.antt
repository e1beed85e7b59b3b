use Rattle.coap_observe.proofs.NumberLaws.{number_rises, registration_says, notice_says}
use Rattle.coap_observe.proofs.laws.numbers_rise.Goals as goal

pub returns : goal.returns
returns c = record { rise = number_rises; registrations = registration_says; notices = notice_says }
