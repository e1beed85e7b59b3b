-- The law is a lemma.
use Rattle.servient_world.proofs.LedLaws.{all_are_led}
use Rattle.servient_world.proofs.laws.all_are_led.Goals as goal

pub returns : goal.returns
returns c = all_are_led
