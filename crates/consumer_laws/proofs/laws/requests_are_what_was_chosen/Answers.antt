use Rattle.consumer_laws.proofs.laws.requests_are_what_was_chosen.Goals as goal
use Rattle.consumer_laws.proofs.WhatWasChosen.{chosen}

-- src/laws.rt:12:1
pub returns : goal.returns
returns c = chosen
