-- The laws are lemmas.
use Rattle.tm_derive.proofs.EnoughBelow.{more_things_change_nothing, more_models_change_nothing}
use Rattle.tm_derive.proofs.laws.more_room_changes_nothing.Goals as goal

pub returns : goal.returns
returns c = record { things = more_things_change_nothing; optional = more_models_change_nothing }
