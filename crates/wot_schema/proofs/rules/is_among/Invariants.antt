use Rattle.std.proofs.Common.{◌↔◌, drop}
use Rattle.wot_json.specs.Meaning.{json_of}
use Rattle.wot_schema.specs.Rules.{IsAmong}
use Rattle.wot_schema.proofs.rules.is_among.Given as goal

abbrev pub invariant-loop-choice : goal.invariant-loop-choice
invariant-loop-choice l = IsAmong (json_of l.value) l.choices ↔ IsAmong (json_of l.value) (drop l.choice-index l.choices)
