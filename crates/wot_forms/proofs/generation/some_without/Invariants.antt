use Rattle.std.proofs.Common.{◌≡◌, drop}
use Rattle.wot_json.specs.Meaning.{json_members}
use Rattle.wot_forms.specs.Generated.{some_without}
use Rattle.wot_forms.proofs.generation.some_without.Given as goal

abbrev pub invariant-loop-property : goal.invariant-loop-property
invariant-loop-property l =
    some_without l.name (json_members (drop l.property-index l.properties)) ≡ some_without l.name (json_members l.properties)
