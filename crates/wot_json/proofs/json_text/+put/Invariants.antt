use Rattle.std.proofs.Common.{take}
use Rattle.std.specs.List.{flat_map}
use Rattle.wot_json.specs.Json.{further_element, further_field}
use Rattle.servient_base.specs.Writing.{Puts}
use Rattle.wot_json.proofs.json_text.+put.Given as goal

abbrev pub invariant-put_further_elements-loop-item : goal.invariant-put_further_elements-loop-item
invariant-put_further_elements-loop-item l = Puts (flat_map further_element (take l.item-index l.items)) l.at l.end l.initial.out l.out

abbrev pub invariant-put_further_fields-loop-name : goal.invariant-put_further_fields-loop-name
invariant-put_further_fields-loop-name l = Puts (flat_map further_field (take l.name-index l.fields)) l.at l.end l.initial.out l.out
