use Rattle.std.proofs.Common.{◌≡◌, ◌++◌, drop, map}
use Rattle.wot_json.specs.Meaning.{json_items}
use Rattle.wot_forms.specs.Forms.{form_of}
use Rattle.wot_forms.proofs.listing.listed_forms.Given as goal

abbrev pub invariant-loop-item : goal.invariant-loop-item
invariant-loop-item l = l.list ++ map (form_of (l.defaults)) (json_items (drop l.item-index l.items)) ≡ map (form_of (l.defaults)) (json_items l.items)
