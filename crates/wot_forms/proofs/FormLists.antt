-- The parts of a list of the tree.
use Rattle.std.proofs.Common.{◌≡◌, List, map, ap}
use Rattle.std.specs.List.{flat_map}
use Rattle.wot_json.specs.Tree.{Json, array, elements_of}
use Rattle.wot_json.proofs.EqualTrees.{listed_lem}
use Rattle.wot_terms.specs.declared.op.Op.{Op}
use Rattle.wot_forms.specs.Forms.{ops_among, form_of, list_forms, ops_named}

pub forms_in_list : (defaults : List Op) (vs : List Json) → list_forms defaults (array (elements_of vs)) ≡ map (form_of defaults) vs
forms_in_list defaults vs = ap (map (form_of defaults)) (listed_lem vs)

pub ops_in_list : (vs : List Json) → ops_among (array (elements_of vs)) ≡ flat_map ops_named vs
ops_in_list vs = ap (flat_map ops_named) (listed_lem vs)
