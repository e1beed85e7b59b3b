-- The forms of a Thing Description (TD 1.1 section 5.3.4.2), and the operations that they are for. A description that
-- has faults has forms by the same words; callers ask that it has none.
use Rattle.std.specs.Prelude.{ℕ, List, [], ◌∷◌, ◌++◌, map, filter, Bool, Option, Some, None, option_map, unwrap_or, option_and_then, codes, if◌then◌else◌}
use Rattle.std.specs.List.{flat_map}
use Rattle.std.specs.Option.{option_map_or}
use Rattle.std.specs.Str.{bytes_eq}
use Rattle.wot_json.specs.Tree.{Json, null, boolean, integer, string, array, object}
use Rattle.wot_json.specs.Lookup.{element_list}
use Rattle.wot_terms.specs.declared.kind.Kind.{Kind}
use Rattle.wot_terms.specs.declared.kind.Kind.TheVariants as kind
use Rattle.wot_terms.specs.declared.op.Op.{Op}
use Rattle.wot_terms.specs.declared.op.Op.TheVariants as op
use Rattle.wot_terms.specs.Operations.{op_name}
use Rattle.wot_terms.specs.Faults.{holder}
use Rattle.wot_terms.specs.Affordances.{part, flag_of}
use Rattle.wot_forms.specs.declared.form.Form.{Form}

-- The operations of a form that names none (section 5.4): reading unless the property is write-only, writing unless
-- it is read-only; invoking; subscribing and unsubscribing.
abbrev pub default_ops : Kind → Bool → Bool → List Op
default_ops kind.Property read_only write_only =
    (if write_only then [] else op.ReadProperty ∷ []) ++ (if read_only then [] else op.WriteProperty ∷ [])
default_ops kind.Action read_only write_only = op.InvokeAction ∷ []
default_ops kind.Event read_only write_only = op.SubscribeEvent ∷ op.UnsubscribeEvent ∷ []

-- all operations
abbrev pub all_ops : List Op
all_ops =
    op.ReadProperty ∷ op.WriteProperty ∷ op.ObserveProperty ∷ op.UnobserveProperty ∷
    op.InvokeAction ∷ op.QueryAction ∷ op.CancelAction ∷
    op.SubscribeEvent ∷ op.UnsubscribeEvent ∷
    op.ReadAllProperties ∷ op.WriteAllProperties ∷ op.ReadMultipleProperties ∷ op.WriteMultipleProperties ∷
    op.ObserveAllProperties ∷ op.UnobserveAllProperties ∷ op.SubscribeAllEvents ∷ op.UnsubscribeAllEvents ∷
    op.QueryAllActions ∷ []

-- the operation that a text names, and none where it names none or the value is no text
abbrev pub ops_named : Json → List Op
ops_named (string name) = filter (λ o. bytes_eq name (op_name o)) all_ops
ops_named null = []
ops_named (boolean b) = []
ops_named (integer z) = []
ops_named (array es) = []
ops_named (object ms) = []

-- the operations that a text or a list of texts names
abbrev pub ops_among : Json → List Op
ops_among (array es) = flat_map ops_named (element_list es)
ops_among v = ops_named v

-- the operations of a form: those that `op` names, and else the default ones
abbrev pub ops_of : List Op → Option Json → List Op
ops_of defaults named = option_map_or ops_among named defaults

-- the text of a member, where it is one
abbrev pub text_of : Option Json → Option (List ℕ)
text_of None = None
text_of (Some (string s)) = Some s
text_of (Some null) = None
text_of (Some (boolean b)) = None
text_of (Some (integer z)) = None
text_of (Some (array es)) = None
text_of (Some (object ms)) = None

-- A form: its `href`, its operations, its `contentType`, which is `application/json` where there is none (section
-- 5.4), its `subprotocol` and the HTTP method that it names.
abbrev pub form_of : List Op → Json → Form
form_of defaults v = record {
  href = unwrap_or (text_of (part (codes "href") v)) [];
  ops = ops_of defaults (part (codes "op") v);
  content_type = unwrap_or (text_of (part (codes "contentType") v)) (codes "application/json");
  subprotocol = text_of (part (codes "subprotocol") v);
  method = text_of (part (codes "htv:methodName") v);
}

-- the forms of a list
abbrev pub list_forms : List Op → Json → List Form
list_forms defaults (array es) = map (form_of defaults) (element_list es)
list_forms defaults v = []

-- the forms in the member `forms`
abbrev pub forms_under : List Op → Json → List Form
forms_under defaults v = option_map_or (list_forms defaults) (part (codes "forms") v) []

-- the forms of an affordance of a kind
abbrev pub affordance_forms : Kind → Json → List Form
affordance_forms k v = forms_under (default_ops k (flag_of (codes "readOnly") v) (flag_of (codes "writeOnly") v)) v

-- The forms of the affordance of this kind and name, where the description has it; without a kind those of the
-- description as a whole, which has none where there is no `forms`.
abbrev pub forms_in : Json → Option Kind → List ℕ → Option (List Form)
forms_in t (Some k) name = option_map (affordance_forms k) (option_and_then (part name) (part (holder k) t))
forms_in t None name = Some (forms_under [] t)
