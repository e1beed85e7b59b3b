-- The names of operations, and the places whose forms have them (TD 1.1 section 5.3.4.2).
use Rattle.std.specs.Prelude.{ℕ, List, [], ◌∷◌, Option, Some, None, Bool, codes}
use Rattle.std.specs.List.{list_any}
use Rattle.std.specs.Str.{bytes_eq}
use Rattle.wot_terms.specs.declared.kind.Kind.{Kind}
use Rattle.wot_terms.specs.declared.kind.Kind.TheVariants as kind
use Rattle.wot_terms.specs.declared.op.Op.{Op}
use Rattle.wot_terms.specs.declared.op.Op.TheVariants as op

abbrev pub op_name : Op → List ℕ
op_name op.ReadProperty = codes "readproperty"
op_name op.WriteProperty = codes "writeproperty"
op_name op.ObserveProperty = codes "observeproperty"
op_name op.UnobserveProperty = codes "unobserveproperty"
op_name op.InvokeAction = codes "invokeaction"
op_name op.QueryAction = codes "queryaction"
op_name op.CancelAction = codes "cancelaction"
op_name op.SubscribeEvent = codes "subscribeevent"
op_name op.UnsubscribeEvent = codes "unsubscribeevent"
op_name op.ReadAllProperties = codes "readallproperties"
op_name op.WriteAllProperties = codes "writeallproperties"
op_name op.ReadMultipleProperties = codes "readmultipleproperties"
op_name op.WriteMultipleProperties = codes "writemultipleproperties"
op_name op.ObserveAllProperties = codes "observeallproperties"
op_name op.UnobserveAllProperties = codes "unobserveallproperties"
op_name op.SubscribeAllEvents = codes "subscribeallevents"
op_name op.UnsubscribeAllEvents = codes "unsubscribeallevents"
op_name op.QueryAllActions = codes "queryallactions"

-- the operations of a property, an action, an event, and where there is no affordance those of the Thing as a whole
abbrev pub operations : Option Kind → List Op
operations (Some kind.Property) = op.ReadProperty ∷ op.WriteProperty ∷ op.ObserveProperty ∷ op.UnobserveProperty ∷ []
operations (Some kind.Action) = op.InvokeAction ∷ op.QueryAction ∷ op.CancelAction ∷ []
operations (Some kind.Event) = op.SubscribeEvent ∷ op.UnsubscribeEvent ∷ []
operations None =
    op.ReadAllProperties ∷ op.WriteAllProperties ∷ op.ReadMultipleProperties ∷ op.WriteMultipleProperties ∷
    op.ObserveAllProperties ∷ op.UnobserveAllProperties ∷ op.SubscribeAllEvents ∷ op.UnsubscribeAllEvents ∷ op.QueryAllActions ∷ []

-- the text names an operation of this place
abbrev pub is_operation : Option Kind → List ℕ → Bool
is_operation place text = list_any (λ o. bytes_eq text (op_name o)) (operations place)
