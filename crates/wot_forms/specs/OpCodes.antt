-- The codes of operations, which the kit asks for in their `impl Model`. No contract names this.
use Rattle.std.specs.Prelude.{◌≡◌, ℕ, List, refl, ◌==◌, if◌then◌else◌}
use Rattle.std.specs.Coded.{Coded, code_by, coded_ℕ, coded_list}
use Rattle.wot_terms.specs.declared.op.Op.{Op}
use Rattle.wot_terms.specs.declared.op.Op.TheVariants as op

abbrev op_number : Op → ℕ
op_number op.ReadProperty = 0
op_number op.WriteProperty = 1
op_number op.ObserveProperty = 2
op_number op.UnobserveProperty = 3
op_number op.InvokeAction = 4
op_number op.QueryAction = 5
op_number op.CancelAction = 6
op_number op.SubscribeEvent = 7
op_number op.UnsubscribeEvent = 8
op_number op.ReadAllProperties = 9
op_number op.WriteAllProperties = 10
op_number op.ReadMultipleProperties = 11
op_number op.WriteMultipleProperties = 12
op_number op.ObserveAllProperties = 13
op_number op.UnobserveAllProperties = 14
op_number op.SubscribeAllEvents = 15
op_number op.UnsubscribeAllEvents = 16
op_number op.QueryAllActions = 17

abbrev op_numbered : ℕ → Op
op_numbered n =
    if n == 0 then op.ReadProperty else if n == 1 then op.WriteProperty else if n == 2 then op.ObserveProperty
    else if n == 3 then op.UnobserveProperty else if n == 4 then op.InvokeAction else if n == 5 then op.QueryAction
    else if n == 6 then op.CancelAction else if n == 7 then op.SubscribeEvent else if n == 8 then op.UnsubscribeEvent
    else if n == 9 then op.ReadAllProperties else if n == 10 then op.WriteAllProperties
    else if n == 11 then op.ReadMultipleProperties else if n == 12 then op.WriteMultipleProperties
    else if n == 13 then op.ObserveAllProperties else if n == 14 then op.UnobserveAllProperties
    else if n == 15 then op.SubscribeAllEvents else if n == 16 then op.UnsubscribeAllEvents else op.QueryAllActions

pub op_back : (o : Op) → op_numbered (op_number o) ≡ o
op_back op.ReadProperty = refl
op_back op.WriteProperty = refl
op_back op.ObserveProperty = refl
op_back op.UnobserveProperty = refl
op_back op.InvokeAction = refl
op_back op.QueryAction = refl
op_back op.CancelAction = refl
op_back op.SubscribeEvent = refl
op_back op.UnsubscribeEvent = refl
op_back op.ReadAllProperties = refl
op_back op.WriteAllProperties = refl
op_back op.ReadMultipleProperties = refl
op_back op.WriteMultipleProperties = refl
op_back op.ObserveAllProperties = refl
op_back op.UnobserveAllProperties = refl
op_back op.SubscribeAllEvents = refl
op_back op.UnsubscribeAllEvents = refl
op_back op.QueryAllActions = refl

abbrev op_code : Coded Op
op_code = code_by ℕ coded_ℕ op_number op_numbered op_back

abbrev pub ops_code : Coded (List Op)
ops_code = coded_list op_code
