-- The uses of the slots that a request meets.
use Rattle.std.proofs.Common.{◌≡◌, ◌∙◌, ◌==◌, ℕ, [], ◌∷◌, Some, None, sym, refl, ap, subst}
use Rattle.std.specs.Option.{option_map, option_or}
use Rattle.std.specs.List.{find}
use Rattle.std.proofs.lemmas.List.Folds.{find-append}
use Rattle.coap_exchange.specs.Admission.{Arrival}
use Rattle.coap_exchange.specs.Table.{Exchange, Table, exchange_in, with_exchange, IsAwaited, HasReply, Meets}
use Rattle.coap_exchange.specs.declared.met.Met.{Met}
use Rattle.coap_exchange.specs.declared.met.Met.TheVariants.{Fresh, Repeat, Full}
use Rattle.coap_exchange.proofs.ListLaws.{option_map_some}
use Rattle.slot_lists.proofs.Among.{same_slot}

-- no request changes the moment
pub moment_after : (t : Table) (a : Arrival) (met : Met) (u : Table) → Meets t a met u → u.moment ≡ t.moment
moment_after t a (Fresh slot) u h = ap (λ w. w.moment) h.1.2
moment_after t a (Repeat kept) u h = ap (λ w. w.moment) h.1
moment_after t a Full u h = ap (λ w. w.moment) h.1.1

-- a new exchange is in its slot, and waits for its reply
new_in_slot : (t : Table) (a : Arrival) (slot : ℕ) → exchange_in slot t ≡ None → IsAwaited slot (with_exchange a slot t)
new_in_slot t a slot h =
    let e : Exchange = record { arrival = a; slot = slot; reply = None } in
    let last : find (λ x. x.slot == slot) (e ∷ []) ≡ Some e = rw (same_slot slot) refl in
    let found : exchange_in slot (with_exchange a slot t) ≡ Some e
    = find-append (λ x. x.slot == slot) t.exchanges (e ∷ []) ∙ (ap (λ o. option_or o (find (λ x. x.slot == slot) (e ∷ []))) h ∙ last) in
    (e, found, refl)

pub awaited_after : (t : Table) (a : Arrival) (met : Met) (u : Table) → Meets t a met u → (slot : ℕ) → met ≡ Fresh slot → IsAwaited slot u
awaited_after t a (Fresh given) u h slot e =
    let same : given ≡ slot = cc in
    let new : IsAwaited given u = subst (λ w. IsAwaited given w) (sym h.1.2) (new_in_slot t a given h.1.1) in
    subst (λ s. IsAwaited s u) same new
awaited_after t a (Repeat kept) u h slot e = cc
awaited_after t a Full u h slot e = cc

-- a slot that is named has a reply
pub kept_after : (t : Table) (a : Arrival) (met : Met) (u : Table) → Meets t a met u → (slot : ℕ) → met ≡ Repeat (Some slot) → HasReply slot u
kept_after t a (Repeat kept) u h slot e =
    let x : Exchange = h.0.0 in
    let named : option_map (λ _. h.0.0.slot) h.0.0.reply ≡ Some slot = sym h.0.3 ∙ cc in
    let reply = option_map_some (λ _. h.0.0.slot) h.0.0.reply slot named in
    let there : exchange_in slot t ≡ Some h.0.0 = subst (λ s. exchange_in s t ≡ Some h.0.0) reply.2 h.0.2 in
    subst (λ w. HasReply slot w) (sym h.1) (reply.0, (h.0.0, there, reply.1))
kept_after t a (Fresh given) u h slot e = cc
kept_after t a Full u h slot e = cc
