-- Observers whose notification is due.
use Rattle.std.proofs.Common.{◌≡◌, ℕ, Bool, true, false, cond, List, find, Option, Some, None, refl, subst, option_and_then}
use native.Mathlib.Omega.{arith}
use Rattle.std.proofs.lemmas.Bool.Decides.{nat_tests}
use Rattle.std.proofs.lemmas.Grind.{common_steps}
use Rattle.coap_msg.specs.declared.endpoint.Endpoint.{Endpoint}
use Rattle.coap_observe.specs.declared.observer.Observer.{Observer}
use Rattle.coap_observe.specs.Sending.{Sent}
use Rattle.coap_observe.specs.Watching.{is_from, is_late, is_due, is_given_up, given_up_endpoint, hopeless}

is_from_itself : (w : Observer) → is_from w.from w ≡ true
is_from_itself w = grind (arith, nat_tests, common_steps)

given_up_from : (t : Bool) (w : Observer) (from : Endpoint) → cond t (Some w.from) None ≡ Some from → is_from from w ≡ true
given_up_from true w from is = let same : w.from ≡ from = (cc) in subst (λ (x : Endpoint). is_from x w ≡ true) same (is_from_itself w)
given_up_from false w from is = absurd (cc)

-- an endpoint that is given up is that of an observer
given_up_by : (o : Option Observer) (from : Endpoint) → option_and_then given_up_endpoint o ≡ Some from → (w : Observer) × (o ≡ Some w) × (is_from from w ≡ true)
given_up_by None from is = absurd (cc)
given_up_by (Some w) from is = (w, refl, given_up_from (is_given_up w) w from is)

pub hopeless_by : (now : ℕ) (ws : List Observer) (from : Endpoint) → hopeless now ws ≡ Some from
    → (w : Observer) × (find (is_due now) ws ≡ Some w) × (is_from from w ≡ true)
hopeless_by now ws from is = given_up_by (find (is_due now) ws) from is

stays : (t : Bool) (w : Observer) → cond t (Some w.from) None ≡ None → t ≡ false
stays true w is = absurd (cc)
stays false w is = refl

-- where nobody is given up, the first observer whose notification is due isn't
pub not_given_up : (now : ℕ) (ws : List Observer) (w : Observer) → find (is_due now) ws ≡ Some w → hopeless now ws ≡ None → is_given_up w ≡ false
not_given_up now ws w is nobody =
    stays (is_given_up w) w (subst (λ (o : Option Observer). option_and_then given_up_endpoint o ≡ None) is nobody)

-- something was sent to an observer whose notification is due
pub due_was_sent : (now : ℕ) (o : Option Sent) → is_late now o ≡ true → (s : Sent) × (o ≡ Some s)
due_was_sent now None late = absurd (cc)
due_was_sent now (Some s) late = (s, refl)
