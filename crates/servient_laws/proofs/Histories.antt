-- The requests of a run are determined by its events.
use Rattle.std.proofs.Common.{◌≡◌, ℕ, List, [], ◌∷◌, ◌++◌, max, true, false, refl, sym, ap, ap₂, subst, ◌∙◌, arith, inl, inr}
use Rattle.coap_msg.specs.declared.endpoint.Endpoint.{Endpoint}
use Rattle.coap_msg.specs.Grammar.{CoapMessage, Spells}
use Rattle.coap_msg.proofs.Messages.{at_most_one_message}
use Rattle.coap_exchange.specs.Admission.{Arrival}
use Rattle.coap_bind.specs.Server.{is_request, arrival}
use Rattle.coap_bind.specs.Laws.{AreArrivals}
use Rattle.servient_outside.specs.declared.net.What.{What}
use Rattle.servient_outside.specs.declared.net.What.TheVariants as what
use Rattle.servient_outside.specs.declared.net.EventWithBytes.{EventWithBytes}
use Rattle.servient_core.specs.Runs.{AreRequestsOf, AreRequestsFrom}

none_or_one : (m n : CoapMessage) (bytes : List ℕ) → Spells m bytes → Spells n bytes → is_request m ≡ false → is_request n ≡ true → ⊥
none_or_one m n bytes one other isnt is =
    let same : is_request n ≡ false = subst (λ (x : CoapMessage). is_request x ≡ false) (at_most_one_message m n bytes one other) isnt in cc

same_arrivals : (from : Endpoint) (bytes : List ℕ) (now : ℕ) (xs ys : List Arrival) → AreArrivals from bytes now xs → AreArrivals from bytes now ys → xs ≡ ys
same_arrivals from bytes now [] [] one other = refl
same_arrivals from bytes now [] (b ∷ []) one other = absurd (none_or_one other.0 other.0 bytes other.1 other.1 (one other.0 other.1) other.2)
same_arrivals from bytes now (a ∷ []) [] one other = absurd (none_or_one one.0 one.0 bytes one.1 one.1 (other one.0 one.1) one.2)
same_arrivals from bytes now (a ∷ []) (b ∷ []) one other =
    let same : a ≡ b = one.3 ∙ ap (arrival from now) (at_most_one_message one.0 other.0 bytes one.1 other.1) ∙ sym other.3 in ap (λ (x : Arrival). x ∷ []) same
same_arrivals from bytes now [] (b ∷ c ∷ more) one other = absurd other
same_arrivals from bytes now (a ∷ []) (b ∷ c ∷ more) one other = absurd other
same_arrivals from bytes now (a ∷ b ∷ more) ys one other = absurd one

same_of : (w : What) (bytes : List ℕ) (now : ℕ) (xs ys : List Arrival) → AreRequestsOf w bytes now xs → AreRequestsOf w bytes now ys → xs ≡ ys
same_of (what.Datagram from size) bytes now xs ys (inl long) (inl other) = long.1 ∙ sym other.1
same_of (what.Datagram from size) bytes now xs ys (inl long) (inr short) = absurd (omega (arith, long.0, short.0))
same_of (what.Datagram from size) bytes now xs ys (inr short) (inl long) = absurd (omega (arith, long.0, short.0))
same_of (what.Datagram from size) bytes now xs ys (inr one) (inr other) = same_arrivals from bytes now xs ys one.1 other.1
same_of (what.Opened c) bytes now xs ys one other = one ∙ sym other
same_of (what.Bytes c size) bytes now xs ys one other = one ∙ sym other
same_of (what.Ended c) bytes now xs ys one other = one ∙ sym other
same_of what.Tick bytes now xs ys one other = one ∙ sym other
same_of what.Stop bytes now xs ys one other = one ∙ sym other

pub same_requests : (moment : ℕ) (took : List EventWithBytes) (xs ys : List Arrival) → AreRequestsFrom moment took xs → AreRequestsFrom moment took ys → xs ≡ ys
same_requests moment [] xs ys one other = one ∙ sym other
same_requests moment (e ∷ es) xs ys one other =
    one.4 ∙ ap₂ (λ (x y : List Arrival). x ++ y) (same_of e.event.what e.bytes (max moment e.event.moment) one.0 other.0 one.2 other.2)
    (same_requests (max moment e.event.moment) es one.1 other.1 one.3 other.3) ∙ sym other.4
