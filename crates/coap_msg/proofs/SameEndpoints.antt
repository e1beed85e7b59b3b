-- Endpoints that are one.
use Rattle.std.proofs.Common.{◌≡◌, ℕ, ◌==◌, ◌&&◌, Bool, true, false, refl, ap, ◌∙◌}
use native.Mathlib.Omega.{arith}
use Rattle.std.proofs.lemmas.Bool.Decides.{nat_tests}
use Rattle.std.proofs.lemmas.Grind.{common_steps}
use Rattle.coap_msg.specs.declared.endpoint.Endpoint.{Endpoint}
use Rattle.coap_msg.specs.Endpoints.{is_same_endpoint}

pub both : (b c : Bool) → (b && c) ≡ true → (b ≡ true) × (c ≡ true)
both true c e = (refl, e)
both false c e = absurd (cc)

pub same_endpoint : (a b : Endpoint) → is_same_endpoint a b ≡ true → a ≡ b
same_endpoint a b e =
    let h = both (a.host == b.host) (a.port == b.port) e in
    let host : a.host ≡ b.host = let one = h.0 in grind (arith, nat_tests) in
    let port : a.port ≡ b.port = let one = h.1 in grind (arith, nat_tests) in
    let at : ℕ → ℕ → Endpoint = λ x y. record { host = x; port = y } in
    ap (λ (x : ℕ). at x a.port) host ∙ ap (λ (y : ℕ). at b.host y) port

pub itself : (a : Endpoint) → is_same_endpoint a a ≡ true
itself a = grind (arith, nat_tests, common_steps)
