-- The place that a body takes.
use Rattle.std.proofs.Common.{◌≡◌, ◌-◌, ◌≤◌, ℕ, List, [], ◌∷◌, ◌++◌, drop, remove, length, Option, Some, None, ap, sym, ◌∙◌, arith}
use Rattle.std.specs.List.{position}
use Rattle.std.proofs.lemmas.List.Edits.{length-remove}
use Rattle.std.proofs.lemmas.List.Quantifiers.{position-Some}
use Rattle.coap_msg.specs.declared.endpoint.Endpoint.{Endpoint}
use Rattle.coap_blocks.specs.Bodies.{Body, is_body_of, last, without_place, other_bodies, with_body}
use Rattle.coap_blocks.proofs.Lists.{last_is_all, last_push}

-- any body, which std's lemmas read past the end of a list
pub any_body : Body
any_body = record { from = record { host = 0; port = 0 }; path = []; content = record { code = 0; format = None; tag = None; bytes = [] }; moment = 0 }

-- where a body of the endpoint and the path is kept, that one goes
pub own_goes : (from : Endpoint) (path : List (List ℕ)) (bodies : List Body) (place : ℕ) → Some place ≡ position (is_body_of from path) bodies → length bodies ≤ 16
    → remove bodies place ≡ last 15 (other_bodies from path bodies)
own_goes from path bodies place e few =
    let at = position-Some (is_body_of from path) bodies place any_body (sym e) in
    sym (last_is_all 15 (remove bodies place) (omega (arith, few, length-remove bodies place at.0)))
    ∙ ap (λ (o : Option ℕ). last 15 (without_place o bodies)) e

-- where none is, all are others
pub all_others : (from : Endpoint) (path : List (List ℕ)) (bodies : List Body) → None ≡ position (is_body_of from path) bodies → bodies ≡ other_bodies from path bodies
all_others from path bodies e = ap (λ (o : Option ℕ). without_place o bodies) e

-- of 16 the oldest goes
pub oldest_goes : (bodies : List Body) → length bodies ≡ 16 → remove bodies 0 ≡ last 15 bodies
oldest_goes bodies count = let one : length bodies - 15 ≡ 1 = omega (arith, count) in sym (ap (λ (k : ℕ). drop k bodies) one)

-- a body that is put is the last
pub put_last : (b : Body) (bodies kept : List Body) → kept ≡ last 15 (other_bodies b.from b.path bodies) → kept ++ b ∷ [] ≡ with_body b bodies
put_last b bodies kept e = ap (λ (l : List Body). l ++ b ∷ []) e ∙ sym (last_push 15 (other_bodies b.from b.path bodies) b)
