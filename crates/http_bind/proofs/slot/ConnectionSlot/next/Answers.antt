use Rattle.std.proofs.Common.{ap, ◌∙◌, arith, ◌≡◌, take, drop, length, ◌-◌, ℕ, List, sym}
use Rattle.std.proofs.lemmas.List.{take_rest}
use Rattle.http_wire.specs.Heads.{skipped}
use Rattle.http_bind.proofs.SlotViews.{left_of, front_taken, front_passed}
use Rattle.http_bind.proofs.slot.ConnectionSlot.next.Goals as goal

pub returns-else-is_some : goal.returns-else-is_some
returns-else-is_some c =
    let items = c.self.inside.bytes.items in
    let state = c.in-Some.state in
    let from = λ (start : ℕ) (xs : List ℕ). take (length xs - start) (drop start xs) in
    let skips = c.skip_pairs-rest.ensures.ok ∙ ap (λ (xs : List ℕ). skipped (from c.self.inside.start xs)) c.deref.ensures.value ∙ ap skipped (take_rest items c.self.inside.start) in
    let left = left_of items c.self.inside.start c.skip_pairs-rest.result.now c.self.invariant.start skips in
    let start : ℕ = c.len.result - length c.skip_pairs-rest.result.now in
    let place : c.len.result - length c.skip_pairs-rest.result.now ≡ length c.self.inside.bytes.items - length c.skip_pairs-rest.result.now =
    omega (arith, c.len.ensures, c.self.inside.bytes.ok.0) in
    front_passed (drop c.self.inside.start items) c.self.inside.state state c.args.self.now c.pass.new.self c.look-found.result c.look-found.new.room c.self.view_is c.in-Some.is (sym c.is_some.ensures ∙ c.if-is_some.false)
    (front_taken items c.self.inside.start start c.skip_pairs-rest.result.now (from start c.deref-in-Some.result.now) c.self.inside.state state
    c.args.self.now c.pass.new.self c.look-found.result c.look-found.new.room c.self.view_is c.in-Some.is skips (ap (λ (n : ℕ). drop n items) place ∙ left.is)
    (ap (from start) c.deref-in-Some.ensures.value ∙ take_rest items start)
    c.look-found.ensures.shows
    c.look-found.ensures.within c.pass.ensures)
