-- The slot of the pair takes the target, or a new one is used, if there is one.
use Rattle.std.proofs.Common.{sym, subst, refl}
use Rattle.coap_observe.specs.Places.{IsAdded}
use Rattle.coap_observe.specs.Laws.{registers}
use Rattle.coap_observe.specs.Watching.{Watching, Registers, newcomer}
use Rattle.coap_observe.proofs.WatchedLaws.{seen, watched_anew, replaces, adds, is_full, watched_if_room}
use Rattle.coap_observe.proofs.observers.Watchers.register.Goals as goal
use Rattle.coap_observe.proofs.observers.Watchers.register.Goals.{then-add, else-add}
use Rattle.coap_observe.specs.declared.notice.Registered.TheVariants.{Replaced}

pub invariant_of-self : goal.invariant_of-self
invariant_of-self c =
    watched_anew (seen c.self.inside.slots) (seen c.register_again.new.slots) c.self.inside.quiet_until c.self.invariant
    (registers c.args.from c.args.token.now c.args.target (Replaced c.register_again.result) refl
    (replaces c.args.from c.args.token.now c.args.target c.self.inside.slots c.register_again.new.slots c.in-Some.slot c.self.inside.quiet_until c.register_again.result
    c.self.invariant c.in-Some.ensures c.register_again.ensures.slots c.register_again.ensures.number))

pub invariant_of-self-in-None : goal.invariant_of-self-in-None
invariant_of-self-in-None c =
    watched_if_room c.args.from c.args.token.now c.args.target c.self.inside.slots c.add.new.self c.add.result c.self.inside.quiet_until c.self.invariant c.in-None.ensures c.add.ensures

pub returns-in-Some-clause-ok : goal.returns-in-Some-clause-ok
returns-in-Some-clause-ok c =
    subst (λ (t : Watching). Registers c.args.from c.args.token.now c.args.target t (Replaced c.register_again.result) (seen c.register_again.new.slots)) c.self.view_is
    (replaces c.args.from c.args.token.now c.args.target c.self.inside.slots c.register_again.new.slots c.in-Some.slot c.self.inside.quiet_until c.register_again.result
    c.self.invariant c.in-Some.ensures c.register_again.ensures.slots c.register_again.ensures.number)

pub returns-after-add-clause-ok : goal.returns-after-add-clause-ok
returns-after-add-clause-ok c =
    subst (λ (t : Watching). Registers c.args.from c.args.token.now c.args.target t c.if-add.result (seen c.add.new.self)) c.self.view_is
    (elim c.if-add.branch [
      | then-add w ↦
          subst (λ r. Registers c.args.from c.args.token.now c.args.target (seen c.self.inside.slots) r (seen c.add.new.self)) (sym w.result-is)
          (adds c.args.from c.args.token.now c.args.target c.self.inside.slots c.add.new.self c.in-None.ensures
          (subst (λ b. IsAdded (newcomer c.args.from c.args.token.now c.args.target) c.self.inside.slots b c.add.new.self) w.if-add.true c.add.ensures))
      | else-add w ↦
          subst (λ r. Registers c.args.from c.args.token.now c.args.target (seen c.self.inside.slots) r (seen c.add.new.self)) (sym w.result-is)
          (is_full c.args.from c.args.token.now c.args.target c.self.inside.slots c.add.new.self c.in-None.ensures
          (subst (λ b. IsAdded (newcomer c.args.from c.args.token.now c.args.target) c.self.inside.slots b c.add.new.self) w.if-add.false c.add.ensures))
    ])
