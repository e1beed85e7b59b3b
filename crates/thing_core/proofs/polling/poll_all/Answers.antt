use Rattle.std.proofs.Common.{◌≡◌, ◌∙◌, ℕ, List, [], ◌∷◌, ◌++◌, length, sym, ap, subst, arith, append_assoc}
use Rattle.std.proofs.lemmas.List.{append-nil}
use Rattle.thing_handler.specs.Handler.{Seen}
use Rattle.thing_site.specs.Site.{Placed, events_of}
use Rattle.thing_state.specs.Course.{Course}
use Rattle.thing_core.specs.Rounds.{events_left}
use Rattle.thing_core.specs.Performing.{AllStand, PollsSome}
use Rattle.thing_core.proofs.PollLaws.{none_polled, polled_then}
use Rattle.thing_core.proofs.polling.poll_all.Goals as goal

pub loop-round-init : goal.loop-round-init
loop-round-init g c =
    let all = c.new-round.ensures c.args.things.now in (
      ([], all, none_polled c.args.machine.now (g.R.Handlers.slots c.args.rack.now)),
      subst (λ (ps : List Placed). AllStand (length (g.R.Handlers.slots c.args.rack.now)) ps) (sym all) c.requires.slots,
      omega (arith, ap (λ (ps : List Placed). length ps) all, c.requires.room),
    )

pub poll_next-requires-clause-slots : goal.poll_next-requires-clause-slots
poll_next-requires-clause-slots g c = c.loop-round.invariant.1

pub poll_next-requires-clause-room : goal.poll_next-requires-clause-room
poll_next-requires-clause-room g c = c.loop-round.invariant.2

pub loop-round-smaller : goal.loop-round-smaller
loop-round-smaller g c = omega (arith, ap (λ (ps : List Placed). length ps) (c.poll_next.ensures.one c.loop-round-test.true).1)

pub loop-round-preserved : goal.loop-round-preserved
loop-round-preserved g c =
    let done : List Placed = c.loop-round.invariant.0.0 in
    let one = c.poll_next.ensures.one c.loop-round-test.true in
    let rest : List Placed = events_left c.poll_next.new.round c.args.things.now in (
      (
        done ++ one.0 ∷ [],
        append_assoc done (one.0 ∷ []) rest ∙ ap (λ (ps : List Placed). done ++ ps) (sym one.1) ∙ c.loop-round.invariant.0.1,
        polled_then done (one.0 ∷ []) c.args.machine.now c.loop-round.machine c.poll_next.new.machine
            (g.R.Handlers.slots c.args.rack.now) (g.R.Handlers.slots c.loop-round.rack) (g.R.Handlers.slots c.poll_next.new.rack) c.loop-round.invariant.0.2 one.2,
      ),
      subst (λ (n : ℕ). AllStand n rest) (sym c.poll_next.ensures.slots)
          (subst (λ (ps : List Placed). AllStand (length (g.R.Handlers.slots c.loop-round.rack)) ps) one.1 c.loop-round.invariant.1).1,
      c.poll_next.ensures.room,
    )

pub returns : goal.returns
returns g c =
    let done : List Placed = c.loop-round.invariant.0.0 in
    let all : done ≡ events_of c.args.things.now =
    sym (append-nil done) ∙ ap (λ (ps : List Placed). done ++ ps) (sym (c.poll_next.ensures.none c.loop-round-test.false)) ∙ c.loop-round.invariant.0.1 in
    subst (λ (slots : List Seen). PollsSome (events_of c.args.things.now) c.args.machine.now c.poll_next.new.machine (g.R.Handlers.slots c.args.rack.now) slots)
    (sym (c.poll_next.ensures.rack c.loop-round-test.false))
    (subst (λ (m : Course). PollsSome (events_of c.args.things.now) c.args.machine.now m (g.R.Handlers.slots c.args.rack.now) (g.R.Handlers.slots c.loop-round.rack))
    (sym (c.poll_next.ensures.machine c.loop-round-test.false))
    (subst (λ (ps : List Placed). PollsSome ps c.args.machine.now c.loop-round.machine (g.R.Handlers.slots c.args.rack.now) (g.R.Handlers.slots c.loop-round.rack)) all
    c.loop-round.invariant.0.2))
