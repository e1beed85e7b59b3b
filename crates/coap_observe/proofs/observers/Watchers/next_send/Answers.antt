-- Before the moment nothing is to be sent. Then endpoints are given up, and one message at most is sent.
use Rattle.std.proofs.Common.{◌<◌, ◌∙◌, ℕ, List, Option, None, Some, ap, subst, arith}
use Rattle.coap_observe.specs.declared.notice.Notice.{Notice}
use Rattle.coap_observe.specs.declared.observer.Observer.{Observer}
use Rattle.coap_observe.specs.Laws.{sends}
use Rattle.coap_observe.specs.Places.{Places, observers_in}
use Rattle.coap_observe.specs.Unsent.{unsent}
use Rattle.coap_observe.specs.Watching.{Watching, GivesUp, Notifies, Sends}
use Rattle.coap_observe.proofs.SendLaws.{quiet, served, sends_again, sends_first, sends_nothing}
use Rattle.coap_observe.proofs.UnsentLaws.{again_less, first_sent_less}
use Rattle.coap_observe.proofs.WatchedLaws.{seen, watched_anew, watched_goes}
use Rattle.coap_observe.proofs.observers.Watchers.next_send.Goals as goal

pub returns-then-now-self-clause-list : goal.returns-then-now-self-clause-list
returns-then-now-self-clause-list c =
    subst (λ (t : Watching). Notifies c.args.now c.args.id t.list None t.list) c.self.view_is
    (quiet c.args.now c.args.id c.self.inside.quiet_until (observers_in c.self.inside.slots) c.self.invariant (omega arith))

pub send_again-requires-clause-slot : goal.send_again-requires-clause-slot
send_again-requires-clause-slot c = (c.in-Some.ensures.0, c.in-Some.ensures.1)

pub send_again-requires-clause-served : goal.send_again-requires-clause-served
send_again-requires-clause-served c = served c.args.now c.give_up.new.slots c.in-Some.slot c.in-Some.ensures c.give_up.ensures.served

pub send_first-requires : goal.send_first-requires
send_first-requires c = (c.in-Some-sendable_slot.ensures.0, c.in-Some-sendable_slot.ensures.1)

-- one message at most was sent where endpoints were given up before
after_giving_up : (now id : ℕ) (ws us vs : List Observer) (n : Option Notice) → GivesUp now ws us → Sends now id us n vs → Notifies now id ws n vs
after_giving_up now id ws us vs n given sent = record { left = us; gives_up = given; sends = sent }

pub invariant_of-self : goal.invariant_of-self
invariant_of-self c =
    let sent = sends_again c.args.now c.args.id c.give_up.new.slots c.send_again.new.self c.in-Some.slot c.send_again.result c.in-Some.ensures c.send_again.ensures.changed c.send_again.ensures.notice in
    watched_anew (seen c.self.inside.slots) (seen c.send_again.new.self) c.self.inside.quiet_until c.self.invariant
    (sends c.args.now c.args.id (Some c.send_again.result) (ap (λ (t : Places). t.capacity) c.send_again.ensures.changed ∙ c.give_up.ensures.capacity)
    (after_giving_up c.args.now c.args.id (observers_in c.self.inside.slots) (observers_in c.give_up.new.slots) (observers_in c.send_again.new.self) (Some c.send_again.result) c.give_up.ensures.gives_up sent))

pub invariant_of-self-in-Some-sendable_slot : goal.invariant_of-self-in-Some-sendable_slot
invariant_of-self-in-Some-sendable_slot c =
    let sent = sends_first c.args.now c.args.id c.give_up.new.slots c.send_first.new.self c.in-Some-sendable_slot.free c.send_first.result c.in-None.ensures c.in-Some-sendable_slot.ensures c.send_first.ensures.changed c.send_first.ensures.notice in
    watched_anew (seen c.self.inside.slots) (seen c.send_first.new.self) c.self.inside.quiet_until c.self.invariant
    (sends c.args.now c.args.id (Some c.send_first.result) (ap (λ (t : Places). t.capacity) c.send_first.ensures.changed ∙ c.give_up.ensures.capacity)
    (after_giving_up c.args.now c.args.id (observers_in c.self.inside.slots) (observers_in c.give_up.new.slots) (observers_in c.send_first.new.self) (Some c.send_first.result) c.give_up.ensures.gives_up sent))

pub invariant_of-self-in-None-sendable_slot : goal.invariant_of-self-in-None-sendable_slot
invariant_of-self-in-None-sendable_slot c =
    let left = observers_in c.give_up.new.slots in
    watched_goes (seen c.self.inside.slots) (seen c.give_up.new.slots) c.self.inside.quiet_until c.next_due-self-inside.result c.self.invariant
    (sends c.args.now c.args.id None c.give_up.ensures.capacity
    (after_giving_up c.args.now c.args.id (observers_in c.self.inside.slots) left left None c.give_up.ensures.gives_up (sends_nothing c.args.now c.args.id left c.in-None.ensures c.in-None-sendable_slot.ensures)))
    c.next_due-self-inside.ensures
    (λ some. c.in-None-sendable_slot.ensures)

pub returns-in-Some-clause-list : goal.returns-in-Some-clause-list
returns-in-Some-clause-list c =
    let sent = sends_again c.args.now c.args.id c.give_up.new.slots c.send_again.new.self c.in-Some.slot c.send_again.result c.in-Some.ensures c.send_again.ensures.changed c.send_again.ensures.notice in
    subst (λ (t : Watching). Notifies c.args.now c.args.id t.list (Some c.send_again.result) (observers_in c.send_again.new.self)) c.self.view_is
    (after_giving_up c.args.now c.args.id (observers_in c.self.inside.slots) (observers_in c.give_up.new.slots) (observers_in c.send_again.new.self) (Some c.send_again.result) c.give_up.ensures.gives_up sent)

pub returns-in-Some-clause-less : goal.returns-in-Some-clause-less
returns-in-Some-clause-less c =
    let less = again_less c.args.now c.args.id c.give_up.new.slots c.send_again.new.self c.in-Some.slot c.in-Some.ensures c.send_again.ensures.changed c.send_again.ensures.waits in
    subst (λ (t : Watching). unsent c.args.now (observers_in c.send_again.new.self) < unsent c.args.now t.list) c.self.view_is (omega (arith, less, c.give_up.ensures.less))

pub returns-in-Some-sendable_slot-clause-list : goal.returns-in-Some-sendable_slot-clause-list
returns-in-Some-sendable_slot-clause-list c =
    let sent = sends_first c.args.now c.args.id c.give_up.new.slots c.send_first.new.self c.in-Some-sendable_slot.free c.send_first.result c.in-None.ensures c.in-Some-sendable_slot.ensures c.send_first.ensures.changed c.send_first.ensures.notice in
    subst (λ (t : Watching). Notifies c.args.now c.args.id t.list (Some c.send_first.result) (observers_in c.send_first.new.self)) c.self.view_is
    (after_giving_up c.args.now c.args.id (observers_in c.self.inside.slots) (observers_in c.give_up.new.slots) (observers_in c.send_first.new.self) (Some c.send_first.result) c.give_up.ensures.gives_up sent)

pub returns-in-Some-sendable_slot-clause-less : goal.returns-in-Some-sendable_slot-clause-less
returns-in-Some-sendable_slot-clause-less c =
    let less = first_sent_less c.args.now c.args.id c.give_up.new.slots c.send_first.new.self c.in-Some-sendable_slot.free c.in-Some-sendable_slot.ensures c.send_first.ensures.changed c.send_first.ensures.waits in
    subst (λ (t : Watching). unsent c.args.now (observers_in c.send_first.new.self) < unsent c.args.now t.list) c.self.view_is (omega (arith, less, c.give_up.ensures.less))

pub returns-in-None-sendable_slot-clause-list : goal.returns-in-None-sendable_slot-clause-list
returns-in-None-sendable_slot-clause-list c =
    let left = observers_in c.give_up.new.slots in
    subst (λ (t : Watching). Notifies c.args.now c.args.id t.list None left) c.self.view_is
    (after_giving_up c.args.now c.args.id (observers_in c.self.inside.slots) left left None c.give_up.ensures.gives_up (sends_nothing c.args.now c.args.id left c.in-None.ensures c.in-None-sendable_slot.ensures))
