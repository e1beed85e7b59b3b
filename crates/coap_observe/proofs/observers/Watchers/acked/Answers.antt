-- The notification to the slot is acknowledged. Nothing becomes due, and nothing free but of the endpoint.
use Rattle.std.proofs.Common.{◌≡◌, ◌∙◌, sym, ap, subst}
use Rattle.std.specs.List.{list_any}
use Rattle.coap_observe.specs.Places.{observers_in}
use Rattle.coap_observe.specs.Laws.{acknowledges}
use Rattle.coap_observe.specs.Watching.{Watching, is_sent_as, with_acknowledgement}
use Rattle.coap_observe.proofs.WatchedLaws.{seen, watched_anew, watched_acknowledged, few_sent, found_one, acknowledges_one, acknowledges_none}
use Rattle.coap_observe.proofs.observers.Watchers.acked.Goals as goal

pub invariant_of-self : goal.invariant_of-self
invariant_of-self c =
    watched_anew (seen c.self.inside.slots) (seen c.acknowledge.new.self) c.self.inside.quiet_until c.self.invariant
    (acknowledges c.args.from c.args.id (acknowledges_one c.args.from c.args.id c.self.inside.slots c.acknowledge.new.self c.in-Some.slot c.self.inside.quiet_until c.self.invariant c.in-Some.ensures c.acknowledge.ensures))

pub invariant_of-self-else-has_marked : goal.invariant_of-self-else-has_marked
invariant_of-self-else-has_marked c =
    watched_acknowledged c.args.from c.args.id c.self.inside.slots c.acknowledge.new.self c.in-Some.slot c.self.inside.quiet_until c.self.invariant c.in-Some.ensures c.acknowledge.ensures
    (sym c.has_marked.ensures ∙ c.if-has_marked.false)

pub returns-then-has_marked-clause-list : goal.returns-then-has_marked-clause-list
returns-then-has_marked-clause-list c =
    acknowledges_one c.args.from c.args.id c.self.inside.slots c.acknowledge.new.self c.in-Some.slot c.self.inside.quiet_until c.self.invariant c.in-Some.ensures c.acknowledge.ensures
    ∙ ap (with_acknowledgement c.args.from c.args.id) c.self.view_is

pub returns-then-has_marked-clause-found : goal.returns-then-has_marked-clause-found
returns-then-has_marked-clause-found c =
    found_one (is_sent_as c.args.from c.args.id) c.self.inside.slots c.in-Some.slot c.self.inside.quiet_until (few_sent (observers_in c.self.inside.slots) c.self.inside.quiet_until c.args.from c.args.id c.self.invariant) c.in-Some.ensures
    ∙ ap (λ (t : Watching). list_any (is_sent_as c.args.from c.args.id) t.list) c.self.view_is

pub returns-else-has_marked-clause-list : goal.returns-else-has_marked-clause-list
returns-else-has_marked-clause-list c =
    acknowledges_one c.args.from c.args.id c.self.inside.slots c.acknowledge.new.self c.in-Some.slot c.self.inside.quiet_until c.self.invariant c.in-Some.ensures c.acknowledge.ensures
    ∙ ap (with_acknowledgement c.args.from c.args.id) c.self.view_is

pub returns-else-has_marked-clause-found : goal.returns-else-has_marked-clause-found
returns-else-has_marked-clause-found c =
    found_one (is_sent_as c.args.from c.args.id) c.self.inside.slots c.in-Some.slot c.self.inside.quiet_until (few_sent (observers_in c.self.inside.slots) c.self.inside.quiet_until c.args.from c.args.id c.self.invariant) c.in-Some.ensures
    ∙ ap (λ (t : Watching). list_any (is_sent_as c.args.from c.args.id) t.list) c.self.view_is

pub returns-in-None-clause-list : goal.returns-in-None-clause-list
returns-in-None-clause-list c =
    subst (λ (t : Watching). t ≡ with_acknowledgement c.args.from c.args.id t) c.self.view_is (acknowledges_none c.args.from c.args.id c.self.inside.slots c.in-None.ensures)
