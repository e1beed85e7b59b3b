-- The slot of the one that passes the test is freed.
use Rattle.std.proofs.Common.{◌≡◌, ◌∙◌, ap, subst}
use Rattle.std.specs.List.{list_any}
use Rattle.coap_observe.specs.Places.{observers_in}
use Rattle.coap_observe.specs.Laws.{rejects}
use Rattle.coap_observe.specs.Watching.{Watching, is_sent_as, with_reset}
use Rattle.coap_observe.proofs.WatchedLaws.{seen, watched_anew, few_sent, found_one, resets_one, resets_none}
use Rattle.coap_observe.proofs.observers.Watchers.reset.Goals as goal

pub invariant_of-self : goal.invariant_of-self
invariant_of-self c =
    watched_anew (seen c.self.inside.slots) (seen c.remove.new.self) c.self.inside.quiet_until c.self.invariant
    (rejects c.args.from c.args.id (resets_one c.args.from c.args.id c.self.inside.slots c.remove.new.self c.in-Some.rejected c.self.inside.quiet_until c.self.invariant c.in-Some.ensures c.remove.ensures))

pub returns-in-Some-clause-list : goal.returns-in-Some-clause-list
returns-in-Some-clause-list c =
    resets_one c.args.from c.args.id c.self.inside.slots c.remove.new.self c.in-Some.rejected c.self.inside.quiet_until c.self.invariant c.in-Some.ensures c.remove.ensures
    ∙ ap (with_reset c.args.from c.args.id) c.self.view_is

pub returns-in-Some-clause-found : goal.returns-in-Some-clause-found
returns-in-Some-clause-found c =
    found_one (is_sent_as c.args.from c.args.id) c.self.inside.slots c.in-Some.rejected c.self.inside.quiet_until (few_sent (observers_in c.self.inside.slots) c.self.inside.quiet_until c.args.from c.args.id c.self.invariant) c.in-Some.ensures
    ∙ ap (λ (t : Watching). list_any (is_sent_as c.args.from c.args.id) t.list) c.self.view_is

pub returns-in-None-clause-list : goal.returns-in-None-clause-list
returns-in-None-clause-list c =
    subst (λ (t : Watching). t ≡ with_reset c.args.from c.args.id t) c.self.view_is (resets_none c.args.from c.args.id c.self.inside.slots c.in-None.ensures)
