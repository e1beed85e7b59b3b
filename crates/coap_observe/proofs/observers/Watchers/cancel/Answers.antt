-- The slot of the one that passes the test is freed.
use Rattle.std.proofs.Common.{◌≡◌, ◌∙◌, ap, subst}
use Rattle.std.specs.List.{list_any}
use Rattle.coap_observe.specs.Laws.{cancels}
use Rattle.coap_observe.specs.Watching.{Watching, is_pair, without_pair}
use Rattle.coap_observe.proofs.WatchedLaws.{seen, watched_anew, found_one, cancels_one, cancels_none}
use Rattle.coap_observe.proofs.observers.Watchers.cancel.Goals as goal

pub invariant_of-self : goal.invariant_of-self
invariant_of-self c =
    watched_anew (seen c.self.inside.slots) (seen c.remove.new.self) c.self.inside.quiet_until c.self.invariant
    (cancels c.args.from c.args.token.now (cancels_one c.args.from c.args.token.now c.self.inside.slots c.remove.new.self c.in-Some.slot c.self.inside.quiet_until c.self.invariant c.in-Some.ensures c.remove.ensures))

pub returns-in-Some-clause-list : goal.returns-in-Some-clause-list
returns-in-Some-clause-list c =
    cancels_one c.args.from c.args.token.now c.self.inside.slots c.remove.new.self c.in-Some.slot c.self.inside.quiet_until c.self.invariant c.in-Some.ensures c.remove.ensures
    ∙ ap (without_pair c.args.from c.args.token.now) c.self.view_is

pub returns-in-Some-clause-found : goal.returns-in-Some-clause-found
returns-in-Some-clause-found c =
    found_one (is_pair c.args.from c.args.token.now) c.self.inside.slots c.in-Some.slot c.self.inside.quiet_until (c.self.invariant.pairs c.args.from c.args.token.now) c.in-Some.ensures
    ∙ ap (λ (t : Watching). list_any (is_pair c.args.from c.args.token.now) t.list) c.self.view_is

pub returns-in-None-clause-list : goal.returns-in-None-clause-list
returns-in-None-clause-list c =
    subst (λ (t : Watching). t ≡ without_pair c.args.from c.args.token.now t) c.self.view_is (cancels_none c.args.from c.args.token.now c.self.inside.slots c.in-None.ensures)
