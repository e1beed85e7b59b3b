-- A request that was admitted or refused, and what was done, and polls, are moves of the Thing machine.
use Rattle.std.proofs.Common.{◌≡◌, ℕ, ◌≤◌, List, [], ◌∷◌, ◌++◌, map, length, Bool, true, false, cond, refl, sym, ap, subst, ◌∙◌, arith, length-append, inl, inr}
use Rattle.std.specs.Prelude.{Some, ◌⊎◌, ◌&&◌}
use Rattle.std.specs.List.{filter}
use Rattle.std.proofs.lemmas.List.{append-nil}
use Rattle.thing_ops.specs.declared.outcome.Outcome.{Outcome}
use Rattle.thing_ops.specs.declared.outcome.Outcome.TheVariants as outcome
use Rattle.thing_ops.specs.Requests.{RequestSeen}
use Rattle.thing_handler.specs.Handler.{Seen}
use Rattle.thing_handler.specs.Turns.{HandlerCall, RackShows}
use Rattle.thing_handler.proofs.RackLaws.{rack_shows_in_order}
use Rattle.wot_terms.specs.declared.kind.Kind.TheVariants as kind
use Rattle.thing_site.specs.Site.{Placed, ExposedThing, Site, those_of, events_of, is_emitter, is_kind, of_kind, emitters_of, emitters_of_thing}
use Rattle.thing_state.specs.Course.{Course}
use Rattle.thing_state.specs.State.{Emission}
use Rattle.thing_site.specs.declared.place.ThingAct.{ThingAct}
use Rattle.thing_site.specs.Refusals.{Input, inputs_of}
use Rattle.thing_core.specs.Refusals.{act_asked, refusals, IsRefusedBy, NoneStands}
use Rattle.thing_core.specs.Thing.{only, Performs, PollsEach, Acts, refuses, has_no_memory, performs}
use Rattle.thing_core.specs.Performing.{MakesAct, MakesDone, MakesPolls, OrMemory, PollsSome}

-- the act is done
pub done_makes : (site : Site) (q : RequestSeen) (act : ThingAct) (inputs : List Input) (o : Outcome) (c d : Course) (before after : List Seen) → c.pending ≡ []
    → act_asked (record { site = site; state = c.state; request = q }) ≡ Some act → inputs_of act q.body ≡ Some inputs → NoneStands refusals (record { site = site; state = c.state; request = q })
    → MakesDone (OrMemory (Performs act q inputs)) o c d before after
    → MakesAct (record { site = site; state = c.state; pending = c.pending }) (record { site = site; state = d.state; pending = d.pending }) q o before after
done_makes site q act inputs o c d before after none asked given free k = record {
  done = k.done;
  outcome = k.outcome;
  pending = k.pending ∙ ap (λ (l : List ℕ). l ++ map (λ (e : Emission). e.target) k.done.emissions) none;
  site = refl;
  made = record {
    seen = k.made.seen;
    move = elim k.made.move as (λ _. Acts site q k.done c.state k.made.seen d.state) [
      | inl p ↦ performs act inputs free asked given p
      | inr out ↦ has_no_memory out
    ];
    shows = k.made.shows;
  };
}

-- the request is refused, or it is out of memory
pub refusal_makes : (site : Site) (q : RequestSeen) (o : Outcome) (c : Course) (slots : List Seen) → c.pending ≡ []
    → (o ≡ outcome.Memory) ⊎ IsRefusedBy refusals (record { site = site; state = c.state; request = q }) o
    → MakesAct (record { site = site; state = c.state; pending = c.pending }) (record { site = site; state = c.state; pending = c.pending }) q o slots slots
refusal_makes site q o c slots none refused = record {
  done = only o;
  outcome = refl;
  pending = none;
  site = refl;
  made = record {
    seen = [];
    move = elim refused as (λ _. Acts site q (only o) c.state [] c.state) [
      | inl out ↦ has_no_memory (ap only out, record { next = refl; saw = refl })
      | inr r ↦ refuses o r (refl, record { next = refl; saw = refl })
    ];
    shows = rack_shows_in_order.none slots;
  };
}

-- all events are polled
pub polls_made : (site : Site) (c d : Course) (before after : List Seen) → c.pending ≡ [] → PollsSome (events_of site.things) c d before after
    → MakesPolls (record { site = site; state = c.state; pending = c.pending }) (record { site = site; state = d.state; pending = d.pending }) before after
polls_made site c d before after none k =
    let last = k.leads [] in
    record {
      emissions = k.emissions;
      pending = k.pending ∙ ap (λ (l : List ℕ). l ++ map (λ (e : Emission). e.target) k.emissions) none;
      site = refl;
      made = record {
        seen = last.seen ++ [];
        move = subst (λ (ps : List Placed). PollsEach ps k.emissions c.state (last.seen ++ []) d.state) (append-nil (events_of site.things))
            (subst (λ (es : List Emission). PollsEach (events_of site.things ++ []) es c.state (last.seen ++ []) d.state) (append-nil k.emissions)
            (last.leads [] [] d.state (refl, record { next = refl; saw = refl })));
        shows = subst (λ (seen : List HandlerCall). RackShows before after seen) (sym (append-nil last.seen)) last.shows;
      };
    }

-- ---- there is room for the emissions of all events

events_few : (ps : List Placed) → length (filter (of_kind kind.Event) ps) ≤ length (filter is_emitter ps)
events_few [] = omega arith
events_few (p ∷ ps) = by_test (events_few ps) (is_kind kind.Event p.affordance.kind) (is_kind kind.Property p.affordance.kind && p.affordance.observable)
  where
    by_test : length (filter (of_kind kind.Event) ps) ≤ length (filter is_emitter ps) → (b m : Bool)
        → length (cond b (p ∷ filter (of_kind kind.Event) ps) (filter (of_kind kind.Event) ps)) ≤ length (cond (cond b true m) (p ∷ filter is_emitter ps) (filter is_emitter ps))
    by_test rest true m = omega (arith, rest)
    by_test rest false true = omega (arith, rest)
    by_test rest false false = rest

pub events_are_emitters : (site : List ExposedThing) → length (events_of site) ≤ length (emitters_of site)
events_are_emitters [] = omega arith
events_are_emitters (t ∷ site) =
    omega (
      arith,
      events_few t.affordances,
      events_are_emitters site,
      length-append (those_of kind.Event t) (events_of site),
      length-append (emitters_of_thing t) (emitters_of site),
    )
