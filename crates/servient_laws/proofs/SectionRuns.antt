-- A run that is shown in sections keeps what whole runs promise: it is taken apart at one of its events.
use Rattle.std.proofs.Common.{◌≡◌, ◌∙◌, ◌++◌, List, [], ◌∷◌, refl, sym, ap, subst}
use Rattle.std.specs.Prelude.{All}
use Rattle.std.proofs.lemmas.List.{append-nil, append_assoc}
use Rattle.std.proofs.lemmas.List.Elements.{filter_map-append}
use Rattle.servient_base.specs.Moves.{Then}
use Rattle.thing_handler.specs.Turns.{HandlerCall}
use Rattle.servient_outside.specs.declared.net.EventWithBytes.{EventWithBytes}
use Rattle.servient_core.specs.declared.sections.SectionsEnd.{SectionsEnd}
use Rattle.servient_core.specs.declared.sections.SectionsEnd.TheVariants as ending
use Rattle.servient_trace.specs.Trace.{Sighting, call_in, calls_in}
use Rattle.servient_core.specs.Machine.{Site, State, start, EventAndStep, Run}
use Rattle.servient_trace.specs.ShownSections.{seen_in}
use Rattle.servient_core.specs.Sections.{EndsSections}
use Rattle.servient_laws.specs.Calls.{IsFit}
use Rattle.servient_laws.specs.Sections.{TakesAmong, SectionsKeepPromises}
use Rattle.servient_laws.proofs.RequestLaws.{repeats_act_once, full_tables_act_on_nothing}
use Rattle.servient_laws.proofs.RunCalls.{calls_are_fit}

-- a run over some events, one more, and others
record Apart (site : Site) (first rest : List EventWithBytes) (e : EventWithBytes) (s : State) (seen : List Sighting) (t : State) : Type 0 where
  middle : State
  next : State
  before : List Sighting
  one : List Sighting
  behind : List Sighting
  front : Run site first s before middle
  step : EventAndStep site e middle one next
  whole : seen ≡ before ++ (one ++ behind)

apart : (site : Site) (first rest : List EventWithBytes) (e : EventWithBytes) (s : State) (seen : List Sighting) (t : State) → Run site (first ++ e ∷ rest) s seen t → Apart site first rest e s seen t
apart site [] rest e s seen t run = record {
  middle = s;
  next = run.mid;
  before = [];
  one = run.first;
  behind = run.second;
  front = record { next = refl; saw = refl };
  step = run.one;
  whole = run.whole;
}
apart site (x ∷ first) rest e s seen t run =
    let later = apart site first rest e run.mid run.second t run.other in
    record {
      middle = later.middle;
      next = later.next;
      before = run.first ++ later.before;
      one = later.one;
      behind = later.behind;
      front = record { mid = run.mid; first = run.first; second = later.before; one = run.one; other = later.front; whole = refl };
      step = later.step;
      whole = run.whole ∙ ap (λ (x : List Sighting). run.first ++ x) later.whole ∙ sym (append_assoc run.first later.before (later.one ++ later.behind));
    }

-- at its end no handler is called
quiet_end : (result : SectionsEnd) (s t : State) (seen : List Sighting) → EndsSections result s seen t → calls_in seen ≡ []
quiet_end ending.Stopped s t seen end = ap calls_in end.saw
quiet_end ending.Failed s t seen end = ap calls_in end.saw
quiet_end ending.Spent s t seen end = ap calls_in end.saw

pub sections_keep_promises : SectionsKeepPromises
sections_keep_promises site bounds exchanges epoch result shown end serves = (
  subst (λ (x : List HandlerCall). All (IsFit site) x) (sym calls) (calls_are_fit site serves.took (start site exchanges epoch) run.mid run.first run.one),
  takes,
)
  where
    run : Then (Run site serves.took) (EndsSections result) (start site exchanges epoch) (seen_in shown) end
    run = serves.run

    calls : calls_in (seen_in shown) ≡ calls_in run.first
    calls =
        ap calls_in run.whole ∙ filter_map-append call_in run.first run.second
        ∙ ap (λ (x : List HandlerCall). calls_in run.first ++ x) (quiet_end result run.mid end run.second run.other) ∙ append-nil (calls_in run.first)

    takes : (first rest : List EventWithBytes) (e : EventWithBytes) → serves.took ≡ first ++ e ∷ rest → TakesAmong site exchanges epoch first e (seen_in shown)
    takes first rest e is =
        let p = apart site first rest e (start site exchanges epoch) run.first run.mid (subst (λ (x : List EventWithBytes). Run site x (start site exchanges epoch) run.first run.mid) is run.one) in
        record {
          s = p.middle;
          t = p.next;
          before = p.before;
          seen = p.one;
          behind = p.behind ++ run.second;
          whole = run.whole ∙ ap (λ (x : List Sighting). x ++ run.second) p.whole ∙ append_assoc p.before (p.one ++ p.behind) run.second
              ∙ ap (λ (x : List Sighting). p.before ++ x) (append_assoc p.one p.behind run.second);
          run = p.front;
          step = p.step;
          repeats = λ from m history requests brings is_so. repeats_act_once site exchanges epoch from m p.middle p.next e p.one
              (record { took = first; before = p.before; run = p.front; history = history; requests = requests; brings = brings; verdict_is = is_so; step = p.step });
          full = λ from m history requests brings is_so. full_tables_act_on_nothing site exchanges epoch from m p.middle p.next e p.one
              (record { took = first; before = p.before; run = p.front; history = history; requests = requests; brings = brings; verdict_is = is_so; step = p.step });
        }
