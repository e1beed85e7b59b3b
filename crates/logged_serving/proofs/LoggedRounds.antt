-- The invariant of serving with a log, and how it ends.
use Rattle.std.proofs.Common.{◌≡◌, ◌≢◌, ◌∙◌, ℕ, ◌+◌, ◌≤◌, ◌<◌, List, [], ◌∷◌, ◌++◌, length, map, refl, sym, ap, subst, arith, inl, inr, length-append}
use Rattle.std.specs.List.{flat_map}
use Rattle.std.proofs.lemmas.List.{append-nil}
use Rattle.std.proofs.lemmas.List.Elements.{filter_map-append}
use Rattle.servient_base.specs.Moves.{Stays, Refines}
use Rattle.servient_base.proofs.MovesLaws.{each_more}
use Rattle.thing_handler.specs.Handler.{Seen, forgotten}
use Rattle.thing_handler.specs.Turns.{RunTurn, AreNumberedFrom, turns_in}
use Rattle.thing_site.specs.Fits.{Fits}
use Rattle.servient_outside.specs.declared.net.What.TheVariants as what
use Rattle.servient_outside.specs.declared.net.EventWithBytes.{EventWithBytes}
use Rattle.servient_outside.specs.declared.out.Put.{Put}
use Rattle.servient_outside.specs.declared.out.Put.TheVariants as put
use Rattle.servient_outside.specs.Network.{NetSeen, NetShows, heard, broke, next_event, events_in}
use Rattle.servient_outside.specs.Out.{OutSeen, OutShows}
use Rattle.servient_trace.specs.Trace.{Sighting, at_network, happened_in, calls_in, Outside, outside, Shows}
use Rattle.servient_trace.specs.ShownSections.{Shown, saw, forgot, seen_of, seen_in, shown_of, after_forgetting, ShowsInSections, section}
use Rattle.servient_trace.proofs.ShownLaws.{seen_of_shown, sections_in_order, forgotten_section}
use Rattle.servient_trace.proofs.TraceLaws.{shows_in_order, shows_at_network}
use Rattle.servient_core.specs.Machine.{Site, State, Step, EventAndStep, Run}
use Rattle.servient_core.specs.declared.layers.Layers.{Layers}
use Rattle.servient_core.specs.Serving.{StandsFor, HasNoStop}
use Rattle.servient_core.specs.Sections.{ForgetsIfDue, isnt_due, is_due}
use Rattle.servient_core.specs.declared.sections.RunBounds.{RunBounds}
use Rattle.servient_core.specs.declared.sections.TheConstants.{MOST_KEPT}
use Rattle.servient_core.proofs.PartLaws.{stands_for_some}
use Rattle.servient_core.proofs.MachineLaws.{step_keeps, run_keeps}
use Rattle.servient_core.proofs.ServingLaws.{no_stop_more}
use Rattle.servient_core.proofs.SectionLaws.{fits_forgotten, kept_after, turns_after, kept_then, in_time_then, turns_of_shown, kept_of_seen, quiet_in_time}
use Rattle.servient_core.proofs.SectionsServed.{Rounds}
use Rattle.servient_script.specs.Merging.{counts_of, HaveKept, IsMerged}
use Rattle.servient_script.specs.Merging.{turns_after as unwritten}
use Rattle.servient_script.proofs.MergeLaws.{merged_from, have_kept}
use Rattle.turn_lines.specs.Lines.{logged_turn}
use Rattle.turn_lines.proofs.Putting.{out_none, out_then}
use Rattle.logged_serving.specs.Logging.{log_from, Logs, all_written, step_unwritten, AreTakenLogged, EndsLogged, ServesLogged, answer_of}
use Rattle.logged_serving.specs.declared.serving.LoggedEnd.{LoggedEnd}
use Rattle.logged_serving.specs.declared.serving.LoggedEnd.TheVariants as logged
use Rattle.logged_serving.proofs.LogTexts.{log_more, log_forgot, log_broke, step_log}

-- ---- the turns of a step

-- what the handlers have after a step, by the numbers that were written before it
pub record IsStepped (first after : ℕ) (counts : List ℕ) (slots : List Seen) : Type 0 where
  pub kept : HaveKept counts slots
  pub turns : List RunTurn
  pub merged : IsMerged first (unwritten counts slots) turns
  pub length_is : after ≡ first + length turns

pub is_stepped : (site : Site) (d f : Layers) (m : NetSeen) (slots : List Seen) (u : Outside) (e : EventWithBytes) (counts : List ℕ) (first after : ℕ) → Refines StandsFor Shows (Step site e) d f (outside m slots) u → counts ≡ counts_of slots
    → first ≡ d.exposed.state.turns → after ≡ f.exposed.state.turns → IsStepped first after counts u.slots
is_stepped site d f m slots u e counts first after step counted first_is after_is =
    let some = stands_for_some d in
    let stepped = step some.0 some.1 in
    let one = stepped.2 in
    let keeps = step_keeps site e some.0 one.seen stepped.0 one.move in
    let same : some.0.thing.turns ≡ first = ap (λ x. x.turns) some.1.thing ∙ sym first_is in
    record {
      kept = have_kept (calls_in one.seen) slots u.slots counts counted one.shows.rack;
      turns = turns_in (calls_in one.seen);
      merged = merged_from first (calls_in one.seen) slots u.slots counts (unwritten counts u.slots) counted refl one.shows.rack
          (subst (λ (n : ℕ). AreNumberedFrom n (turns_in (calls_in one.seen))) same keeps.numbered);
      length_is = omega (arith, keeps.count, same, after_is, ap (λ x. x.turns) stepped.1.thing);
    }

-- the lines of its turns were written so
abbrev pub WritesStep : ℕ → ℕ → ℕ → List ℕ → List Seen → OutSeen → OutSeen → Put → Type 0
WritesStep moment first after counts slots out out_now answer =
    (turns : List RunTurn) → IsMerged first (unwritten counts slots) turns → after ≡ first + length turns → OutShows out out_now answer (flat_map (logged_turn moment) turns)

-- ---- the invariant

-- A run over these events, whose lines were all written.
pub record LoggedRounds (site : Site) (most : ℕ) (took : List EventWithBytes) (due : ℕ) (out out_now : OutSeen) (s : State) (shown : List Shown) (t : State) : Type 0 where
  pub rounds : Rounds site most took due s shown t
  pub wrote : OutShows out out_now put.Done (log_from 0 shown)

-- the invariant before each event
pub record Goes (most : ℕ) (c d : Layers) (w v : Outside) (out out_now : OutSeen) (count due : ℕ) : Type 0 where
  pub took : List EventWithBytes
  pub rounds : Refines StandsFor ShowsInSections (LoggedRounds c.exposed.site most took due out out_now) c d w v
  pub count_is : length took ≡ count
  pub going : HasNoStop took
  pub site : d.exposed.site ≡ c.exposed.site
  pub fits : Fits d.exposed.site v.slots

-- before the first event
pub goes_none : (most : ℕ) (c : Layers) (w : Outside) (out : OutSeen) (due : ℕ) → Fits c.exposed.site w.slots → due ≡ c.exposed.state.turns + MOST_KEPT → Goes most c c w w out out 0 due
goes_none most c w out due fits first = record {
  took = [];
  rounds = λ s stands. (
    s,
    stands,
    record {
      seen = [];
      move = record {
        rounds = record { run = record { next = refl; saw = refl }; in_time = tt; kept = omega (arith, first, ap (λ x. x.turns) stands.thing) };
        wrote = out_none out;
      };
      shows = sections_in_order.none w;
    },
  );
  count_is = refl;
  going = tt;
  site = refl;
  fits = fits;
}

-- the handlers forgot
goes_forgotten : (most : ℕ) (c d : Layers) (w : Outside) (net : NetSeen) (slots after : List Seen) (out out_now : OutSeen) (count due turns later : ℕ) → Goes most c d w (outside net slots) out out_now count due → turns ≡ d.exposed.state.turns → due ≤ turns → later ≡ turns + MOST_KEPT → after ≡ map forgotten slots → Goes most c d w (outside net after) out out_now count later
goes_forgotten most c d w net slots after out out_now count due turns later e turns_are late next forgot_all = record {
  took = e.took;
  rounds = λ s stands.
      let before = e.rounds s stands in
      let t = before.0 in
      let stands_t = before.1 in
      let made = before.2 in
      let same : t.thing.turns ≡ turns = ap (λ x. x.turns) stands_t.thing ∙ sym turns_are in (
        t,
        stands_t,
        record {
          seen = made.seen ++ forgot ∷ [];
          move = record {
            rounds = record {
              run = subst (λ (x : List Sighting). Run c.exposed.site e.took s x t) (sym (filter_map-append seen_of made.seen (forgot ∷ []) ∙ append-nil (seen_in made.seen))) made.move.rounds.run;
              in_time = in_time_then most made.seen (forgot ∷ []) 0 s.thing.turns made.move.rounds.in_time (omega (arith, made.move.rounds.kept, late, same), tt);
              kept = omega (arith, kept_then made.seen (forgot ∷ []) 0, next, same);
            };
            wrote = subst (λ (x : List ℕ). OutShows out out_now put.Done x) (sym (log_forgot 0 made.seen)) made.move.wrote;
          };
          shows = subst (λ (x : List Seen). ShowsInSections w (outside net x) (made.seen ++ forgot ∷ [])) (sym forgot_all)
              (sections_in_order.more w (outside net slots) (after_forgetting (outside net slots)) made.seen (forgot ∷ []) made.shows (forgotten_section (outside net slots)));
        },
      );
  count_is = e.count_is;
  going = e.going;
  site = e.site;
  fits = subst (λ (x : List Seen). Fits d.exposed.site x) (sym forgot_all) (fits_forgotten d.exposed.site slots e.fits);
}

-- the handlers forgot if that was due
pub goes_checked : (most : ℕ) (c d : Layers) (w : Outside) (net : NetSeen) (slots after : List Seen) (out out_now : OutSeen) (count due turns later : ℕ) → Goes most c d w (outside net slots) out out_now count due → turns ≡ d.exposed.state.turns → ForgetsIfDue turns due later slots after → Goes most c d w (outside net after) out out_now count later
goes_checked most c d w net slots after out out_now count due turns later e are (isnt_due early same stays) =
    subst (λ (k : ℕ). Goes most c d w (outside net after) out out_now count k) (sym same) (subst (λ (x : List Seen). Goes most c d w (outside net x) out out_now count due) (sym stays) e)
goes_checked most c d w net slots after out out_now count due turns later e are (is_due late next forgot_all) =
    goes_forgotten most c d w net slots after out out_now count due turns later e are late next forgot_all

-- a run, one more event and its step, of whose lines a write may have failed
pub record OneMore (site : Site) (most : ℕ) (took : List EventWithBytes) (due : ℕ) (e : EventWithBytes) (out middle out_now : OutSeen) (answer : Put) (s : State) (shown : List Shown) (t : State) : Type 0 where
  pub rounds : Rounds site most (took ++ e ∷ []) due s shown t
  pub first : List Shown
  pub step : List Sighting
  pub whole : shown ≡ first ++ shown_of (at_network (heard e) ∷ step)
  pub quiet : events_in (happened_in step) ≡ []
  pub before : OutShows out middle put.Done (log_from 0 first)
  pub of_step : OutShows middle out_now answer (log_from e.event.moment (shown_of step))

-- an event came while fewer turns were kept and numbers were left, its step was made, and its lines were written or not
rounds_more : (most : ℕ) (c d f : Layers) (w : Outside) (n m : NetSeen) (slots : List Seen) (u : Outside) (out middle out_now : OutSeen) (answer : Put) (count due first after moment : ℕ) (counts : List ℕ) (e : EventWithBytes) (p : Goes most c d w (outside n slots) out middle count due) → d.exposed.state.turns < due → d.exposed.state.turns < most
    → NetShows n m (heard e ∷ []) → Refines StandsFor Shows (Step d.exposed.site e) d f (outside m slots) u → counts ≡ counts_of slots → first ≡ d.exposed.state.turns → after ≡ f.exposed.state.turns → moment ≡ e.event.moment
    → WritesStep moment first after counts u.slots middle out_now answer
    → Refines StandsFor ShowsInSections (OneMore c.exposed.site most p.took due e out middle out_now answer) c f w u
rounds_more most c d f w n m slots u out middle out_now answer count due first after moment counts e p early left comes step counted first_is after_is at writes = λ s stands.
    let before = p.rounds s stands in
    let t = before.0 in
    let stands_t = before.1 in
    let made = before.2 in
    let stepped = subst (λ (x : Site). Refines StandsFor Shows (Step x e) d f (outside m slots) u) p.site step t stands_t in
    let v = stepped.0 in
    let one = stepped.2 in
    let same : t.thing.turns ≡ d.exposed.state.turns = ap (λ x. x.turns) stands_t.thing in
    let keeps = step_keeps c.exposed.site e t one.seen v one.move in
    let ran = run_keeps c.exposed.site p.took s (seen_in made.seen) t made.move.rounds.run in
    let more : List Sighting = at_network (heard e) ∷ one.seen in
    let joined : seen_in (made.seen ++ shown_of more) ≡ seen_in made.seen ++ more =
    filter_map-append seen_of made.seen (shown_of more) ∙ ap (λ x. seen_in made.seen ++ x) (seen_of_shown more) in
    let numbers : t.thing.turns ≡ first = same ∙ sym first_is in
    let merged : IsMerged first (unwritten counts u.slots) (turns_in (calls_in one.seen)) =
    merged_from first (calls_in one.seen) slots u.slots counts (unwritten counts u.slots) counted refl one.shows.rack
    (subst (λ (k : ℕ). AreNumberedFrom k (turns_in (calls_in one.seen))) numbers keeps.numbered) in
    let lines = writes (turns_in (calls_in one.seen)) merged (omega (arith, keeps.count, numbers, after_is, ap (λ x. x.turns) stepped.1.thing)) in (
      v,
      stepped.1,
      record {
        seen = made.seen ++ shown_of more;
        move = record {
          rounds = record {
            run = subst (λ (x : List Sighting). Run c.exposed.site (p.took ++ e ∷ []) s x v) (sym joined)
                (each_more (EventAndStep c.exposed.site) p.took e s t v (seen_in made.seen) more made.move.rounds.run
                (record { mid = t; first = at_network (heard e) ∷ []; second = one.seen; one = record { next = refl; saw = refl }; other = one.move; whole = refl }));
            in_time = in_time_then most made.seen (shown_of more) 0 s.thing.turns made.move.rounds.in_time (
              omega (arith, made.move.rounds.kept, early, same),
              omega (arith, turns_of_shown made.seen s.thing.turns, ran.count, same, left),
              quiet_in_time most one.seen (kept_after 0 made.seen) (turns_after s.thing.turns made.seen) keeps.hears,
            );
            kept = omega (arith, kept_then made.seen (shown_of more) 0, kept_of_seen one.seen (kept_after 0 made.seen), made.move.rounds.kept, keeps.count);
          };
          first = made.seen;
          step = one.seen;
          whole = refl;
          quiet = keeps.hears;
          before = made.move.wrote;
          of_step = subst (λ (x : List ℕ). OutShows middle out_now answer x) (sym (step_log e.event.moment one.seen keeps.hears))
              (subst (λ (k : ℕ). OutShows middle out_now answer (flat_map (logged_turn k) (turns_in (calls_in one.seen)))) at lines);
        };
        shows = sections_in_order.more w (outside n slots) u made.seen (shown_of more) made.shows
            (section (outside n slots) u (shown_of more) more refl
            (shows_in_order.more (outside n slots) (outside m slots) u (at_network (heard e) ∷ []) one.seen (shows_at_network n m slots (heard e) comes) one.shows));
      },
    )

-- all its lines were written
one_written : (site : Site) (most : ℕ) (took : List EventWithBytes) (due : ℕ) (e : EventWithBytes) (out middle out_now : OutSeen) (answer : Put) (s : State) (shown : List Shown) (t : State) → answer ≡ put.Done → OneMore site most took due e out middle out_now answer s shown t
    → OutShows out out_now put.Done (log_from 0 shown)
one_written site most took due e out middle out_now answer s shown t done one =
    subst (λ (x : List Shown). OutShows out out_now put.Done (log_from 0 x)) (sym one.whole)
    (subst (λ (x : List ℕ). OutShows out out_now put.Done x) (sym (log_more 0 one.first e one.step))
    (out_then out middle out_now put.Done (log_from 0 one.first) (log_from e.event.moment (shown_of one.step)) one.before (subst (λ (x : Put). OutShows middle out_now x (log_from e.event.moment (shown_of one.step))) done one.of_step)))

-- an event was taken that is no stop, and its lines were written
pub goes_more : (most : ℕ) (c d f : Layers) (w : Outside) (n m : NetSeen) (slots : List Seen) (u : Outside) (out middle out_now : OutSeen) (answer : Put) (count due first after moment : ℕ) (counts : List ℕ) (e : EventWithBytes) (p : Goes most c d w (outside n slots) out middle count due) → d.exposed.state.turns < due → d.exposed.state.turns < most
    → NetShows n m (heard e ∷ []) → Refines StandsFor Shows (Step d.exposed.site e) d f (outside m slots) u → counts ≡ counts_of slots → first ≡ d.exposed.state.turns → after ≡ f.exposed.state.turns → moment ≡ e.event.moment
    → WritesStep moment first after counts u.slots middle out_now answer → answer ≡ put.Done
    → f.exposed.site ≡ d.exposed.site → Fits f.exposed.site u.slots → e.event.what ≢ what.Stop → Goes most c f w u out out_now (count + 1) due
goes_more most c d f w n m slots u out middle out_now answer count due first after moment counts e p early left comes step counted first_is after_is at writes done same fits goes = record {
  took = p.took ++ e ∷ [];
  rounds = λ s stands.
      let it = rounds_more most c d f w n m slots u out middle out_now answer count due first after moment counts e p early left comes step counted first_is after_is at writes s stands in (
        it.0,
        it.1,
        record {
          seen = it.2.seen;
          move = record { rounds = it.2.move.rounds; wrote = one_written c.exposed.site most p.took due e out middle out_now answer s it.2.seen it.0 done it.2.move };
          shows = it.2.shows;
        },
      );
  count_is = omega (arith, length-append p.took (e ∷ []), p.count_is);
  going = no_stop_more p.took e p.going goes;
  site = same ∙ p.site;
  fits = fits;
}

-- ---- ends

-- nothing more happens after some rounds
ends_quietly : (site : Site) (bounds : RunBounds) (result : LoggedEnd) (took : List EventWithBytes) (due : ℕ) (out out_now : OutSeen) (s t : State) (shown : List Shown) → EndsLogged result t ≡ Stays t → AreTakenLogged bounds t.thing.turns took result → Rounds site bounds.turns took due s shown t → Logs out out_now shown result → ServesLogged site bounds out out_now result s shown t
ends_quietly site bounds result took due out out_now s t shown quiet taken rounds logs = record {
  ran = record {
    took = took;
    run = record {
      mid = t;
      first = seen_in shown;
      second = [];
      one = rounds.run;
      other = subst (λ (P : List Sighting → State → Type 0). P [] t) (sym quiet) (record { next = refl; saw = refl });
      whole = sym (append-nil (seen_in shown));
    };
    taken = taken;
    in_time = rounds.in_time;
  };
  wrote = logs;
}

-- a stop was taken, and its lines were written
pub logged_stopped : (c d f : Layers) (w : Outside) (n m : NetSeen) (slots : List Seen) (u : Outside) (bounds : RunBounds) (out middle out_now : OutSeen) (answer : Put) (count due first after moment : ℕ) (counts : List ℕ) (e : EventWithBytes) → Goes bounds.turns c d w (outside n slots) out middle count due → count < bounds.events → d.exposed.state.turns < due → d.exposed.state.turns < bounds.turns
    → NetShows n m (heard e ∷ []) → Refines StandsFor Shows (Step d.exposed.site e) d f (outside m slots) u → counts ≡ counts_of slots → first ≡ d.exposed.state.turns → after ≡ f.exposed.state.turns → moment ≡ e.event.moment
    → WritesStep moment first after counts u.slots middle out_now answer → answer ≡ put.Done → e.event.what ≡ what.Stop
    → Refines StandsFor ShowsInSections (ServesLogged c.exposed.site bounds out out_now logged.Stopped) c f w u
logged_stopped c d f w n m slots u bounds out middle out_now answer count due first after moment counts e p below early left comes step counted first_is after_is at writes done stops = λ s stands.
    let it = rounds_more bounds.turns c d f w n m slots u out middle out_now answer count due first after moment counts e p early left comes step counted first_is after_is at writes s stands in (
      it.0,
      it.1,
      record {
        seen = it.2.seen;
        move = ends_quietly c.exposed.site bounds logged.Stopped (p.took ++ e ∷ []) due out out_now s it.0 it.2.seen refl
            (p.took, e, refl, stops, p.going, omega (arith, length-append p.took (e ∷ []), p.count_is, below)) it.2.move.rounds
            (all_written (λ isnt. cc) (one_written c.exposed.site bounds.turns p.took due e out middle out_now answer s it.2.seen it.0 done it.2.move));
        shows = it.2.shows;
      },
    )

-- a write failed
pub logged_unwritten : (c d f : Layers) (w : Outside) (n m : NetSeen) (slots : List Seen) (u : Outside) (bounds : RunBounds) (out middle out_now : OutSeen) (answer : Put) (count due first after moment : ℕ) (counts : List ℕ) (e : EventWithBytes) → Goes bounds.turns c d w (outside n slots) out middle count due → count < bounds.events → d.exposed.state.turns < due → d.exposed.state.turns < bounds.turns
    → NetShows n m (heard e ∷ []) → Refines StandsFor Shows (Step d.exposed.site e) d f (outside m slots) u → counts ≡ counts_of slots → first ≡ d.exposed.state.turns → after ≡ f.exposed.state.turns → moment ≡ e.event.moment
    → WritesStep moment first after counts u.slots middle out_now answer → answer ≡ put.Failed
    → Refines StandsFor ShowsInSections (ServesLogged c.exposed.site bounds out out_now logged.Unwritten) c f w u
logged_unwritten c d f w n m slots u bounds out middle out_now answer count due first after moment counts e p below early left comes step counted first_is after_is at writes failed = λ s stands.
    let it = rounds_more bounds.turns c d f w n m slots u out middle out_now answer count due first after moment counts e p early left comes step counted first_is after_is at writes s stands in
    let one = it.2.move in (
      it.0,
      it.1,
      record {
        seen = it.2.seen;
        move = ends_quietly c.exposed.site bounds logged.Unwritten (p.took ++ e ∷ []) due out out_now s it.0 it.2.seen refl
            (p.took, e, refl, p.going, omega (arith, length-append p.took (e ∷ []), p.count_is, below)) one.rounds
            (step_unwritten one.first e one.step middle refl one.whole one.quiet one.before (subst (λ (x : Put). OutShows middle out_now x (log_from e.event.moment (shown_of one.step))) failed one.of_step));
        shows = it.2.shows;
      },
    )

-- one of the bounds was reached
logged_spent : (c d : Layers) (w v : Outside) (bounds : RunBounds) (out out_now : OutSeen) (count due : ℕ) (p : Goes bounds.turns c d w v out out_now count due) → ((t : State) → StandsFor d t → AreTakenLogged bounds t.thing.turns p.took logged.Spent)
    → Refines StandsFor ShowsInSections (ServesLogged c.exposed.site bounds out out_now logged.Spent) c d w v
logged_spent c d w v bounds out out_now count due p taken = λ s stands.
    let it = p.rounds s stands in (
      it.0,
      it.1,
      record {
        seen = it.2.seen;
        move = ends_quietly c.exposed.site bounds logged.Spent p.took due out out_now s it.0 it.2.seen refl (taken it.0 it.1) it.2.move.rounds (all_written (λ isnt. cc) it.2.move.wrote);
        shows = it.2.shows;
      },
    )

pub logged_numbered : (c d : Layers) (w v : Outside) (bounds : RunBounds) (out out_now : OutSeen) (count due : ℕ) → Goes bounds.turns c d w v out out_now count due → bounds.turns ≤ d.exposed.state.turns → Refines StandsFor ShowsInSections (ServesLogged c.exposed.site bounds out out_now logged.Spent) c d w v
logged_numbered c d w v bounds out out_now count due p all =
    logged_spent c d w v bounds out out_now count due p (λ t stands. (p.going, inl (omega (arith, ap (λ x. x.turns) stands.thing, all))))

pub logged_counted : (c d : Layers) (w v : Outside) (bounds : RunBounds) (out out_now : OutSeen) (count due : ℕ) → Goes bounds.turns c d w v out out_now count due → count ≡ bounds.events → Refines StandsFor ShowsInSections (ServesLogged c.exposed.site bounds out out_now logged.Spent) c d w v
logged_counted c d w v bounds out out_now count due p all =
    logged_spent c d w v bounds out out_now count due p (λ t stands. (p.going, inr (p.count_is ∙ all)))

-- the network failed
pub logged_failed : (c d : Layers) (w : Outside) (n m : NetSeen) (slots : List Seen) (bounds : RunBounds) (out out_now : OutSeen) (count due : ℕ) → Goes bounds.turns c d w (outside n slots) out out_now count due → count < bounds.events → NetShows n m (broke next_event ∷ []) → Refines StandsFor ShowsInSections (ServesLogged c.exposed.site bounds out out_now logged.Failed) c d w (outside m slots)
logged_failed c d w n m slots bounds out out_now count due p below breaks = λ s stands.
    let before = p.rounds s stands in
    let t = before.0 in
    let made = before.2 in
    let last : List Shown = saw (at_network (broke next_event)) ∷ [] in (
      t,
      before.1,
      record {
        seen = made.seen ++ last;
        move = record {
          ran = record {
            took = p.took;
            run = record {
              mid = t;
              first = seen_in made.seen;
              second = at_network (broke next_event) ∷ [];
              one = made.move.rounds.run;
              other = record { next = refl; saw = refl };
              whole = filter_map-append seen_of made.seen last;
            };
            taken = (p.going, omega (arith, p.count_is, below));
            in_time = in_time_then bounds.turns made.seen last 0 s.thing.turns made.move.rounds.in_time tt;
          };
          wrote = all_written (λ isnt. cc) (subst (λ (x : List ℕ). OutShows out out_now put.Done x) (sym (log_broke 0 made.seen next_event)) made.move.wrote);
        };
        shows = sections_in_order.more w (outside n slots) (outside m slots) made.seen last made.shows
            (section (outside n slots) (outside m slots) last (at_network (broke next_event) ∷ []) refl (shows_at_network n m slots (broke next_event) breaks));
      },
    )

-- ---- what was written, as one text

-- the whole text of a run's lines was written, or a beginning of it
pub logs_shown : (out out_now : OutSeen) (shown : List Shown) (result : LoggedEnd) → Logs out out_now shown result → OutShows out out_now (answer_of result) (log_from 0 shown)
logs_shown out out_now shown logged.Stopped (all_written isnt wrote) = wrote
logs_shown out out_now shown logged.Failed (all_written isnt wrote) = wrote
logs_shown out out_now shown logged.Spent (all_written isnt wrote) = wrote
logs_shown out out_now shown logged.Unwritten (all_written isnt wrote) = absurd (isnt refl)
logs_shown out out_now shown logged.Stopped (step_unwritten first e step middle is whole quiet before failed) = absurd cc
logs_shown out out_now shown logged.Failed (step_unwritten first e step middle is whole quiet before failed) = absurd cc
logs_shown out out_now shown logged.Spent (step_unwritten first e step middle is whole quiet before failed) = absurd cc
logs_shown out out_now shown logged.Unwritten (step_unwritten first e step middle is whole quiet before failed) =
    subst (λ (x : List Shown). OutShows out out_now put.Failed (log_from 0 x)) (sym whole)
    (subst (λ (x : List ℕ). OutShows out out_now put.Failed x) (sym (log_more 0 first e step)) (out_then out middle out_now put.Failed (log_from 0 first) (log_from e.event.moment (shown_of step)) before failed))

-- a write that didn't fail was done
pub well_written : (p : Put) → ¬ (p ≡ put.Failed) → p ≡ put.Done
well_written put.Done isnt = refl
well_written put.Failed isnt = absurd (isnt refl)
