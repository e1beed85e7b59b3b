-- The invariant of serving in sections, and how it ends.
use Rattle.std.proofs.Common.{◌≡◌, ◌≢◌, ℕ, ◌+◌, ◌≤◌, ◌<◌, ◌⊎◌, List, [], ◌∷◌, ◌++◌, length, map, refl, sym, ap, subst, ◌∙◌, arith, inl, inr, length-append}
use Rattle.std.proofs.lemmas.List.{append-nil}
use Rattle.std.proofs.lemmas.List.Elements.{filter_map-append}
use Rattle.servient_base.specs.Moves.{Becomes, Stays, Then, Makes, Refines}
use Rattle.servient_base.proofs.MovesLaws.{each_more}
use Rattle.thing_handler.specs.Handler.{Seen, forgotten}
use Rattle.thing_handler.specs.Turns.{turns_in}
use Rattle.thing_site.specs.Fits.{Fits}
use Rattle.servient_outside.specs.declared.net.What.TheVariants as what
use Rattle.servient_outside.specs.declared.net.EventWithBytes.{EventWithBytes}
use Rattle.servient_outside.specs.Network.{NetSeen, NetShows, heard, broke, next_event}
use Rattle.servient_trace.specs.Trace.{Sighting, at_network, calls_in, Outside, outside, Shows}
use Rattle.servient_core.specs.Machine.{Site, State, Step, EventAndStep, Run}
use Rattle.servient_core.specs.Keeping.{Comes}
use Rattle.servient_core.specs.declared.layers.Layers.{Layers}
use Rattle.servient_core.specs.Serving.{StandsFor, HasNoStop}
use Rattle.servient_trace.specs.ShownSections.{Shown, saw, forgot, seen_of, seen_in, shown_of, after_forgetting, ShowsInSections, section}
use Rattle.servient_core.specs.Sections.{IsInTime, ForgetsIfDue, isnt_due, is_due, AreTakenInSections, EndsSections, ServesInSections}
use Rattle.servient_core.specs.declared.sections.RunBounds.{RunBounds}
use Rattle.servient_core.specs.declared.sections.SectionsEnd.{SectionsEnd}
use Rattle.servient_core.specs.declared.sections.SectionsEnd.TheVariants as ending
use Rattle.servient_core.specs.declared.sections.TheConstants.{MOST_KEPT}
use Rattle.servient_core.proofs.MachineLaws.{step_keeps, run_keeps}
use Rattle.servient_core.proofs.ServingLaws.{no_stop_more}
use Rattle.servient_trace.proofs.ShownLaws.{seen_of_shown, sections_in_order, forgotten_section}
use Rattle.servient_core.proofs.SectionLaws.{fits_forgotten, kept_after, turns_after, kept_then, in_time_then, turns_of_shown, kept_of_seen, quiet_in_time}
use Rattle.servient_trace.proofs.TraceLaws.{shows_in_order, shows_at_network}

-- A run over these events, in which the handlers forget in time, and next once the run has `due` turns.
pub record Rounds (site : Site) (most : ℕ) (took : List EventWithBytes) (due : ℕ) (s : State) (shown : List Shown) (t : State) : Type 0 where
  pub run : Run site took s (seen_in shown) t
  pub in_time : IsInTime most 0 s.thing.turns shown
  pub kept : kept_after 0 shown + due ≡ t.thing.turns + MOST_KEPT

-- the invariant before each round
pub record Endures (most : ℕ) (c d : Layers) (w v : Outside) (count due : ℕ) : Type 0 where
  pub took : List EventWithBytes
  pub rounds : Refines StandsFor ShowsInSections (Rounds c.exposed.site most took due) c d w v
  pub count_is : length took ≡ count
  pub going : HasNoStop took
  pub site : d.exposed.site ≡ c.exposed.site
  pub fits : Fits d.exposed.site v.slots

-- before the first event
pub endures_none : (most : ℕ) (c : Layers) (w : Outside) (due : ℕ) → Fits c.exposed.site w.slots → due ≡ c.exposed.state.turns + MOST_KEPT → Endures most c c w w 0 due
endures_none most c w due fits first = record {
  took = [];
  rounds = λ s stands. (
    s,
    stands,
    record {
      seen = [];
      move = record { run = record { next = refl; saw = refl }; in_time = tt; kept = omega (arith, first, ap (λ x. x.turns) stands.thing) };
      shows = sections_in_order.none w;
    },
  );
  count_is = refl;
  going = tt;
  site = refl;
  fits = fits;
}

-- the handlers forgot
pub endures_forgotten : (most : ℕ) (c d : Layers) (w : Outside) (net : NetSeen) (slots after : List Seen) (count due turns later : ℕ) → Endures most c d w (outside net slots) count due → turns ≡ d.exposed.state.turns → due ≤ turns → later ≡ turns + MOST_KEPT → after ≡ map forgotten slots → Endures most c d w (outside net after) count later
endures_forgotten most c d w net slots after count due turns later e turns_are late next forgot_all = record {
  took = e.took;
  rounds = λ s stands.
      let before = e.rounds s stands in
      let t = before.0 in
      let stands_t = before.1 in
      let made = before.2 in
      let same : t.thing.turns ≡ turns = ap (λ x. x.turns) stands_t.thing ∙ sym turns_are in (
        t,
        stands_t,
        record {
          seen = made.seen ++ forgot ∷ [];
          move = record {
            run = subst (λ (x : List Sighting). Run c.exposed.site e.took s x t) (sym (filter_map-append seen_of made.seen (forgot ∷ []) ∙ append-nil (seen_in made.seen))) made.move.run;
            in_time = in_time_then most made.seen (forgot ∷ []) 0 s.thing.turns made.move.in_time (omega (arith, made.move.kept, late, same), tt);
            kept = omega (arith, kept_then made.seen (forgot ∷ []) 0, next, same);
          };
          shows = subst (λ (x : List Seen). ShowsInSections w (outside net x) (made.seen ++ forgot ∷ [])) (sym forgot_all)
              (sections_in_order.more w (outside net slots) (after_forgetting (outside net slots)) made.seen (forgot ∷ []) made.shows (forgotten_section (outside net slots)));
        },
      );
  count_is = e.count_is;
  going = e.going;
  site = e.site;
  fits = subst (λ (x : List Seen). Fits d.exposed.site x) (sym forgot_all) (fits_forgotten d.exposed.site slots e.fits);
}

-- the handlers forgot if that was due
pub endures_checked : (most : ℕ) (c d : Layers) (w : Outside) (net : NetSeen) (slots after : List Seen) (count due turns later : ℕ) → Endures most c d w (outside net slots) count due → turns ≡ d.exposed.state.turns → ForgetsIfDue turns due later slots after → Endures most c d w (outside net after) count later
endures_checked most c d w net slots after count due turns later e are (isnt_due early same stays) =
    subst (λ (k : ℕ). Endures most c d w (outside net after) count k) (sym same) (subst (λ (x : List Seen). Endures most c d w (outside net x) count due) (sym stays) e)
endures_checked most c d w net slots after count due turns later e are (is_due late next forgot_all) =
    endures_forgotten most c d w net slots after count due turns later e are late next forgot_all

pub checked_early : (turns due later : ℕ) (slots after : List Seen) → ForgetsIfDue turns due later slots after → turns < later
checked_early turns due later slots after (isnt_due early same stays) = omega (arith, early, same)
checked_early turns due later slots after (is_due late next forgot_all) = omega (arith, next)

-- an event came while fewer turns were kept and numbers were left, and its step was made
pub rounds_more : (most : ℕ) (c d f : Layers) (w : Outside) (n m : NetSeen) (slots : List Seen) (u : Outside) (count due : ℕ) (e : EventWithBytes) (p : Endures most c d w (outside n slots) count due) → d.exposed.state.turns < due → d.exposed.state.turns < most → NetShows n m (heard e ∷ []) → Refines StandsFor Shows (Step d.exposed.site e) d f (outside m slots) u → Refines StandsFor ShowsInSections (Rounds c.exposed.site most (p.took ++ e ∷ []) due) c f w u
rounds_more most c d f w n m slots u count due e p early left comes step = λ s stands.
    let before = p.rounds s stands in
    let t = before.0 in
    let stands_t = before.1 in
    let made = before.2 in
    let stepped = subst (λ (x : Site). Refines StandsFor Shows (Step x e) d f (outside m slots) u) p.site step t stands_t in
    let v = stepped.0 in
    let one = stepped.2 in
    let same : t.thing.turns ≡ d.exposed.state.turns = ap (λ x. x.turns) stands_t.thing in
    let keeps = step_keeps c.exposed.site e t one.seen v one.move in
    let ran = run_keeps c.exposed.site p.took s (seen_in made.seen) t made.move.run in
    let more : List Sighting = at_network (heard e) ∷ one.seen in
    let joined : seen_in (made.seen ++ shown_of more) ≡ seen_in made.seen ++ more =
    filter_map-append seen_of made.seen (shown_of more) ∙ ap (λ x. seen_in made.seen ++ x) (seen_of_shown more) in (
      v,
      stepped.1,
      record {
        seen = made.seen ++ shown_of more;
        move = record {
          run = subst (λ (x : List Sighting). Run c.exposed.site (p.took ++ e ∷ []) s x v) (sym joined)
              (each_more (EventAndStep c.exposed.site) p.took e s t v (seen_in made.seen) more made.move.run
              (record { mid = t; first = at_network (heard e) ∷ []; second = one.seen; one = record { next = refl; saw = refl }; other = one.move; whole = refl }));
          in_time = in_time_then most made.seen (shown_of more) 0 s.thing.turns made.move.in_time (
            omega (arith, made.move.kept, early, same),
            omega (arith, turns_of_shown made.seen s.thing.turns, ran.count, same, left),
            quiet_in_time most one.seen (kept_after 0 made.seen) (turns_after s.thing.turns made.seen) keeps.hears,
          );
          kept = omega (arith, kept_then made.seen (shown_of more) 0, kept_of_seen one.seen (kept_after 0 made.seen), made.move.kept, keeps.count);
        };
        shows = sections_in_order.more w (outside n slots) u made.seen (shown_of more) made.shows
            (section (outside n slots) u (shown_of more) more refl
            (shows_in_order.more (outside n slots) (outside m slots) u (at_network (heard e) ∷ []) one.seen (shows_at_network n m slots (heard e) comes) one.shows));
      },
    )

-- an event was taken that is no stop
pub endures_more : (most : ℕ) (c d f : Layers) (w : Outside) (n m : NetSeen) (slots : List Seen) (u : Outside) (count due : ℕ) (e : EventWithBytes) → Endures most c d w (outside n slots) count due → d.exposed.state.turns < due → d.exposed.state.turns < most → NetShows n m (heard e ∷ []) → Refines StandsFor Shows (Step d.exposed.site e) d f (outside m slots) u → f.exposed.site ≡ d.exposed.site → Fits f.exposed.site u.slots → e.event.what ≢ what.Stop → Endures most c f w u (count + 1) due
endures_more most c d f w n m slots u count due e p early left comes step same fits goes = record {
  took = p.took ++ e ∷ [];
  rounds = rounds_more most c d f w n m slots u count due e p early left comes step;
  count_is = omega (arith, length-append p.took (e ∷ []), p.count_is);
  going = no_stop_more p.took e p.going goes;
  site = same ∙ p.site;
  fits = fits;
}

-- ---- ends

-- nothing more happens after some rounds
quiet_end : (site : Site) (bounds : RunBounds) (result : SectionsEnd) (took : List EventWithBytes) (due : ℕ) (c d : Layers) (w v : Outside) → ((s : State) → EndsSections result s ≡ Stays s) → ((t : State) → StandsFor d t → AreTakenInSections bounds t.thing.turns took result) → Refines StandsFor ShowsInSections (Rounds site bounds.turns took due) c d w v → Refines StandsFor ShowsInSections (ServesInSections site bounds result) c d w v
quiet_end site bounds result took due c d w v quiet taken rounds = λ s stands.
    let before = rounds s stands in
    let t = before.0 in
    let made = before.2 in (
      t,
      before.1,
      record {
        seen = made.seen;
        move = record {
          took = took;
          run = record {
            mid = t;
            first = seen_in made.seen;
            second = [];
            one = made.move.run;
            other = subst (λ (P : List Sighting → State → Type 0). P [] t) (sym (quiet t)) (record { next = refl; saw = refl });
            whole = sym (append-nil (seen_in made.seen));
          };
          taken = taken t before.1;
          in_time = made.move.in_time;
        };
        shows = made.shows;
      },
    )

-- a stop was taken
pub sections_stopped : (c d f : Layers) (w : Outside) (n m : NetSeen) (slots : List Seen) (u : Outside) (bounds : RunBounds) (count due : ℕ) (e : EventWithBytes) → Endures bounds.turns c d w (outside n slots) count due → count < bounds.events → d.exposed.state.turns < due → d.exposed.state.turns < bounds.turns → NetShows n m (heard e ∷ []) → Refines StandsFor Shows (Step d.exposed.site e) d f (outside m slots) u → e.event.what ≡ what.Stop → Refines StandsFor ShowsInSections (ServesInSections c.exposed.site bounds ending.Stopped) c f w u
sections_stopped c d f w n m slots u bounds count due e p below early left comes step stops =
    quiet_end c.exposed.site bounds ending.Stopped (p.took ++ e ∷ []) due c f w u (λ s. refl)
    (λ t stands. (p.took, e, refl, stops, p.going, omega (arith, length-append p.took (e ∷ []), p.count_is, below)))
    (rounds_more bounds.turns c d f w n m slots u count due e p early left comes step)

-- the run has as many turns as it may have
pub sections_numbered : (c d : Layers) (w v : Outside) (bounds : RunBounds) (count due : ℕ) → Endures bounds.turns c d w v count due → bounds.turns ≤ d.exposed.state.turns → Refines StandsFor ShowsInSections (ServesInSections c.exposed.site bounds ending.Spent) c d w v
sections_numbered c d w v bounds count due p all =
    quiet_end c.exposed.site bounds ending.Spent p.took due c d w v (λ s. refl) (λ t stands. (p.going, inl (omega (arith, ap (λ x. x.turns) stands.thing, all)))) p.rounds

-- it has as many events
pub sections_spent : (c d : Layers) (w v : Outside) (bounds : RunBounds) (count due : ℕ) → Endures bounds.turns c d w v count due → count ≡ bounds.events → Refines StandsFor ShowsInSections (ServesInSections c.exposed.site bounds ending.Spent) c d w v
sections_spent c d w v bounds count due p all =
    quiet_end c.exposed.site bounds ending.Spent p.took due c d w v (λ s. refl) (λ t stands. (p.going, inr (p.count_is ∙ all))) p.rounds

-- the network failed
pub sections_failed : (c d : Layers) (w : Outside) (n m : NetSeen) (slots : List Seen) (bounds : RunBounds) (count due : ℕ) → Endures bounds.turns c d w (outside n slots) count due → count < bounds.events → NetShows n m (broke next_event ∷ []) → Refines StandsFor ShowsInSections (ServesInSections c.exposed.site bounds ending.Failed) c d w (outside m slots)
sections_failed c d w n m slots bounds count due p below breaks = λ s stands.
    let before = p.rounds s stands in
    let t = before.0 in
    let made = before.2 in
    let last : List Shown = saw (at_network (broke next_event)) ∷ [] in (
      t,
      before.1,
      record {
        seen = made.seen ++ last;
        move = record {
          took = p.took;
          run = record {
            mid = t;
            first = seen_in made.seen;
            second = at_network (broke next_event) ∷ [];
            one = made.move.run;
            other = record { next = refl; saw = refl };
            whole = filter_map-append seen_of made.seen last;
          };
          taken = (p.going, omega (arith, p.count_is, below));
          in_time = in_time_then bounds.turns made.seen last 0 s.thing.turns made.move.in_time tt;
        };
        shows = sections_in_order.more w (outside n slots) (outside m slots) made.seen last made.shows
            (section (outside n slots) (outside m slots) last (at_network (broke next_event) ∷ []) refl (shows_at_network n m slots (broke next_event) breaks));
      },
    )
